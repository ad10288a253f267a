use Rattle.std.proofs.Common.{◌≡◌, ◌+◌, ◌≤◌, length, take, drop}
use Rattle.std.specs.Str.Lines.{lines}
use Rattle.run_text.specs.Calls.{AreCalls}
use Rattle.run_text.proofs.calls.calls_of.Given as goal

-- the lines so far are those of the calls, and the other lines are those of the rest
abbrev pub invariant-loop-line : goal.invariant-loop-line
invariant-loop-line l = record {
  so_far : AreCalls l.entrances (take l.number (lines l.bytes)) l.calls;
  coming : drop l.number (lines l.bytes) ≡ lines l.rest;
  room : l.number + length l.rest ≤ length l.bytes;
}

abbrev pub decreases-loop-line : goal.decreases-loop-line
decreases-loop-line l = length l.rest
