use Rattle.std.proofs.Common.{◌≡◌, ◌+◌, ◌≤◌, [], length, take, drop}
use Rattle.std.specs.Str.Lines.{lines}
use Rattle.run_text.specs.Histories.{told_lines}
use Rattle.run_text.proofs.history.next_told.Given as goal

-- the lines so far tell nothing, and the other lines are those of the rest
abbrev pub invariant-loop-line : goal.invariant-loop-line
invariant-loop-line l = record {
  silent : told_lines (take l.passed (lines l.text)) ≡ [];
  coming : drop l.passed (lines l.text) ≡ lines l.rest;
  room : l.passed + length l.rest ≤ length l.text;
}

abbrev pub decreases-loop-line : goal.decreases-loop-line
decreases-loop-line l = length l.rest
