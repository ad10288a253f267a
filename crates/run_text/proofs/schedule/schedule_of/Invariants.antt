use Rattle.std.proofs.Common.{◌≡◌, ◌+◌, ◌≤◌, length, take, drop}
use Rattle.std.specs.Str.Lines.{lines}
use Rattle.run_text.proofs.ScheduleText.{SoFar}
use Rattle.run_text.proofs.schedule.schedule_of.Given as goal

-- the lines so far are those of the header and the events, and the other lines are those of the rest
abbrev pub invariant-loop-line : goal.invariant-loop-line
invariant-loop-line l = record {
  so_far : SoFar l.fields (take l.number (lines l.bytes)) l.header l.events;
  coming : drop l.number (lines l.bytes) ≡ lines l.rest;
  room : l.number + length l.rest ≤ length l.bytes;
}

abbrev pub decreases-loop-line : goal.decreases-loop-line
decreases-loop-line l = length l.rest
