use Rattle.std.proofs.Common.{◌≡◌, ◌+◌, ◌≤◌, [], length, take, drop}
use Rattle.std.specs.Str.Lines.{lines}
use Rattle.run_text.specs.Lines.{said_lines}
use Rattle.run_text.proofs.schedule.next_said.Given as goal

-- the lines so far are skipped, and the other lines are those of the rest
abbrev pub invariant-loop-line : goal.invariant-loop-line
invariant-loop-line l = record {
  silent : said_lines (take l.skipped (lines l.text)) ≡ [];
  coming : drop l.skipped (lines l.text) ≡ lines l.rest;
  room : l.skipped + length l.rest ≤ length l.text;
}

abbrev pub decreases-loop-line : goal.decreases-loop-line
decreases-loop-line l = length l.rest
