use Rattle.std.proofs.Common.{◌≡◌, ◌+◌, ◌≤◌, length, drop}
use Rattle.std.specs.Str.Lines.{lines}
use Rattle.run_text.specs.Histories.{widths_behind}
use Rattle.run_text.specs.HistoryReading.{IsRoom}
use Rattle.run_text.proofs.HistoryText.{SoFarTold}
use Rattle.run_text.proofs.history.history_of.Given as goal

-- the lines so far are those of the steps, the widths are those behind the steps, and the other lines are those of the rest
abbrev pub invariant-loop-line : goal.invariant-loop-line
invariant-loop-line l = record {
  so_far : SoFarTold l.fields l.calls (lines l.bytes) l.number l.width l.steps l.numbers;
  extent : IsRoom l.fields l.room;
  widths : l.room.widths ≡ widths_behind (length l.fields) l.width l.steps;
  coming : drop l.number (lines l.bytes) ≡ lines l.rest;
  bound : l.number + length l.rest ≤ length l.bytes;
}

abbrev pub decreases-loop-line : goal.decreases-loop-line
decreases-loop-line l = length l.rest
