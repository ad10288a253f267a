use Rattle.std.proofs.Common.{◌≤◌, length}
use Rattle.sdg_top.proofs.Entering.{AreEntered}
use Rattle.sdg_top.proofs.called.entrances_of.Given as goal

abbrev pub invariant-loop-member : goal.invariant-loop-member
invariant-loop-member l = record {
  all : AreEntered l.member-items l.member-index l.number l.entrances.items;
  few : length l.entrances.items ≤ l.number;
  room : l.number ≤ 65536;
}
