use Rattle.std.proofs.Common.{◌≤◌, length}
use Rattle.java_flow.proofs.Words.{Joined}
use Rattle.java_flow.proofs.bits.join.Given as goal

abbrev pub invariant-loop-at : goal.invariant-loop-at
invariant-loop-at l = record {
  long : length l.others ≤ length l.words.items;
  joined : Joined l.fn.words.items l.others l.at l.words.items;
}
