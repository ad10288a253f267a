use Rattle.std.proofs.Common.{arith, ℕ, get_or}
use Rattle.std.proofs.Math.ListN.{length-set}
use Rattle.std.proofs.lemmas.List.{get_or_default}
use Rattle.java_flow.proofs.Words.{joined_none, joined_more, joined_all}
use Rattle.java_flow.proofs.bits.join.Goals as goal

pub loop-at-init : goal.loop-at-init
loop-at-init c = record {
  long = c.in_ok-grow.ensures.long;
  joined = joined_none _ _ _ c.in_ok-grow.ensures.same;
}

pub loop-at-preserved : goal.loop-at-preserved
loop-at-preserved c = record {
  long = omega (arith, length-set {A = ℕ}, c.loop-at.invariant.long);
  joined =
      joined_more c.args.words.now.items c.args.others.now c.loop-at.words.items c.loop-at.at c.index_mut.result.now (get_or c.args.others.now c.loop-at.at 0)
      (omega (arith, c.loop-at.invariant.long)) (omega arith) c.index_mut.ensures.value
      (get_or_default c.args.others.now c.loop-at.at _ _ (omega arith))
      c.loop-at.invariant.joined;
}

pub returns : goal.returns
returns c = joined_all _ _ _ c.loop-at.at (omega arith) c.loop-at.invariant.joined
