use Rattle.std.proofs.Common.{arith}
use Rattle.early_plain.proofs.Lookups.{named_later}
use Rattle.early_plain.proofs.scope.argument_of.Goals as goal

pub loop-at-preserved : goal.loop-at-preserved
loop-at-preserved c = named_later _ _ _ c.loop-at.at c.index-parameters-at.result (omega arith) c.requires c.index-parameters-at.is (cc) c.loop-at.invariant
