use Rattle.std.proofs.Common.{None}
use Rattle.sdg_keep.proofs.Holding.{put-model}
use Rattle.sdg_keep.proofs.sure_keep.SureKeepKeep.put.Goals as goal

pub returns-clause-model : goal.returns-clause-model
returns-clause-model c = put-model _ _ None _ _ _ _ c.make.ensures.sure (rw c.in_ok-change.ensures.same at c.make.ensures.made)
