use Rattle.std.proofs.Common.{None}
use Rattle.sdg_keep.proofs.Holding.{sync-model}
use Rattle.sdg_keep.proofs.sure_keep.SureKeepKeep.sync.Goals as goal

pub returns-clause-model : goal.returns-clause-model
returns-clause-model c = sync-model _ _ None _ _ c.make.ensures.sure c.make.ensures.made
