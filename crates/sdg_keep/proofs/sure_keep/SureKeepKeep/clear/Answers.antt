use Rattle.std.proofs.Common.{None}
use Rattle.sdg_keep.proofs.Holding.{clear-model}
use Rattle.sdg_keep.proofs.sure_keep.SureKeepKeep.clear.Goals as goal

pub returns-clause-model : goal.returns-clause-model
returns-clause-model c = clear-model _ _ None _ c.make.ensures.sure c.make.ensures.made
