use Rattle.std.proofs.Common.{None}
use Rattle.sdg_keep.proofs.Holding.{append-model}
use Rattle.sdg_keep.proofs.sure_keep.SureKeepKeep.append.Goals as goal

pub returns-clause-model : goal.returns-clause-model
returns-clause-model c = append-model _ _ None _ _ _ c.make.ensures.sure c.make.ensures.made
