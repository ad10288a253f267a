use Rattle.sdg_keep.proofs.Holding.{get-model}
use Rattle.sdg_keep.proofs.sure_keep.SureKeepKeep.get.Goals as goal

pub returns-clause-model : goal.returns-clause-model
returns-clause-model c = get-model c.args.self.now.changes c.args.store c.args.name.now _ c.copy_read.result c.bytes_after.ensures c.copy_read.ensures.same
