use Rattle.sdg_keep.proofs.Holding.{clear-model}
use Rattle.sdg_keep.proofs.memory_keep.MemoryKeepKeep.clear.Goals as goal

pub returns-clause-model : goal.returns-clause-model
returns-clause-model c = clear-model _ _ c.next_fail-fail.result _ (rw c.is_some.ensures at c.make.ensures.exactly) (rw c.unwrap_or.ensures at c.make.ensures.made)
