use Rattle.sdg_keep.proofs.Holding.{put-model}
use Rattle.sdg_keep.proofs.memory_keep.MemoryKeepKeep.put.Goals as goal

pub returns-clause-model : goal.returns-clause-model
returns-clause-model c = put-model _ _ c.next_fail-fail.result _ _ _ _ (rw c.is_some.ensures at c.make.ensures.exactly) (rw (c.in_ok-change.ensures.same, c.unwrap_or.ensures) at c.make.ensures.made)
