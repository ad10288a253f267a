use Rattle.std.proofs.Common.{sym, ◌∙◌}
use Rattle.sdg_keep.specs.Stable.{absent}
use Rattle.sdg_keep.proofs.Holding.{stored-same, read_after-kept}
use Rattle.sdg_keep.proofs.memory_keep.MemoryKeepKeep.get.Goals as goal

pub returns-clause-model : goal.returns-clause-model
returns-clause-model c = (stored-same _ _ c.in_ok-note.ensures.kept.0, c.in_ok-read.ensures.same ∙ c.bytes_after.ensures ∙ sym (read_after-kept absent c.args.self.now.changes c.args.store c.args.name.now))
