use Rattle.std.proofs.Common.{sym, ◌∙◌}
use Rattle.source_run.proofs.Joining.{none_more}
use Rattle.source_run.proofs.joins.values_in.Goals as goal

pub loop-part-preserved : goal.loop-part-preserved
loop-part-preserved c = c.loop-part.invariant ∙ sym (none_more c.loop-part.yielded c.in-Some.part (sym c.value_in.ensures ∙ c.in-None-value_in.is))
