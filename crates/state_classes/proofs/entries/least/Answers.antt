use Rattle.std.proofs.Common.{sym, ◌∙◌}
use Rattle.state_classes.proofs.Order.{least_is, least_is_none}
use Rattle.state_classes.proofs.entries.least.Goals as goal

pub returns-in-Some-clause-key : goal.returns-in-Some-clause-key
returns-in-Some-clause-key g c = sym (least_is g.K.Ord.cmp _ _ _ (sym c.iter.ensures.rest ∙ c.in-Some.ensures.steps))

pub returns-in-None-clause-key : goal.returns-in-None-clause-key
returns-in-None-clause-key g c = sym (least_is_none g.K.Ord.cmp _ (sym c.iter.ensures.rest ∙ c.in-None.ensures.steps.0))
