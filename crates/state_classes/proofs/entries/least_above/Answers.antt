use Rattle.std.proofs.Common.{sym, ◌∙◌}
use Rattle.state_classes.proofs.Order.{above_is, above_is_none}
use Rattle.state_classes.proofs.entries.least_above.Goals as goal

pub returns-in-Some-clause-key : goal.returns-in-Some-clause-key
returns-in-Some-clause-key g c = sym (above_is g.K.Ord.cmp c.args.key _ _ _ (sym (c.range.ensures.between tt) ∙ c.in-Some.ensures.steps))

pub returns-in-None-clause-key : goal.returns-in-None-clause-key
returns-in-None-clause-key g c = sym (above_is_none g.K.Ord.cmp c.args.key _ (sym (c.range.ensures.between tt) ∙ c.in-None.ensures.steps.0))
