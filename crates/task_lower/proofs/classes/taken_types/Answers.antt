use Rattle.std.proofs.Common.{map, ap, ◌∙◌}
use Rattle.body_code.specs.Typing.{type_by}
use Rattle.task_lower.proofs.Taken.{taken_is, take_past}
use Rattle.task_lower.proofs.classes.taken_types.Goals as goal

pub returns : goal.returns
returns c = c.loop-found.invariant ∙ ap (map type_by) (take_past _ _ c.loop-found-test.false) ∙ taken_is c.args.arity c.min.result c.args.variables.now c.min.ensures
