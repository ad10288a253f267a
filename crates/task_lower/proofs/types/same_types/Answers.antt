use Rattle.std.proofs.Common.{sym, ◌∙◌, arith}
use Rattle.task_lower.proofs.Paired.{none_left}
use Rattle.task_lower.proofs.types.same_types.Goals as goal

pub returns-in_default : goal.returns-in_default
returns-in_default c = sym (none_left c.args.left.now c.loop-found.rest.now c.loop-found.found-index (omega arith) c.in_default.len_below) ∙ c.loop-found.invariant
