use Rattle.std.proofs.Common.{◌≡◌, take, map}
use Rattle.body_code.specs.Typing.{type_by}
use Rattle.task_lower.proofs.classes.taken_types.Given as goal

abbrev pub invariant-loop-found : goal.invariant-loop-found
invariant-loop-found l = l.types ≡ map type_by (take l.found-index l.taken)
