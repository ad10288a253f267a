use Rattle.std.proofs.Common.{◌≡◌, drop}
use Rattle.flat_code.specs.Types.{same_types}
use Rattle.task_lower.proofs.types.same_types.Given as goal

abbrev pub invariant-loop-found : goal.invariant-loop-found
invariant-loop-found l = same_types (drop l.found-index l.left) l.rest ≡ same_types l.left l.right
