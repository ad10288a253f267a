use Rattle.std.proofs.Common.{◌≡◌, ◌++◌, take, map}
use Rattle.body_code.specs.ClassCode as spec
use Rattle.task_lower.proofs.bodies.ones.Given as goal

abbrev pub invariant-loop-found : goal.invariant-loop-found
invariant-loop-found l = l.types ≡ l.initial.types ++ map spec.one_of (take l.found-index l.variables)
