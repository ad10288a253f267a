use Rattle.std.proofs.Common.{◌≡◌, take, map}
use Rattle.java_types.specs.Declarations as spec
use Rattle.java_types.proofs.declarations.param_types.Given as goal

abbrev pub invariant-loop-param : goal.invariant-loop-param
invariant-loop-param l = l.types ≡ map spec.param_type (take l.param-index l.params)
