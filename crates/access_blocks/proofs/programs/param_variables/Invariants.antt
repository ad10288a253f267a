use Rattle.std.proofs.Common.{◌≡◌, take, map}
use Rattle.access_blocks.specs.Programs as spec
use Rattle.access_blocks.proofs.programs.param_variables.Given as goal

abbrev pub invariant-loop-param : goal.invariant-loop-param
invariant-loop-param l = l.all ≡ map spec.param_variable (take l.param-index l.params)
