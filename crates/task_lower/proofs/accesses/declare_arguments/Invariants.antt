use Rattle.std.proofs.Common.{◌≡◌, ◌++◌, drop, map}
use Rattle.std.specs.List.{flat_map}
use Rattle.flat_code.specs.declared.graph.VariableType.TheVariants.{One}
use Rattle.body_code.specs.StatementCode.{var_type}
use Rattle.task_lower.proofs.accesses.declare_arguments.Given as goal

abbrev pub invariant-loop-found : goal.invariant-loop-found
invariant-loop-found l = l.variables ++ map One (flat_map var_type (drop l.found-index l.types)) ≡ l.initial.variables ++ map One (flat_map var_type l.types)
