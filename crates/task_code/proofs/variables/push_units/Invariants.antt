use Rattle.std.proofs.Common.{◌≡◌, ◌++◌}
use Rattle.std.proofs.Math.ListN.{replicate}
use Rattle.sdg_base.specs.declared.val.Val.TheVariants as val
use Rattle.task_code.proofs.variables.push_units.Given as goal

abbrev pub invariant-loop-unit : goal.invariant-loop-unit
invariant-loop-unit l = l.variables.items ≡ l.fn.variables.items ++ replicate l._unit val.Unit
