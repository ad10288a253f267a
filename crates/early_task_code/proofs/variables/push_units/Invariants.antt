use Rattle.std.proofs.Common.{◌≡◌, ◌++◌}
use Rattle.std.proofs.Math.ListN.{replicate}
use Rattle.sdg_base.specs.declared.val.Val.TheVariants as val
use Rattle.early_task_code.proofs.variables.push_units.Given as goal

abbrev pub invariant-loop-unit : goal.invariant-loop-unit
invariant-loop-unit l = l.vars ≡ l.fn.vars ++ replicate l._unit val.Unit
