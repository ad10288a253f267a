use Rattle.std.proofs.Common.{◌≡◌, ◌++◌, drop}
use Rattle.std.specs.List.{flat_map}
use Rattle.body_code.specs.ClassCode as spec
use Rattle.task_lower.proofs.bodies.set_all.Given as goal

abbrev pub invariant-loop-variable : goal.invariant-loop-variable
invariant-loop-variable l = l.code ++ flat_map (spec.set_at_start l.body) (drop l.variable-index l.early) ≡ l.initial.code ++ flat_map (spec.set_at_start l.body) l.early
