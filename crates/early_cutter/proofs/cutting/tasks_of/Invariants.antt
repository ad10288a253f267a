use Rattle.std.proofs.Common.{◌≡◌, ◌++◌, drop}
use Rattle.early_cutter.specs.Cutting.{tasks_from}
use Rattle.early_cutter.proofs.cutting.tasks_of.Given as goal

abbrev pub invariant-loop-number : goal.invariant-loop-number
invariant-loop-number l = l.tasks ++ tasks_from l.number (drop l.number l.methods) ≡ tasks_from 0 l.methods
