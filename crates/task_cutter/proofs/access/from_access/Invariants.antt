use Rattle.std.proofs.Common.{◌≡◌, drop}
use Rattle.task_cutter.specs.Tasks.{from_access}
use Rattle.task_cutter.proofs.access.from_access.Given as goal

abbrev pub invariant-loop-at : goal.invariant-loop-at
invariant-loop-at l = from_access (drop l.at l.code) ≡ from_access l.code
