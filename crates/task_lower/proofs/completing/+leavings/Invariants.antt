use Rattle.std.proofs.Common.{◌≡◌, ◌||◌, drop, map}
use Rattle.body_code.specs.Completing as spec
use Rattle.task_lower.proofs.ListEnds.{from}
use Rattle.task_lower.proofs.completing.+leavings.Given as goal

abbrev pub invariant-leaving_of_all-loop-st : goal.invariant-leaving_of_all-loop-st
invariant-leaving_of_all-loop-st l = record {
  completes : from l.completes (map spec.leaving_of (drop l.st-index l.all)) ≡ spec.completing (map spec.leaving_of l.all);
  breaks : (l.breaks || spec.breaking (map spec.leaving_of (drop l.st-index l.all))) ≡ spec.breaking (map spec.leaving_of l.all);
}
