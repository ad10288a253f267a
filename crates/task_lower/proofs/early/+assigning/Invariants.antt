use Rattle.std.proofs.Common.{◌≡◌, ◌++◌, drop, map}
use Rattle.body_code.specs.Early as spec
use Rattle.task_lower.specs.Early.{noted}
use Rattle.task_lower.proofs.early.+assigning.Given as goal

abbrev pub invariant-all_assigned-loop-st : goal.invariant-all_assigned-loop-st
invariant-all_assigned-loop-st l =
    l.all ++ map noted (spec.all_of (map spec.assigned_in (drop l.st-index l.statements))) ≡ l.initial.all ++ map noted (spec.all_of (map spec.assigned_in l.statements))
