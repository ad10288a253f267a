use Rattle.std.proofs.Common.{◌≡◌, ◌++◌, drop}
use Rattle.task_cutter.specs.Tasks.{tasks_behind}
use Rattle.task_cutter.proofs.method.add_tasks_behind.Given as goal

abbrev pub invariant-loop-at : goal.invariant-loop-at
invariant-loop-at l =
    l.tasks ++ tasks_behind l.fields l.live l.method l.at (drop l.at l.code) ≡ l.initial.tasks ++ tasks_behind l.fields l.live l.method 0 l.code
