use Rattle.std.proofs.Common.{◌≡◌, ◌++◌, drop}
use Rattle.task_cutter.specs.Tasks.{tasks_from}
use Rattle.task_cutter.proofs.method.all_tasks.Given as goal

abbrev pub invariant-loop-number : goal.invariant-loop-number
invariant-loop-number l = l.tasks ++ tasks_from l.fields l.live l.number (drop l.number l.methods) ≡ tasks_from l.fields l.live 0 l.methods
