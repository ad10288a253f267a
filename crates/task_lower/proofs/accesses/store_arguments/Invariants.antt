use Rattle.std.proofs.Common.{◌≡◌, ◌+◌, take}
use Rattle.body_code.specs.StatementCode.{stored_from}
use Rattle.task_lower.specs.Pushing.{Pushes}
use Rattle.task_lower.proofs.accesses.store_arguments.Given as goal

abbrev pub invariant-loop-e : goal.invariant-loop-e
invariant-loop-e l = record {
  variable : l.variable ≡ l.first + l.e-index;
  code : Pushes (stored_from l.scope.context (take l.e-index l.args) l.first) l.initial.code l.code;
}
