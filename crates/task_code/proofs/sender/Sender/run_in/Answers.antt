use Rattle.std.proofs.Common.{Some}
use Rattle.task_code.specs.Begun.{task_begun}
use Rattle.task_code.proofs.Partway.{none_made}
use Rattle.task_code.proofs.sender.Sender.run_in.Goals as goal

pub returns-in_err-carried_variables-clause-left : goal.returns-in_err-carried_variables-clause-left
returns-in_err-carried_variables-clause-left g c =
    none_made (Some (task_begun c.args.engine.now c.args.method.now c.args.task.now c.args.turns c.args.values.now)) (g.A.Access.held c.args.state.now)
