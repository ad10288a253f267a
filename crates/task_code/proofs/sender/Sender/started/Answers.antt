use Rattle.task_code.specs.Begun.{begun_start}
use Rattle.std.specs.List.{slice_get}
use Rattle.task_code.proofs.Partway.{none_made}
use Rattle.task_code.proofs.sender.Sender.started.Goals as goal

pub returns-in_err-copied-in-Some-clause-left : goal.returns-in_err-copied-in-Some-clause-left
returns-in_err-copied-in-Some-clause-left g c =
    none_made (begun_start c.args.self.now.graph.now (slice_get c.args.self.now.graph.now.methods c.args.method) c.args.args.now) (g.A.Access.held c.args.state.now)

pub returns-in_err-first_variables-in-Some-clause-left : goal.returns-in_err-first_variables-in-Some-clause-left
returns-in_err-first_variables-in-Some-clause-left g c =
    none_made (begun_start c.args.self.now.graph.now (slice_get c.args.self.now.graph.now.methods c.args.method) c.args.args.now) (g.A.Access.held c.args.state.now)
