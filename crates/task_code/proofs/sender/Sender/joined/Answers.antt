use Rattle.std.proofs.Common.{◌∙◌, arith}
use Rattle.std.proofs.lemmas.Result.{IfOk-weaker}
use Rattle.flat_code.specs.Items.{with_part}
use Rattle.task_code.specs.Begun.{begun_join}
use Rattle.task_code.specs.Given.{sender_of}
use Rattle.task_code.proofs.Calling.{some_along}
use Rattle.task_code.proofs.Gathered.{starts, waits, runs_joined}
use Rattle.task_code.proofs.Partway.{none_made, left_along}
use Rattle.task_code.proofs.sender.Sender.joined.Goals as goal

pub returns-then-saturating_add-from-clause-gives : goal.returns-then-saturating_add-from-clause-gives
returns-then-saturating_add-from-clause-gives g c =
    waits (sender_of c.args.self.now) c.args.width c.args.part.now c.args.others.now (g.A.Access.held c.args.state.now) (omega (arith, c.saturating_add.ensures, c.from.ensures))

pub returns-then-saturating_add-from-clause-left : goal.returns-then-saturating_add-from-clause-left
returns-then-saturating_add-from-clause-left g c =
    none_made (begun_join c.args.self.now.graph.now c.args.width (with_part c.args.part.now c.args.others.now)) (g.A.Access.held c.args.state.now)

pub joined_from-requires : goal.joined_from-requires
joined_from-requires g c =
    some_along _ _ (starts (sender_of c.args.self.now) c.args.width c.args.part.now c.args.others.now (g.A.Access.held c.args.state.now) (omega (arith, c.saturating_add.ensures, c.from.ensures))) c.requires

pub returns-clause-gives : goal.returns-clause-gives
returns-clause-gives g c =
    IfOk-weaker c.joined_from.result _ _
    (λ out given. starts (sender_of c.args.self.now) c.args.width c.args.part.now c.args.others.now (g.A.Access.held c.args.state.now) (omega (arith, c.saturating_add.ensures, c.from.ensures)) ∙ given)
    c.joined_from.ensures.gives

pub returns-clause-left : goal.returns-clause-left
returns-clause-left g c =
    left_along _ _ (g.A.Access.held c.args.state.now) (g.A.Access.held c.joined_from.new.state)
    (runs_joined c.args.self.now.graph.now c.args.width c.args.part.now c.args.others.now (omega (arith, c.saturating_add.ensures, c.from.ensures))) c.joined_from.ensures.left
