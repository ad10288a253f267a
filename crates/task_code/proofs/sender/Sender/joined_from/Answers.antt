use Rattle.std.proofs.Common.{List, Some, sym, ap, ◌∙◌}
use Rattle.flat_code.specs.Items.{gathered_of, with_part}
use Rattle.sdg_base.specs.declared.item.Item.{Item}
use Rattle.sdg_base.specs.declared.val.Val.{Val}
use Rattle.task_code.specs.Gathering.{after}
use Rattle.task_code.specs.Given.{sender_of}
use Rattle.task_code.specs.Begun.{begun_join_from}
use Rattle.task_code.proofs.Gathered.{joined_other}
use Rattle.task_code.proofs.Partway.{none_made}
use Rattle.task_code.proofs.sender.Sender.joined_from.Goals as goal

pub returns-in-Some-clause-gives : goal.returns-in-Some-clause-gives
returns-in-Some-clause-gives g c =
    joined_other (sender_of c.args.self.now) (with_part c.args.part.now c.args.others.now) c.in-Part.call c.in-Part.task c.in-Part.width c.in-Part.instance c.in-Part.turns c.in-Part.vars _ c.in-Part.value c.in-Some.how _ (g.A.Access.held c.args.state.now)
    (c.lowest.ensures ∙ ap (λ (x : Item). Some x) c.in-Part.is)
    (ap (λ (vs : List Val). after vs (gathered_of (with_part c.args.part.now c.args.others.now))) (sym c.new-values.ensures) ∙ c.in_ok-how-in-Part.ensures) c.in-Some.is
    ∙ c.done.ensures (g.A.Access.held c.args.state.now)

pub returns-in_err-how-in-Part-clause-left : goal.returns-in_err-how-in-Part-clause-left
returns-in_err-how-in-Part-clause-left g c =
    none_made (begun_join_from c.args.self.now.graph.now (with_part c.args.part.now c.args.others.now)) (g.A.Access.held c.args.state.now)
