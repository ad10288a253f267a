use Rattle.std.proofs.Common.{◌+◌, List, Some, refl, ap, ◌∙◌}
use Rattle.sdg_base.specs.declared.port.Port.{Port}
use Rattle.sdg_base.specs.declared.item.Item.{Item}
use Rattle.cell_machine.specs.Held.{state_held}
use Rattle.cell_machine.proofs.Shown.{shows_after, trimmed_at}
use Rattle.cell_machine.proofs.cell.Cell.take.Goals as goal

pub returns-clause-shows : goal.returns-clause-shows
returns-clause-shows c =
    shows_after c.args.graph.now c.args.slots c.args.port c.args.from c.addressed-to.result.0 c.args.item.now c.addressed-to.result.1 c.args.self.now
    (record { state = c.run_task.new.state; marks = c.raise.new.self; outboxes = c.send.new.self; position = c.args.self.now.position + 1 })
    (record {
      ran = c.in_ok-out.ensures.ran ∙ ap (λ (os : List (Port × Item)). Some (record { outputs = os; state = state_held c.run_task.new.state })) c.addressed-to.ensures;
      sends = record { here = record { last = c.in_ok-send.ensures.last; kept = c.in_ok-send.ensures.kept }; others = c.in_ok-send.ensures.others };
      marks = record { here = c.in_ok-raise.ensures.ok; others = c.in_ok-raise.ensures.others };
      position = refl;
    })

pub returns-clause-trimmed : goal.returns-clause-trimmed
returns-clause-trimmed c =
    trimmed_at c.addressed-to.result.0 c.addressed-to.result.1 c.args.self.now.outboxes c.send.new.self
    (record { here = record { last = c.in_ok-send.ensures.last; kept = c.in_ok-send.ensures.kept }; others = c.in_ok-send.ensures.others })
