use Rattle.std.proofs.Common.{Option, refl, subst, sym}
use Rattle.state_classes.specs.States.{State}
use Rattle.graph_cells.specs.Held.{IsHeldAt}
use Rattle.graph_cells.specs.Gathered.{Waiting}
use Rattle.graph_cells.specs.Sound.{AllJoinable}
use Rattle.graph_cells.proofs.Shown.{shows_first, first_right}
use Rattle.graph_cells.proofs.Gathering.{nothing_joinable}
use Rattle.graph_cells.proofs.cell.Cell.new.Goals as goal

pub returns-clause-shows : goal.returns-clause-shows
returns-clause-shows c slots =
    shows_first c.args.graph.now slots c.args.port (record { state = c.new.result; gather = c.new-2.result; marks = c.new-3.result; outboxes = c.new-4.result; position = 0 })
    c.new.ensures c.new-2.ensures c.new-3.ensures c.new-4.ensures refl

pub returns-clause-sound : goal.returns-clause-sound
returns-clause-sound c there = record {
  state = subst (λ (o : Option State). IsHeldAt c.args.graph.now c.args.port o) (sym c.new.ensures) (first_right c.args.graph.now c.args.port there);
  parts = subst (λ (w : Waiting). AllJoinable c.args.graph.now w) (sym c.new-2.ensures) (nothing_joinable c.args.graph.now);
}
