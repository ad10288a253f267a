use Rattle.std.proofs.Common.{◌+◌, refl}
use Rattle.graph_cells.specs.Held.{held}
use Rattle.graph_cells.specs.Gathered.{found_by}
use Rattle.graph_cells.specs.Processing.{outcome_of, processed}
use Rattle.graph_cells.specs.declared.cell.Cell.{Cell}
use Rattle.graph_cells.proofs.Gathering.{all_joinable_after}
use Rattle.graph_cells.proofs.Processed.{part_fits}
use Rattle.graph_cells.proofs.Shown.{shows_after, took_so}
use Rattle.graph_cells.proofs.cell.Cell.take.Goals as goal

pub returns-clause-shows : goal.returns-clause-shows
returns-clause-shows c slots now e entry shows =
    let new : Cell = record { state = c.process.new.state; gather = c.pass_on.new.gather; marks = c.raise.new.self; outboxes = c.pass_on.new.outboxes; position = c.args.self.now.position + 1 } in
    shows_after c.args.graph.now slots c.args.port c.args.entry.now.from c.args.item.now c.args.entry.now.pick c.args.widths.now c.args.self.now new now e c.requires.item
    (took_so c.args.entry.now.from c.args.item.now
    (processed c.args.graph.now c.args.port c.args.item.now (found_by c.args.item.now c.args.self.now.gather) (held c.args.self.now.state) c.args.entry.now.pick c.args.widths.now)
    (outcome_of c.in_ok-out.out) c.args.self.now new c.in_ok-out.ensures.ran c.in_ok-pass_on.ensures.sends c.in_ok-pass_on.ensures.gathers
    (record { here = c.in_ok-raise.ensures.ok; others = c.in_ok-raise.ensures.others }) refl)
    entry shows

pub returns-clause-sound : goal.returns-clause-sound
returns-clause-sound c = record {
  state = c.in_ok-out.ensures.state;
  parts =
      all_joinable_after c.args.graph.now c.args.item.now (outcome_of c.in_ok-out.out) c.args.self.now.gather c.pass_on.new.gather
      (part_fits c.args.graph.now c.args.widths.now c.args.port c.args.item.now c.requires.item)
      c.in_ok-pass_on.ensures.gathers c.requires.sound.parts;
}
