use Rattle.std.proofs.Common.{refl}
use Rattle.graph_cells.proofs.Shown.{shows_trimmed}
use Rattle.graph_cells.proofs.cell.Cell.trim.Goals as goal

pub returns-clause-shows : goal.returns-clause-shows
returns-clause-shows c =
    shows_trimmed c.args.self.now (record { state = c.args.self.now.state; gather = c.args.self.now.gather; marks = c.args.self.now.marks; outboxes = c.trim.new.self; position = c.args.self.now.position }) c.args.to c.args.upto refl refl refl refl
    c.trim.ensures.last c.trim.ensures.kept c.trim.ensures.others
