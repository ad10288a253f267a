use Rattle.std.proofs.Common.{refl}
use Rattle.cell_machine.proofs.Shown.{shows_trimmed}
use Rattle.cell_machine.proofs.cell.Cell.trim.Goals as goal

pub returns-clause-shows : goal.returns-clause-shows
returns-clause-shows c =
    shows_trimmed c.args.self.now (record { state = c.args.self.now.state; marks = c.args.self.now.marks; outboxes = c.trim.new.self; position = c.args.self.now.position }) c.args.to c.args.upto refl refl refl
    c.trim.ensures.last c.trim.ensures.kept c.trim.ensures.others
