use Rattle.std.proofs.Common.{refl}
use Rattle.run_text.specs.Schedules.{StrangeResult}
use Rattle.run_text.proofs.event.event_from.Goals as goal

pub returns-in-Take-clause-bad : goal.returns-in-Take-clause-bad
returns-in-Take-clause-bad c = rw c.in-Take.is c.take_from.ensures.bad

pub returns-in-None-clause-bad : goal.returns-in-None-clause-bad
returns-in-None-clause-bad c = rw c.in-Sink.is (StrangeResult c.in-Sink.from.now refl c.in-None.ensures)
