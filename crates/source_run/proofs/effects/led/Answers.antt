use Rattle.std.proofs.Common.{ap}
use Rattle.body_run.specs.Seen.{machine_of}
use Rattle.source_run.specs.Seen.{frames_of, started_of, state_of}
use Rattle.source_run.proofs.Leading.{by_running, at_once}
use Rattle.source_run.proofs.effects.led.Goals as goal

pub returns-in-Goes : goal.returns-in-Goes
returns-in-Goes c now call =
    rw c.in-Goes.is (by_running c.args.program.now now call c.as_slice.result.now (frames_of c.in-Goes.frames) (machine_of c.in-Goes.machine) c.run_on.result c.as_slice.ensures c.run_on.ensures)

pub returns-in-Stays : goal.returns-in-Stays
returns-in-Stays c now call =
    at_once c.args.program.now now call (started_of c.args.started) (state_of c.in-Stays.state) c.in-Stays.fields.items (ap started_of c.in-Stays.is)
