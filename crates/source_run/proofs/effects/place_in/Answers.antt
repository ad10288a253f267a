use Rattle.std.proofs.Common.{◌-◌, arith}
use Rattle.source_run.proofs.Setting.{no_call}
use Rattle.source_run.proofs.effects.place_in.Goals as goal

pub returns-else-place-calls : goal.returns-else-place-calls
returns-else-place-calls c = no_call c.args.calls.now c.args.call (c.args.call - 1) (omega arith) (omega arith)
