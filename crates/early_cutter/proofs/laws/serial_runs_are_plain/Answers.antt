use Rattle.early_cutter.proofs.PlainResults.{serial_results}
use Rattle.early_cutter.proofs.laws.serial_runs_are_plain.Goals as goal

pub returns : goal.returns
returns c = serial_results c.serial_is_plain.ensures.plain
