use Rattle.early_cutter.proofs.PlainResults.{ordered_results}
use Rattle.early_cutter.proofs.laws.ordered_runs_are_plain.Goals as goal

pub returns : goal.returns
returns c = ordered_results c.serial_is_plain.ensures.plain
