use Rattle.live_runs.proofs.Runs as runs
use Rattle.live_runs.proofs.law.live_variables_are_enough.Goals as goal

pub returns : goal.returns
returns c = runs.live_variables_are_enough
