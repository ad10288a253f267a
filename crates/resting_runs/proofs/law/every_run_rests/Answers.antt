use Rattle.resting_runs.proofs.Rests.{rested, once}
use Rattle.resting_runs.proofs.law.every_run_rests.Goals as goal

pub returns-clause-rests : goal.returns-clause-rests
returns-clause-rests c = rested

pub returns-clause-once : goal.returns-clause-once
returns-clause-once c = once
