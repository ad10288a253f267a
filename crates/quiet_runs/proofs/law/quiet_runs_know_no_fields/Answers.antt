use Rattle.quiet_runs.proofs.Bodies.{bodies_quiet}
use Rattle.quiet_runs.proofs.Bare.{meaning_commutes}
use Rattle.quiet_runs.proofs.Runs.{runs_know}
use Rattle.quiet_runs.proofs.law.quiet_runs_know_no_fields.Goals as goal

pub returns-clause-statements : goal.returns-clause-statements
returns-clause-statements c = meaning_commutes

pub returns-clause-runs : goal.returns-clause-runs
returns-clause-runs c = runs_know

pub returns-clause-bodies : goal.returns-clause-bodies
returns-clause-bodies c = bodies_quiet
