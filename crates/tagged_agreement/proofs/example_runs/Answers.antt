use Rattle.tagged_agreement.proofs.Example.{example_runs}
use Rattle.tagged_agreement.proofs.example_runs.Goals as goal

pub returns : goal.returns
returns c = example_runs
