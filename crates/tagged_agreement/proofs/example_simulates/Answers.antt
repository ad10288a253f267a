use Rattle.tagged_agreement.proofs.Example.{example_simulates}
use Rattle.tagged_agreement.proofs.example_simulates.Goals as goal

pub returns : goal.returns
returns c = example_simulates
