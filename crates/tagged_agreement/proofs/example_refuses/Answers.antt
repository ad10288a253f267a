use Rattle.tagged_agreement.proofs.Example.{example_refuses}
use Rattle.tagged_agreement.proofs.example_refuses.Goals as goal

pub returns : goal.returns
returns c = example_refuses
