use Rattle.tagged_agreement.proofs.Outcomes.{visits_are_of_the_noted}
use Rattle.tagged_agreement.proofs.visits_are_of_the_noted.Goals as goal

pub returns : goal.returns
returns g c = visits_are_of_the_noted _ _
