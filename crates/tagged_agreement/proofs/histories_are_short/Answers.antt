use Rattle.tagged_agreement.proofs.Outcomes.{histories_are_short}
use Rattle.tagged_agreement.proofs.histories_are_short.Goals as goal

pub returns : goal.returns
returns g c = histories_are_short _ _ _ _ _
