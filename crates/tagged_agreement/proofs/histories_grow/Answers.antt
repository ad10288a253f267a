use Rattle.tagged_agreement.proofs.Outcomes.{histories_grow}
use Rattle.tagged_agreement.proofs.histories_grow.Goals as goal

pub returns : goal.returns
returns g c = histories_grow _
