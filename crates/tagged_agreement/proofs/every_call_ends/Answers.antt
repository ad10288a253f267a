use Rattle.tagged_agreement.proofs.Outcomes.{every_call_ends}
use Rattle.tagged_agreement.proofs.every_call_ends.Goals as goal

pub returns : goal.returns
returns g c = every_call_ends _ _ _ _ _
