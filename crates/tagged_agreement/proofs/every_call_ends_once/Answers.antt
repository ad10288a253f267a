use Rattle.tagged_agreement.proofs.Outcomes.{every_call_ends_once}
use Rattle.tagged_agreement.proofs.every_call_ends_once.Goals as goal

pub returns : goal.returns
returns g c = every_call_ends_once _ _ _ _ _
