use Rattle.tagged_agreement.proofs.Outcomes.{every_history_is_explained}
use Rattle.tagged_agreement.proofs.every_history_is_explained.Goals as goal

pub returns : goal.returns
returns g c = every_history_is_explained _ _ _ _ _
