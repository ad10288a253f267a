use Rattle.tagged_agreement.proofs.Replay.{items_are_taken}
use Rattle.tagged_agreement.proofs.items_are_taken.Goals as goal

pub returns : goal.returns
returns g c = items_are_taken _
