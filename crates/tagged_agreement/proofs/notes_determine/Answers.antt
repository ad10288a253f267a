use Rattle.tagged_agreement.proofs.Late.{notes_determine}
use Rattle.tagged_agreement.proofs.notes_determine.Goals as goal

pub returns : goal.returns
returns g c = notes_determine _
