use Rattle.tagged_agreement.proofs.Folds.{cells_are_their_entries}
use Rattle.tagged_agreement.proofs.cells_are_their_entries.Goals as goal

pub returns : goal.returns
returns g c = cells_are_their_entries _
