use Rattle.tagged_agreement.proofs.Folds.{cells_are_replayed}
use Rattle.tagged_agreement.proofs.cells_are_replayed.Goals as goal

pub returns : goal.returns
returns g c = cells_are_replayed _
