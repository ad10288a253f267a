use Rattle.tagged_agreement.proofs.Late.{late_entries_follow}
use Rattle.tagged_agreement.proofs.late_entries_follow.Goals as goal

pub returns : goal.returns
returns g c = late_entries_follow _
