use Rattle.java_types.proofs.Earliest.{first_is_least}
use Rattle.java_types.proofs.laws.first_is_least.Goals as goal

pub returns : goal.returns
returns c = first_is_least
