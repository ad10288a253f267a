use Rattle.accepted_classes.proofs.Counts.{are_named}
use Rattle.accepted_classes.proofs.law.classes_are_named.Goals as goal

pub returns : goal.returns
returns c = are_named
