use Rattle.accepted_classes.proofs.Joining.{typed}
use Rattle.accepted_classes.proofs.law.classes_of_typed_statements_are_typed.Goals as goal

pub returns : goal.returns
returns c = typed
