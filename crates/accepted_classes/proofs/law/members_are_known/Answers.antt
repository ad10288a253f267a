use Rattle.accepted_classes.proofs.FieldsKnown.{field_known}
use Rattle.accepted_classes.proofs.Marked.{merging_same}
use Rattle.accepted_classes.proofs.MethodsKnown.{method_known}
use Rattle.accepted_classes.proofs.law.members_are_known.Goals as goal

pub returns : goal.returns
returns c = record { methods = method_known; fields = λ class quiet. field_known class quiet.types; merging = merging_same }
