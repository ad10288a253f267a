use Rattle.accepted_classes.proofs.Counts.{as_many_fields, as_many_methods}
use Rattle.accepted_classes.proofs.law.classes_are_resolved_whole.Goals as goal

pub returns : goal.returns
returns c = record { fields = as_many_fields; methods = as_many_methods }
