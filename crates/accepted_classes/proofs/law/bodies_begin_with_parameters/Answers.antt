use Rattle.accepted_classes.proofs.Entering.{no_locals}
use Rattle.accepted_classes.proofs.InScope.{parameters_in_scope}
use Rattle.accepted_classes.proofs.MarkedEntering.{no_marks}
use Rattle.accepted_classes.proofs.law.bodies_begin_with_parameters.Goals as goal

pub returns : goal.returns
returns c = record { parameters = parameters_in_scope; no_locals = no_locals; no_marks = no_marks }
