use Rattle.accepted_classes.proofs.Joining.{parameters}
use Rattle.accepted_classes.proofs.law.bodies_have_parameters.Goals as goal

pub returns : goal.returns
returns c = parameters
