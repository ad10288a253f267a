use Rattle.accepted_classes.proofs.Whole.{no_cycle}
use Rattle.accepted_classes.proofs.law.no_method_calls_itself.Goals as goal

pub returns : goal.returns
returns c = no_cycle
