use Rattle.resolved_constants.proofs.Kept.{constants_kept}
use Rattle.resolved_constants.proofs.law.constants_are_kept.Goals as goal

pub returns : goal.returns
returns c = constants_kept c.expressions_are_typed.ensures
