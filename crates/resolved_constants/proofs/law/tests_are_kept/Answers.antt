use Rattle.resolved_constants.proofs.Tests.{tests_kept}
use Rattle.resolved_constants.proofs.law.tests_are_kept.Goals as goal

pub returns : goal.returns
returns c = tests_kept c.constants_are_kept.ensures
