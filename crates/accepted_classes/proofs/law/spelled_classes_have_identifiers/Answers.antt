use Rattle.accepted_classes.proofs.Words.{spelled_identifiers}
use Rattle.accepted_classes.proofs.law.spelled_classes_have_identifiers.Goals as goal

pub returns : goal.returns
returns c = spelled_identifiers
