use Rattle.verified_code.proofs.Verified as verified
use Rattle.verified_code.proofs.law.typed_classes_are_verified.Goals as goal

-- src/law.rt:20:1
pub returns : goal.returns
returns c = verified.typed_classes_are_verified
