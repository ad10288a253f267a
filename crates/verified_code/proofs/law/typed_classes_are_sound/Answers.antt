use Rattle.verified_code.proofs.Sound as sound
use Rattle.verified_code.proofs.law.typed_classes_are_sound.Goals as goal

-- src/law.rt:9:1
pub returns : goal.returns
returns c = sound.typed_classes_are_sound
