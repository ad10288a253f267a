use Rattle.early_forms.proofs.Layers.{put_none_sums}
use Rattle.early_forms.proofs.bodies.put_of.Goals as goal

pub returns-in_default-2 : goal.returns-in_default-2
returns-in_default-2 c = put_none_sums _ _ _ _ c.in-Some.ensures c.in-Some-access_of.ensures (rw c.in_default-2.is at c.in_ok-key.ensures)
