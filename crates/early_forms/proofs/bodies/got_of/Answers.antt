use Rattle.early_forms.proofs.Layers.{got_none_access, got_none_key}
use Rattle.early_forms.proofs.bodies.got_of.Goals as goal

pub returns-in_default-access_of : goal.returns-in_default-access_of
returns-in_default-access_of c = got_none_access _ _ c.in-Some.ensures c.in_default-access_of.ensures

pub returns-in_default-2 : goal.returns-in_default-2
returns-in_default-2 c = got_none_key _ _ _ _ c.in-Some.ensures c.in-Some-access_of.ensures (rw c.in_default-2.is at c.in_ok-key.ensures)
