use Rattle.early_forms.proofs.Layers.{ending_none_value}
use Rattle.early_forms.proofs.bodies.ending_of.Goals as goal

pub returns-in_default-3 : goal.returns-in_default-3
returns-in_default-3 c =
    ending_none_value _ _ c.in-Some.ensures (rw c.in_default-2.is at c.in_ok-field.ensures) (rw c.in_default-3.is at c.in_ok-value.ensures)
