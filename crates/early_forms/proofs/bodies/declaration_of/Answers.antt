use Rattle.early_forms.proofs.Layers.{declaration_none}
use Rattle.early_forms.proofs.bodies.declaration_of.Goals as goal

pub returns-in_default-2 : goal.returns-in_default-2
returns-in_default-2 c =
    declaration_none _ _ (rw c.in_default.is at c.in_ok-field.ensures) (rw c.in_default-2.is at c.in_ok-value.ensures)
