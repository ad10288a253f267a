use Rattle.early_forms.proofs.Layers.{statement_none}
use Rattle.early_forms.proofs.bodies.statement_of.Goals as goal

pub returns-in_default-2 : goal.returns-in_default-2
returns-in_default-2 c = statement_none _ c.in_default.ensures (rw c.in_default-2.is at c.in_ok-field.ensures)
