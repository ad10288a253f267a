use Rattle.std.proofs.Common.{ap, ◌∙◌}
use Rattle.early_forms.proofs.parts.method_of.Goals as goal

pub returns-in_default : goal.returns-in_default
returns-in_default c parts same =
    (rw c.in_default.is at c.in_ok-statements.ensures) (parts.statements, parts.ending) (c.as_slice.ensures ∙ ap (λ m. m.body) same)
