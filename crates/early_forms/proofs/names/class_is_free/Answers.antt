use Rattle.std.proofs.Common.{ap, ◌∙◌, ◌∷◌}
use Rattle.early_forms.proofs.Distinct.{texts}
use Rattle.early_forms.proofs.names.class_is_free.Goals as goal

pub returns : goal.returns
returns c =
    let name = c.args.class.now.name in
    rw (ap texts c.as_slice-2.ensures.value ∙ c.in_ok-names.ensures ∙ ap (λ fields. name ∷ fields) c.as_slice.ensures) at c.are_free.ensures
