use Rattle.std.proofs.lemmas.Result.{IfOk-weaker}
use Rattle.early_forms.proofs.Proper.{class_proper}
use Rattle.early_forms.proofs.names.is_proper.Goals as goal

pub returns : goal.returns
returns c =
    let fields = rw c.as_slice-fields.ensures at (c.in_ok-fields_differ.ensures.0 c.if-not-branch.false) in
    let names = rw c.as_slice-methods.ensures at (c.in_ok-methods_differ.ensures.0 c.if-not-branch-2.false) in
    let methods = rw (c.as_slice-fields.ensures, c.as_slice-methods.ensures) at (c.in_ok-methods_are_proper.ensures.0 c.if-not-branch-3.false) in
    IfOk-weaker _ _ _
    (λ free says. class_proper c.args.class.now free (c.has_form_size.ensures.0 c.if-not-has_form_size.false) fields names methods says)
    c.class_is_free.ensures
