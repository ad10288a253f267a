use Rattle.std.proofs.Common.{ap, ◌∙◌}
use Rattle.early_forms.proofs.Distinct.{texts}
use Rattle.early_forms.proofs.Proper.{method_proper}
use Rattle.early_forms.proofs.names.method_is_proper.Goals as goal

pub returns : goal.returns
returns c =
    method_proper c.args.fields.now c.args.method.now c.as_slice.result.now c.as_slice-2.result.now _
    (ap texts c.as_slice.ensures.value ∙ c.in_ok-in_class.ensures) (ap texts c.as_slice-2.ensures.value ∙ c.in_ok-own.ensures)
    (c.in_ok-are_distinct.ensures.0 c.if-not-branch.false) (c.in_ok-body_is_known.ensures.0 c.if-not-branch-2.false) c.are_free.ensures
