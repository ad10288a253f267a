use Rattle.std.proofs.Common.{◌≡◌, ap, arith}
use denote.Param.Weighed.{most}
use Rattle.java_tree.specs.declared.tree.CallForm.{CallForm}
use Rattle.java_tree.specs.declared.tree.CallForm.TheVariants as call
use Rattle.java_tree.proofs.tree.CallForm.TheLaws as call_laws
use Rattle.java_tree.proofs.tree.Value.TheLaws as value_laws
use Rattle.annotations.proofs.Sizes.{args_smaller}
use Rattle.annotations.proofs.expressions.+expressions.Goals as goal

pub call-arguments-requires-in-OfMember : goal.call-arguments-requires-in-OfMember
call-arguments-requires-in-OfMember t c =
    let whole : call_laws.the_size c.args.form.now ≡ call_laws.the_size (call.OfMember c.in-OfMember.field-0 c.in-OfMember.index c.in-OfMember.field-2 c.in-OfMember.args) =
    ap (λ (f : CallForm). call_laws.the_size f) c.in-OfMember.is in
    let slice : most (λ x. value_laws.the_size x) c.as_slice-in-OfMember.result.now ≡ most (λ x. value_laws.the_size x) c.in-OfMember.args =
    ap (most (λ x. value_laws.the_size x)) c.as_slice-in-OfMember.ensures in
    let less = args_smaller c.in-OfMember.field-0 c.in-OfMember.index c.in-OfMember.field-2 c.in-OfMember.args in
    (omega (arith, c.decreases, whole, slice, less), tt)
