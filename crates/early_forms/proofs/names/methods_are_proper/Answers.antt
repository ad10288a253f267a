use Rattle.std.proofs.Common.{refl}
use Rattle.std.proofs.lemmas.List.{take_all}
use Rattle.early_forms.specs.Names.{MethodIsProper}
use Rattle.early_forms.proofs.Lists.{all_more}
use Rattle.early_forms.proofs.names.methods_are_proper.Goals as goal

pub loop-method-preserved : goal.loop-method-preserved
loop-method-preserved c =
    let proper = c.in_ok-method_is_proper.ensures in
    let h = c.if-not-branch.false in
    all_more (MethodIsProper c.args.fields.now) c.args.methods.now c.loop-method.method-index c.method-item.result
    c.loop-method-test.true c.method-item.is c.loop-method.invariant (proper.0 h)

pub returns : goal.returns
returns c =
    (λ yes. rw (take_all c.loop-method.method-index c.args.methods.now c.loop-method-test.false) at c.loop-method.invariant, λ all. refl)
