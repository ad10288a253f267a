use Rattle.std.proofs.Common.{Option, ap, sym, ◌∙◌, ◌+◌, ◌-◌, arith}
use Rattle.std.specs.List.{range_with_len}
use Rattle.sdg_base.specs.declared.val.Val.{Val}
use Rattle.flat_code.specs.Fits.{has_types, parameters}
use Rattle.task_code.specs.Taken.{has_type_at, is_absent}
use Rattle.task_code.proofs.Typed.{stops, passes, ends, range_more, range_all}
use Rattle.task_code.proofs.fits.are_arguments.Goals as goal

pub returns-then-not-has_type_at : goal.returns-then-not-has_type_at
returns-then-not-has_type_at c =
    let m = c.args.method.now in
    let n = c.loop-number.number in
    stops m (range_with_len n (m.params - n)) (range_with_len (n + 1) (m.params - (n + 1))) n n c.args.values.now (has_types m (parameters m) c.args.values.now)
    (range_more n m.params c.loop-number-test.true) c.loop-number.invariant
    (ap (λ (o : Option Val). has_type_at m n o) (sym c.at-value.ensures) ∙ sym c.has_type_at.ensures ∙ c.if-not-has_type_at.true)

pub loop-number-preserved : goal.loop-number-preserved
loop-number-preserved c =
    let m = c.args.method.now in
    let n = c.loop-number.number in
    passes m (range_with_len n (m.params - n)) (range_with_len (n + 1) (m.params - (n + 1))) n n c.args.values.now (has_types m (parameters m) c.args.values.now)
    (range_more n m.params c.loop-number-test.true) c.loop-number.invariant
    (ap (λ (o : Option Val). has_type_at m n o) (sym c.at-value.ensures) ∙ sym c.has_type_at.ensures ∙ c.if-not-has_type_at.false)

pub returns : goal.returns
returns c =
    let m = c.args.method.now in
    let n = c.loop-number.number in
    c.is_absent.ensures ∙ ap is_absent c.at-more.ensures
    ∙ ends m (range_with_len n (m.params - n)) n m.params c.args.values.now (has_types m (parameters m) c.args.values.now)
    (range_all n m.params c.loop-number-test.false) (omega arith) c.loop-number.invariant
