use Rattle.std.proofs.Common.{Option, get_or, drop, ap, sym, ◌∙◌, ◌+◌, length, arith}
use Rattle.std.proofs.lemmas.List.{drop_more, drop_all}
use Rattle.sdg_base.specs.declared.val.Val.{Val}
use Rattle.flat_code.specs.Fits.{has_types}
use Rattle.task_code.specs.Taken.{has_type_at, is_absent}
use Rattle.task_code.proofs.Typed.{stops, passes, ends}
use Rattle.task_code.proofs.fits.has_types.Goals as goal

pub returns-then-not-has_type_at : goal.returns-then-not-has_type_at
returns-then-not-has_type_at c =
    let m = c.args.method.now in
    let n = get_or c.args.numbers.now c.loop-index.index 0 in
    stops m (drop c.loop-index.index c.args.numbers.now) (drop (c.loop-index.index + 1) c.args.numbers.now) n c.loop-index.index c.args.values.now (has_types m c.args.numbers.now c.args.values.now)
    (drop_more c.args.numbers.now c.loop-index.index 0 c.loop-index-test.true) c.loop-index.invariant
    (ap (λ (o : Option Val). has_type_at m n o) (sym c.at-value.ensures) ∙ sym c.has_type_at.ensures ∙ c.if-not-has_type_at.true)

pub loop-index-preserved : goal.loop-index-preserved
loop-index-preserved c =
    let m = c.args.method.now in
    let n = get_or c.args.numbers.now c.loop-index.index 0 in
    passes m (drop c.loop-index.index c.args.numbers.now) (drop (c.loop-index.index + 1) c.args.numbers.now) n c.loop-index.index c.args.values.now (has_types m c.args.numbers.now c.args.values.now)
    (drop_more c.args.numbers.now c.loop-index.index 0 c.loop-index-test.true) c.loop-index.invariant
    (ap (λ (o : Option Val). has_type_at m n o) (sym c.at-value.ensures) ∙ sym c.has_type_at.ensures ∙ c.if-not-has_type_at.false)

pub returns : goal.returns
returns c =
    let m = c.args.method.now in
    c.is_absent.ensures ∙ ap is_absent c.at-more.ensures
    ∙ ends m (drop c.loop-index.index c.args.numbers.now) c.loop-index.index (length c.args.numbers.now) c.args.values.now (has_types m c.args.numbers.now c.args.values.now)
    (drop_all c.loop-index.index c.args.numbers.now c.loop-index-test.false) (omega arith) c.loop-index.invariant
