use Rattle.std.proofs.Common.{List, Some, refl, sym, ap, ◌∙◌, ◌+◌, drop}
use Rattle.std.proofs.lemmas.Option.{slice_get_read}
use Rattle.sdg_base.specs.declared.val.Val.{Val}
use Rattle.flat_code.specs.Items.{carried}
use Rattle.task_code.proofs.Carried.{after, carried-within, carried-more}
use Rattle.task_code.proofs.variables.carried.Goals as goal

pub bounds-variables-number : goal.bounds-variables-number
bounds-variables-number c =
    carried-within c.args.numbers.now c.args.variables.now c.loop-number.values c.loop-number.number-index 0 c.loop-number.invariant c.requires c.loop-number-test.true

pub loop-number-preserved : goal.loop-number-preserved
loop-number-preserved c =
    let within = carried-within c.args.numbers.now c.args.variables.now c.loop-number.values c.loop-number.number-index 0 c.loop-number.invariant c.requires c.loop-number-test.true in
    let there = slice_get_read c.args.variables.now _ _ c.index-variables-number.result refl within c.index-variables-number.is ∙ ap Some (sym c.in_ok-copy_of.ensures) in
    ap (λ (vs : List Val). after vs (carried (drop (c.loop-number.number-index + 1) c.args.numbers.now) c.args.variables.now)) c.in_ok-push.ensures.ok
    ∙ carried-more c.args.numbers.now c.args.variables.now c.loop-number.values c.loop-number.number-index 0 c.in_ok-copy_of.field-0 c.loop-number.invariant c.loop-number-test.true there
