use Rattle.std.proofs.Common.{◌≡◌, ◌+◌, Some, None, slice_get, ap, ◌∙◌, sym}
use Rattle.std.specs.Option.{option_copied}
use Rattle.sdg_base.specs.declared.item.Item.TheVariants as item
use Rattle.cluster.proofs.Reading.{start_given, no_start_given}
use Rattle.cluster.proofs.cluster.start_of.Goals as goal

pub returns-in_ok-copy_values-in-Some : goal.returns-in_ok-copy_values-in-Some
returns-in_ok-copy_values-in-Some c =
    let call : slice_get c.args.calls.now c.args.taken ≡ Some c.in-Some.call.now = sym c.get.ensures.value ∙ ap option_copied c.in-Some.is in
    let given = start_given c.args.calls.now c.args.to c.args.taken c.in-Some.call.now c.in-Front.is call in
    let args : c.in_ok-copy_values-in-Some.field-0 ≡ c.in-Some.call.now.args = c.in_ok-copy_values-in-Some.ensures ∙ c.as_slice.ensures in
    ap (λ vals. Some (item.Start (c.args.taken + 1) c.in-Some.call.now.method vals)) args ∙ sym given

pub returns-in-None : goal.returns-in-None
returns-in-None c =
    let none : slice_get c.args.calls.now c.args.taken ≡ None = sym c.get.ensures.value ∙ ap option_copied c.in-None.is in
    sym (no_start_given c.args.calls.now c.args.to c.args.taken c.in-Front.is none)
