use Rattle.std.proofs.Common.{◌≡◌, Some, None, slice_get, ap, ◌∙◌, sym}
use Rattle.std.specs.Option.{option_copied, option_map}
use Rattle.cluster.specs.History.{call_of}
use Rattle.cluster.proofs.Reading.{start_given, no_start_given}
use Rattle.cluster.proofs.cluster.next_call.Goals as goal

pub returns-in-Some : goal.returns-in-Some
returns-in-Some c =
    let call : slice_get c.args.calls.now c.args.taken ≡ Some c.in-Some.field-0.now = sym c.get.ensures.value ∙ ap option_copied c.in-Some.is in
    sym (ap (option_map call_of) (start_given c.args.calls.now c.args.to c.args.taken c.in-Some.field-0.now c.in-Front.is call))

pub returns-in-None : goal.returns-in-None
returns-in-None c =
    let none : slice_get c.args.calls.now c.args.taken ≡ None = sym c.get.ensures.value ∙ ap option_copied c.in-None.is in
    sym (ap (option_map call_of) (no_start_given c.args.calls.now c.args.to c.args.taken c.in-Front.is none))
