use Rattle.std.proofs.Common.{ap, ◌∙◌}
use Rattle.java_flow.specs.Assigned.{all_but, both}
use Rattle.java_flow.proofs.Standing.{copied}
use Rattle.java_flow.proofs.names.copy.Goals as goal

pub returns : goal.returns
returns c = λ numbers.
    copied numbers c.args.set.now (record { numbered = c.in_ok-from_slice.field-0; others = c.leave_all_out.new.names })
    (c.in_ok-from_slice.ensures.items ∙ c.deref-2.ensures.value)
    (c.in_ok-leave_all_out.ensures ∙ ap (λ names. both (all_but names) (all_but c.deref.result.now)) c.new-others.ensures.items ∙ ap all_but c.deref.ensures.value)
