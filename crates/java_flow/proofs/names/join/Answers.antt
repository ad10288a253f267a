use Rattle.std.proofs.Common.{◌||◌, ap, ◌∙◌}
use Rattle.java_flow.specs.Assigned.{all_but, both}
use Rattle.java_flow.specs.Sets.{bit}
use Rattle.std.proofs.lemmas.Result.{on_ok_weaker}
use Rattle.java_flow.proofs.Standing.{joined}
use Rattle.java_flow.proofs.names.join.Goals as goal

pub returns : goal.returns
returns c =
    on_ok_weaker c.leave_all_out.result
    (λ left numbers.
    joined numbers c.args.set.now c.args.other.now (record { numbered = c.join.new.words; others = c.leave_all_out.new.names })
    (λ k. c.in_ok-join.ensures k ∙ ap (λ words. bit c.args.set.now.numbered.items k || bit words k) c.deref.ensures.value)
    (left ∙ ap (λ names. both (all_but c.args.set.now.others.items) (all_but names)) c.deref-2.ensures.value))
    c.leave_all_out.ensures
