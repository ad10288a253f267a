use Rattle.std.proofs.Common.{sym, subst, ◌∙◌, ap, Option, Vec, Global, Bool, MatchOption}
use Rattle.std.proofs.lemmas.Result.{IfOk-at_ok}
use Rattle.java_types.specs.Calls.{reaches, with_call, Holds}
use Rattle.java_types.proofs.Reaching.{reaches_transitive, reaches-push}
use Rattle.java_types.proofs.calls.Calls.add.Goals as goal

pub invariant_of-self-in-Some : goal.invariant_of-self-in-Some
invariant_of-self-in-Some c =
    let made = c.self.inside.made in
    let before : Holds (reaches made) c.as_slice.result.now = subst (Holds (reaches made)) (sym c.as_slice.ensures.value) c.self.invariant in
    let told = IfOk-at_ok (λ (o : Option (Vec Bool Global)). MatchOption o (Holds (with_call (reaches made) c.args.call) c.as_slice.result.now) (λ v. Holds (with_call (reaches made) c.args.call) v.items))
    c.in_ok-changed.was (c.changed_by.ensures (reaches made) (reaches_transitive made) before) in
    let after : Holds (with_call (reaches made) c.args.call) c.in-Some.reached.items = rw c.in-Some.is at told in
    subst (λ r. Holds r c.in-Some.reached.items) (sym (ap reaches c.in_ok-push.ensures.ok ∙ reaches-push made c.args.call)) after

pub invariant_of-self-in-None : goal.invariant_of-self-in-None
invariant_of-self-in-None c =
    let made = c.self.inside.made in
    let before : Holds (reaches made) c.as_slice.result.now = subst (Holds (reaches made)) (sym c.as_slice.ensures.value) c.self.invariant in
    let told = IfOk-at_ok (λ (o : Option (Vec Bool Global)). MatchOption o (Holds (with_call (reaches made) c.args.call) c.as_slice.result.now) (λ v. Holds (with_call (reaches made) c.args.call) v.items))
    c.in_ok-changed.was (c.changed_by.ensures (reaches made) (reaches_transitive made) before) in
    let after : Holds (with_call (reaches made) c.args.call) c.as_slice.result.now = rw c.in-None.is at told in
    let here : Holds (with_call (reaches made) c.args.call) c.self.inside.reached.items = subst (Holds (with_call (reaches made) c.args.call)) c.as_slice.ensures.value after in
    subst (λ r. Holds r c.self.inside.reached.items) (sym (ap reaches c.in_ok-push.ensures.ok ∙ reaches-push made c.args.call)) here
