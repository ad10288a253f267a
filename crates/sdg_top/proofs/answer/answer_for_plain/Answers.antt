use Rattle.std.proofs.Common.{◌≡◌, Some, None, sym, subst, ap, ◌∙◌}
use Rattle.std.proofs.lemmas.Result.{IfOk-weaker}
use Rattle.std.specs.Str.Lines.{lines}
use Rattle.java_tree.specs.declared.tree.Class.{Class}
use Rattle.annotations.specs.declared.class.Annotated.{Annotated}
use Rattle.annotations.specs.Check.{first_partial}
use Rattle.run_text.specs.Calls.{AreCalls}
use Rattle.sdg_top.specs.Accepted.{typed_of}
use Rattle.sdg_top.specs.Commands.{Plain}
use Rattle.sdg_top.specs.Due.{DueForTexts, RefusesPartial, RunsWhole}
use Rattle.sdg_top.specs.Entrances.{entrances_of}
use Rattle.sdg_top.proofs.Replying.{class_refused, not_both}
use Rattle.sdg_top.proofs.answer.answer_for_plain.Goals as goal

pub returns-in-Some-clause-due : goal.returns-in-Some-clause-due
returns-in-Some-clause-due c = λ text class accepts is.
    let partial : first_partial (typed_of class) ≡ Some c.in-Some.at = sym (ap (λ (a : Annotated). a.partial) is) ∙ c.in-Some.is in
    class_refused (DueForTexts (Plain text c.args.calls_text.now)) c.refuse_class.result _ c.refuse_class.ensures.status c.refuse_class.ensures.text
    (RefusesPartial _ _ class c.in-Some.at accepts partial)

pub returns-in-Some-clause-complete : goal.returns-in-Some-clause-complete
returns-in-Some-clause-complete c = λ text class accepts is valid.
    let partial : first_partial (typed_of class) ≡ Some c.in-Some.at = sym (ap (λ (a : Annotated). a.partial) is) ∙ c.in-Some.is in
    let whole : first_partial (typed_of class) ≡ None = subst (λ (k : Class). first_partial (typed_of k) ≡ None) (accepts.only valid.class valid.is_class) valid.whole in
    absurd (not_both (first_partial (typed_of class)) c.in-Some.at whole partial)

pub returns-in_ok-called-in-None-clause-due : goal.returns-in_ok-called-in-None-clause-due
returns-in_ok-called-in-None-clause-due c = λ text class accepts is.
    let whole : first_partial (typed_of class) ≡ None = sym (ap (λ (a : Annotated). a.partial) is) ∙ c.in-None.is in
    IfOk-weaker c.answer_plain.result _ _ (λ a d. RunsWhole _ _ class a.status a.text accepts whole d) (c.answer_plain.ensures.due class (c.in_ok-called-in-None.ensures.called class is))

pub returns-in_ok-called-in-None-clause-complete : goal.returns-in_ok-called-in-None-clause-complete
returns-in_ok-called-in-None-clause-complete c = λ text class accepts is valid.
    let same = accepts.only valid.class valid.is_class in
    c.answer_plain.ensures.complete class valid.calls (c.in_ok-called-in-None.ensures.called class is)
    (subst (λ (k : Class). AreCalls (entrances_of k) (lines c.args.calls_text.now) valid.calls) same valid.are_calls)
