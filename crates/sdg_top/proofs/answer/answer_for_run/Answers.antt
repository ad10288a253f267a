use Rattle.std.proofs.Common.{◌≡◌, List, ℕ, Option, Some, None, sym, subst, ap, ◌∙◌}
use Rattle.std.proofs.lemmas.Result.{IfOk-weaker}
use Rattle.std.specs.Option.{option_copied}
use Rattle.std.specs.Str.Lines.{lines}
use Rattle.java_tree.specs.declared.tree.Class.{Class}
use Rattle.annotations.specs.declared.class.Annotated.{Annotated}
use Rattle.early_forms.specs.declared.straight.StraightClass.{StraightClass}
use Rattle.early_forms.specs.Forms.{IsStraightForm}
use Rattle.early_forms.specs.Trees.{class_tree}
use Rattle.early_source.specs.Members.{fields}
use Rattle.run_text.specs.Calls.{AreCalls}
use Rattle.run_text.specs.Schedules.{IsSchedule}
use Rattle.sdg_top.specs.Accepted.{Accepts}
use Rattle.sdg_top.specs.Commands.{Text, Run}
use Rattle.sdg_top.specs.Due.{DueForTexts, RefusesForm, RunsForm, IsValidSchedule}
use Rattle.sdg_top.specs.Entrances.{entrances_of}
use Rattle.sdg_top.proofs.Members.{fields-class_tree}
use Rattle.sdg_top.proofs.Replying.{class_refused}
use Rattle.sdg_top.proofs.answer.answer_for_run.Goals as goal

-- a schedule speaks of the fields alone
valid_schedule : (class other : StraightClass) (o : Option Text) → class.fields ≡ other.fields → IsValidSchedule class o → IsValidSchedule other o
valid_schedule class other None e valid = tt
valid_schedule class other (Some text) e valid = (valid.0, subst (λ (fs : List (List ℕ)). IsSchedule fs (lines text) valid.0) e valid.1)

same_fields : (class other : StraightClass) → class_tree class ≡ class_tree other → class.fields ≡ other.fields
same_fields class other e = sym (fields-class_tree class) ∙ ap fields e ∙ fields-class_tree other

pub returns-in-Some-clause-due : goal.returns-in-Some-clause-due
returns-in-Some-clause-due c = λ text class accepts is.
    let form = rw c.in-Some.is at c.in_ok-form.ensures.form in
    let same : class ≡ class_tree c.in-Some.form.class = sym (ap (λ (a : Annotated). a.typed.class) is) ∙ form.0 in
    IfOk-weaker c.answer_run.result _ _ (λ a d. RunsForm _ _ _ c.in-Some.form.class a.status a.text (subst (λ (k : Class). Accepts text k) same accepts) form.1 d) c.answer_run.ensures.due

pub returns-in-Some-clause-complete : goal.returns-in-Some-clause-complete
returns-in-Some-clause-complete c = λ text class accepts is valid.
    let form = rw c.in-Some.is at c.in_ok-form.ensures.form in
    let same : class ≡ class_tree c.in-Some.form.class = sym (ap (λ (a : Annotated). a.typed.class) is) ∙ form.0 in
    let one : class_tree valid.class ≡ class_tree c.in-Some.form.class = accepts.only (class_tree valid.class) valid.is_class ∙ same in
    c.answer_run.ensures.complete valid.calls
    (subst (λ (tree : Class). AreCalls (entrances_of tree) (lines c.args.calls_text.now) valid.calls) one valid.are_calls)
    (valid_schedule valid.class c.in-Some.form.class (option_copied c.args.schedule) (same_fields valid.class c.in-Some.form.class one) valid.schedule)

pub returns-in-None-clause-due : goal.returns-in-None-clause-due
returns-in-None-clause-due c = λ text class accepts is.
    let none : IsStraightForm c.args.annotated.typed.class → ⊥ = rw c.in-None.is at c.in_ok-form.ensures.form in
    let same : c.args.annotated.typed.class ≡ class = ap (λ (a : Annotated). a.typed.class) is in
    class_refused (DueForTexts (Run text c.args.calls_text.now (option_copied c.args.schedule))) c.refuse_class.result _ c.refuse_class.ensures.status c.refuse_class.ensures.text
    (RefusesForm _ _ _ class accepts (λ form. none (subst (λ (k : Class). IsStraightForm k) (sym same) form)))

pub returns-in-None-clause-complete : goal.returns-in-None-clause-complete
returns-in-None-clause-complete c = λ text class accepts is valid.
    let none : IsStraightForm c.args.annotated.typed.class → ⊥ = rw c.in-None.is at c.in_ok-form.ensures.form in
    let same : c.args.annotated.typed.class ≡ class = ap (λ (a : Annotated). a.typed.class) is in
    absurd (none (valid.class, same ∙ sym (accepts.only (class_tree valid.class) valid.is_class), valid.proper))
