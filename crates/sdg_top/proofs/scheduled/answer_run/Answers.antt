use Rattle.std.proofs.Common.{List, sym, subst, ◌∙◌}
use Rattle.std.proofs.lemmas.Result.{IfOk-weaker}
use Rattle.std.specs.Option.{option_copied}
use Rattle.std.specs.Str.Lines.{lines}
use Rattle.early_forms.specs.Trees.{class_tree}
use Rattle.run_text.specs.declared.entrance.Entrance.{Entrance}
use Rattle.run_text.specs.Calls.{AreCalls, IsFirstBreak}
use Rattle.sdg_top.specs.Due.{DueForRun, RefusesCalls, TakesCalls}
use Rattle.sdg_top.specs.Entrances.{entrances_of}
use Rattle.sdg_top.proofs.Fit.{all_fit}
use Rattle.sdg_top.proofs.Replying.{refused}
use Rattle.sdg_top.proofs.scheduled.answer_run.Goals as goal

pub answer_schedule-requires-clause-fit : goal.answer_schedule-requires-clause-fit
answer_schedule-requires-clause-fit c =
    all_fit c.args.form.now.class c.as_slice.result.now c.in-Ok.calls c.requires.proper (c.as_slice.ensures.value ∙ c.requires.entrances) c.in-Ok.ensures.fits

pub returns-in-Ok-clause-due : goal.returns-in-Ok-clause-due
returns-in-Ok-clause-due c =
    let e = c.as_slice.ensures.value ∙ c.requires.entrances in
    let are = subst (λ (es : List Entrance). AreCalls es (lines c.args.text.now) c.in-Ok.calls) e c.in-Ok.ensures.found in
    IfOk-weaker c.answer_schedule.result _ _ (λ a d. TakesCalls c.in-Ok.calls a.status a.text are d) c.answer_schedule.ensures.due

pub returns-in-Err-Bad-clause-due : goal.returns-in-Err-Bad-clause-due
returns-in-Err-Bad-clause-due c =
    let e = c.as_slice.ensures.value ∙ c.requires.entrances in
    let broken : IsFirstBreak (entrances_of (class_tree c.args.form.now.class)) (lines c.args.text.now) c.in-Err-Bad.line c.in-Err-Bad.rule =
    subst (λ (es : List Entrance). IsFirstBreak es (lines c.args.text.now) c.in-Err-Bad.line c.in-Err-Bad.rule) e (rw c.in-Err-Bad.field-0-is at c.in-Err-Bad.ensures.bad) in
    refused (DueForRun c.args.form.now.class c.args.text.now (option_copied c.args.schedule)) c.refuse_text.result _ c.refuse_text.ensures.status c.refuse_text.ensures.text
    (RefusesCalls c.in-Err-Bad.line c.in-Err-Bad.rule broken)
