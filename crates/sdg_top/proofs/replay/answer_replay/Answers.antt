use Rattle.std.proofs.Common.{◌≡◌, List, sym, subst, ◌∙◌}
use Rattle.std.proofs.lemmas.Result.{IfOk-weaker}
use Rattle.std.specs.Str.Lines.{lines}
use Rattle.sdg_base.specs.declared.call.Call.{Call}
use Rattle.access_blocks.specs.declared.body.Program.{Program}
use Rattle.run_text.specs.declared.field.Field.{Field}
use Rattle.run_text.specs.declared.entrance.Entrance.{Entrance}
use Rattle.run_text.specs.Calls.{AreCalls, IsFirstBreak}
use Rattle.history_run.specs.Replays.{IsReplayed}
use Rattle.sdg_top.specs.Accepted.{program_of}
use Rattle.sdg_top.specs.Due.{DueForHistory, DueForReplay, RefusesReplayCalls, TakesReplayCalls}
use Rattle.sdg_top.specs.Entrances.{entrances_of, fields_of}
use Rattle.sdg_top.proofs.Replying.{refused}
use Rattle.sdg_top.proofs.replay.answer_replay.Goals as goal

pub returns-in-Ok-clause-due : goal.returns-in-Ok-clause-due
returns-in-Ok-clause-due c = λ class is.
    let e = c.as_slice.ensures.value ∙ is.entrances in
    let are = subst (λ (es : List Entrance). AreCalls es (lines c.args.calls_text.now) c.in-Ok.calls) e c.in-Ok.ensures.found in
    IfOk-weaker c.answer_history.result _ _
    (λ a d. TakesReplayCalls c.in-Ok.calls a.status a.text are
    (subst (λ (p : Program). DueForHistory p c.in-Ok.calls (fields_of class) c.args.history_text.now a.status a.text) is.program
    (subst (λ (fs : List Field). DueForHistory c.args.called.now.program c.in-Ok.calls fs c.args.history_text.now a.status a.text) is.fields d)))
    c.answer_history.ensures.due

pub returns-in-Ok-clause-complete : goal.returns-in-Ok-clause-complete
returns-in-Ok-clause-complete c = λ class calls replayed is are replays.
    let e = c.as_slice.ensures.value ∙ is.entrances in
    let ls = lines c.args.history_text.now in
    let one : c.in-Ok.calls ≡ calls = c.in-Ok.ensures.only_calls calls (subst (λ (es : List Entrance). AreCalls es (lines c.args.calls_text.now) calls) (sym e) are) in
    c.answer_history.ensures.complete replayed
    (subst (λ (p : Program). IsReplayed p c.in-Ok.calls c.args.called.now.fields.items ls replayed) (sym is.program)
    (subst (λ (fs : List Field). IsReplayed (program_of class) c.in-Ok.calls fs ls replayed) (sym is.fields)
    (subst (λ (cs : List Call). IsReplayed (program_of class) cs (fields_of class) ls replayed) (sym one) replays)))

pub returns-in-Err-Bad-clause-due : goal.returns-in-Err-Bad-clause-due
returns-in-Err-Bad-clause-due c = λ class is.
    let e = c.as_slice.ensures.value ∙ is.entrances in
    let broken : IsFirstBreak (entrances_of class) (lines c.args.calls_text.now) c.in-Err-Bad.line c.in-Err-Bad.rule =
    subst (λ (es : List Entrance). IsFirstBreak es (lines c.args.calls_text.now) c.in-Err-Bad.line c.in-Err-Bad.rule) e (rw c.in-Err-Bad.field-0-is at c.in-Err-Bad.ensures.bad) in
    refused (DueForReplay class c.args.calls_text.now c.args.history_text.now) c.refuse_text.result _ c.refuse_text.ensures.status c.refuse_text.ensures.text
    (RefusesReplayCalls c.in-Err-Bad.line c.in-Err-Bad.rule broken)
