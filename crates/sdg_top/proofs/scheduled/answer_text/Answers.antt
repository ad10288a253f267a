use Rattle.std.proofs.Common.{List, ℕ, Some, subst}
use Rattle.std.specs.Str.Lines.{lines}
use Rattle.run_text.specs.Schedules.{IsSchedule, IsFirstScheduleBreak}
use Rattle.sdg_top.specs.Due.{DueForSchedule, RefusesSchedule, ReportedSchedule}
use Rattle.sdg_top.proofs.Replying.{refused}
use Rattle.sdg_top.proofs.scheduled.answer_text.Goals as goal

pub returns-in-Ok-clause-due : goal.returns-in-Ok-clause-due
returns-in-Ok-clause-due c =
    ReportedSchedule c.args.text.now c.in-Ok.schedule c.in_ok-run-in-Ok.field-0
    (subst (λ (fs : List (List ℕ)). IsSchedule fs (lines c.args.text.now) c.in-Ok.schedule) c.as_slice.ensures c.in-Ok.ensures.found) c.in_ok-run-in-Ok.ensures

pub returns-in-Err-Bad-clause-due : goal.returns-in-Err-Bad-clause-due
returns-in-Err-Bad-clause-due c =
    let broken : IsFirstScheduleBreak c.args.class.now.fields (lines c.args.text.now) c.in-Err-Bad.line c.in-Err-Bad.rule =
    subst (λ (fs : List (List ℕ)). IsFirstScheduleBreak fs (lines c.args.text.now) c.in-Err-Bad.line c.in-Err-Bad.rule) c.as_slice.ensures (rw c.in-Err-Bad.field-0-is at c.in-Err-Bad.ensures.bad) in
    refused (DueForSchedule c.args.class.now c.args.calls (Some c.args.text.now)) c.refuse_text.result _ c.refuse_text.ensures.status (rw c.in-Err-Bad.field-0-is at c.refuse_text.ensures.text)
    (RefusesSchedule c.args.text.now c.in-Err-Bad.line c.in-Err-Bad.rule broken)
