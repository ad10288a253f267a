use Rattle.std.proofs.Common.{List, ℕ, Option, Bor, sym, subst}
use Rattle.std.specs.Option.{option_copied}
use Rattle.sdg_top.specs.declared.status.Status.TheVariants as status
use Rattle.placement.specs.declared.event.Schedule.{Schedule}
use Rattle.sdg_top.specs.Accepted.{IsReport}
use Rattle.sdg_top.specs.Due.{DueForSchedule, ReportedDefault}
use Rattle.sdg_top.proofs.scheduled.answer_schedule.Goals as goal

pub returns-in_ok-run-in-None-clause-due : goal.returns-in_ok-run-in-None-clause-due
returns-in_ok-run-in-None-clause-due c =
    let report = c.in_ok-run-in-None.field-0 in
    subst (λ (o : Option (Bor (List ℕ))). DueForSchedule c.args.class.now c.args.calls (option_copied o) status.Done report) (sym c.in-None.is)
    (ReportedDefault report (subst (λ (s : Schedule). IsReport c.args.class.now c.args.calls s report) c.by_default.ensures c.in_ok-run-in-None.ensures))
