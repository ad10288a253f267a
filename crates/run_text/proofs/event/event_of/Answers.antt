use Rattle.std.proofs.Common.{rules}
use Rattle.std.proofs.lemmas.Result.{err_from_is_err_and}
use Rattle.run_text.specs.Lines.{IsWellSpelled, words}
use Rattle.run_text.specs.Schedules.{IsHeaderForm}
use Rattle.run_text.proofs.Events.{least_event, least_misfit, least_limit, event_line}
use Rattle.run_text.proofs.event.event_of.Goals as goal

pub returns-in_default-clause-bad : goal.returns-in_default-clause-bad
returns-in_default-clause-bad c =
    let spelled : IsWellSpelled c.args.line.now = search rules in
    let later : ¬ IsHeaderForm (words c.args.line.now) = search rules in
    least_event c.args.fields.now c.args.slots c.args.before c.args.line.now spelled later c.in_default.ensures

pub returns-in_err-event-clause-bad : goal.returns-in_err-event-clause-bad
returns-in_err-event-clause-bad c =
    let spelled : IsWellSpelled c.args.line.now = search rules in
    let later : ¬ IsHeaderForm (words c.args.line.now) = search rules in
    let p = err_from_is_err_and c.from_residual.result c.from_residual.ensures.1 in
    rw (p.1, p.2) (least_misfit c.args.fields.now c.args.slots c.args.before c.args.line.now c.in-Some.words c.in_err-event.field-0.0 spelled later c.in-Some.ensures c.in_err-event.ensures.bad)

pub returns-then-before-ge-MOST_EVENTS-clause-bad : goal.returns-then-before-ge-MOST_EVENTS-clause-bad
returns-then-before-ge-MOST_EVENTS-clause-bad c =
    let spelled : IsWellSpelled c.args.line.now = search rules in
    least_limit c.args.fields.now c.args.slots c.args.before c.args.line.now c.in_ok-event.event (event_line c.args.fields.now c.args.slots c.args.line.now _ c.in_ok-event.event spelled c.in-Some.ensures c.in_ok-event.ensures.found) c.if-before-ge-MOST_EVENTS.true
