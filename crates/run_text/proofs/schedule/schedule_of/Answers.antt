use Rattle.std.proofs.Common.{◌≡◌, [], arith, take, sym, ◌∙◌, rules}
use Rattle.std.specs.Str.Lines.{lines}
use Rattle.run_text.specs.ScheduleReading.{IsNextSaid}
use Rattle.run_text.proofs.Text.{next}
use Rattle.run_text.proofs.ScheduleText.{begun, skip, add_event, all_events, refused_first, refused_later}
use Rattle.run_text.proofs.schedule.schedule_of.Goals as goal

pub returns-in-Err-clause-bad : goal.returns-in-Err-clause-bad
returns-in-Err-clause-bad c =
    let said : IsNextSaid (lines c.args.bytes.now) c.in-Some.skipped c.in-Some.first.now (lines c.in-Some.rest.now) = c.in-Some.ensures.found in
    rw c.bad.ensures (refused_first c.args.fields.now (lines c.args.bytes.now) c.in-Some.skipped c.in-Some.first.now (lines c.in-Some.rest.now) c.in-Err.rule said c.in-Err.ensures.bad)

pub loop-line-init : goal.loop-line-init
loop-line-init c =
    let ls = lines c.args.bytes.now in
    let said : IsNextSaid ls c.in-Some.skipped c.in-Some.first.now (lines c.in-Some.rest.now) = c.in-Some.ensures.found in
    let n = next ls c.in-Some.skipped c.in-Some.first.now (lines c.in-Some.rest.now) said.coming in
    let empty : c.new-events.result ≡ [] = search rules in
    record {
      so_far = rw empty (begun c.args.fields.now ls c.in-Some.skipped c.in-Some.first.now (lines c.in-Some.rest.now) c.in-Ok.header said c.in-Ok.ensures.found);
      coming = n.coming;
      room = omega (arith, c.in-Some.ensures.room);
    }

pub loop-line-preserved-then-skips : goal.loop-line-preserved-then-skips
loop-line-preserved-then-skips c =
    let ls = lines c.args.bytes.now in
    let n = next ls c.loop-line.number c.in-Some-first_line.line.now (lines c.in-Some-first_line.more.now) (c.loop-line.invariant.coming ∙ c.in-Some-first_line.ensures.lines) in
    record {
      so_far = rw n.gone (skip c.args.fields.now (take c.loop-line.number ls) c.in-Some-first_line.line.now c.in-Ok.header c.loop-line.events (sym c.skips.ensures ∙ c.if-skips.true) c.loop-line.invariant.so_far);
      coming = n.coming;
      room = omega (arith, c.in-Some-first_line.ensures.shorter);
    }

pub loop-line-preserved : goal.loop-line-preserved
loop-line-preserved c =
    let ls = lines c.args.bytes.now in
    let n = next ls c.loop-line.number c.in-Some-first_line.line.now (lines c.in-Some-first_line.more.now) (c.loop-line.invariant.coming ∙ c.in-Some-first_line.ensures.lines) in
    record {
      so_far = rw (c.in_ok-push-in-Ok-event_of.ensures.ok, n.gone) (add_event c.args.fields.now (take c.loop-line.number ls) c.in-Some-first_line.line.now c.in-Ok.header c.loop-line.events c.in-Ok-event_of.event (sym c.skips.ensures ∙ c.if-skips.false) c.loop-line.invariant.so_far c.in-Ok-event_of.ensures.found (rw c.len.ensures at c.in-Ok-event_of.ensures.room));
      coming = n.coming;
      room = omega (arith, c.in-Some-first_line.ensures.shorter);
    }

pub returns-in-Err-event_of-clause-bad : goal.returns-in-Err-event_of-clause-bad
returns-in-Err-event_of-clause-bad c =
    let ls = lines c.args.bytes.now in
    let n = next ls c.loop-line.number c.in-Some-first_line.line.now (lines c.in-Some-first_line.more.now) (c.loop-line.invariant.coming ∙ c.in-Some-first_line.ensures.lines) in
    rw c.bad-in-Err-event_of.ensures (refused_later c.args.fields.now ls c.loop-line.number c.in-Some-first_line.line.now c.in-Ok.header c.loop-line.events c.in-Err-event_of.rule c.loop-line.invariant.so_far n.here (sym c.skips.ensures ∙ c.if-skips.false) (rw c.len.ensures at c.in-Err-event_of.ensures.bad))

pub returns-clause-found : goal.returns-clause-found
returns-clause-found c =
    all_events c.args.fields.now (lines c.args.bytes.now) c.loop-line.number c.in-Ok.header c.loop-line.events (c.loop-line.invariant.coming ∙ c.in_default-first_line.ensures.lines) c.loop-line.invariant.so_far
