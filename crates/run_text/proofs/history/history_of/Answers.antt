use Rattle.std.proofs.Common.{length, arith, sym, ap, ◌∙◌}
use Rattle.std.specs.Str.Lines.{lines}
use Rattle.run_text.specs.Histories.{grown}
use Rattle.run_text.proofs.Text.{next}
use Rattle.run_text.proofs.HistoryText.{told_begun, told_skip, told_step, told_all, widths_more}
use Rattle.run_text.proofs.HistoryBreaks.{told_refused}
use Rattle.run_text.proofs.history.history_of.Goals as goal

pub loop-line-init : goal.loop-line-init
loop-line-init c =
    let ls = lines c.args.bytes.now in
    rw (c.new-steps.ensures, c.new-numbers.ensures) (record {
      so_far = told_begun c.args.fields.now c.args.calls ls c.beginning-width.result.1 c.beginning-width.result.0 (lines c.beginning-width.result.2.now) c.beginning-width.ensures.begun;
      extent = c.in_ok-room.ensures.room;
      widths = c.in_ok-room.ensures.widths;
      coming = c.beginning-width.ensures.begun.coming;
      bound = c.beginning-width.ensures.room;
    })

pub loop-line-preserved-then-is_untold : goal.loop-line-preserved-then-is_untold
loop-line-preserved-then-is_untold c =
    let ls = lines c.args.bytes.now in
    let n = next ls c.loop-line.number c.in-Some.line.now (lines c.in-Some.more.now) (c.loop-line.invariant.coming ∙ c.in-Some.ensures.lines) in
    record {
      so_far = told_skip c.args.fields.now c.args.calls ls c.loop-line.number c.beginning-width.result.0 c.loop-line.steps c.loop-line.numbers c.in-Some.line.now n.gone (sym c.is_untold.ensures ∙ c.if-is_untold.true) c.loop-line.invariant.so_far;
      extent = c.loop-line.invariant.extent;
      widths = c.loop-line.invariant.widths;
      coming = n.coming;
      bound = omega (arith, c.in-Some.ensures.shorter, c.loop-line.invariant.bound);
    }

pub loop-line-preserved : goal.loop-line-preserved
loop-line-preserved c =
    let ls = lines c.args.bytes.now in
    let n = next ls c.loop-line.number c.in-Some.line.now (lines c.in-Some.more.now) (c.loop-line.invariant.coming ∙ c.in-Some.ensures.lines) in
    let room = rw c.loop-line.invariant.widths at c.in-Ok.ensures.room in
    rw (c.in_ok-push-in-Ok.ensures.ok, c.in_ok-push-in-Ok-2.ensures.ok) (record {
      so_far = told_step c.args.fields.now c.args.calls ls c.loop-line.number c.beginning-width.result.0 c.loop-line.steps c.loop-line.numbers c.in-Some.line.now c.in-Ok.step n.here n.gone (sym c.is_untold.ensures ∙ c.if-is_untold.false) c.in-Ok.ensures.found room c.loop-line.invariant.so_far;
      extent = c.take_step.ensures.room;
      widths = c.take_step.ensures.widths ∙ ap (λ ws. grown ws c.in-Ok.step) c.loop-line.invariant.widths ∙ sym (widths_more (length c.args.fields.now) c.beginning-width.result.0 c.loop-line.steps c.in-Ok.step);
      coming = n.coming;
      bound = omega (arith, c.in-Some.ensures.shorter, c.loop-line.invariant.bound);
    })

pub returns-in-Err-clause-bad : goal.returns-in-Err-clause-bad
returns-in-Err-clause-bad c =
    let ls = lines c.args.bytes.now in
    let n = next ls c.loop-line.number c.in-Some.line.now (lines c.in-Some.more.now) (c.loop-line.invariant.coming ∙ c.in-Some.ensures.lines) in
    rw c.bad.ensures (told_refused c.args.fields.now c.args.calls ls c.loop-line.number c.beginning-width.result.0 c.loop-line.steps c.loop-line.numbers c.loop-line.room.widths c.in-Some.line.now c.in-Err.rule (omega (arith, c.ranges.calls.fits)) c.loop-line.invariant.so_far c.loop-line.invariant.widths n.here (sym c.is_untold.ensures ∙ c.if-is_untold.false) c.in-Err.ensures.bad)

pub returns-clause-found : goal.returns-clause-found
returns-clause-found c =
    told_all c.args.fields.now c.args.calls (lines c.args.bytes.now) c.loop-line.number c.beginning-width.result.0 c.loop-line.steps c.loop-line.numbers (c.loop-line.invariant.coming ∙ c.in_default.ensures.lines) c.loop-line.invariant.so_far
