use Rattle.std.proofs.Common.{arith, sym, ◌∙◌}
use Rattle.std.specs.Str.Lines.{lines}
use Rattle.run_text.proofs.Text.{next, skip_line, add_call, refused, all_lines}
use Rattle.run_text.proofs.calls.calls_of.Goals as goal

pub loop-line-preserved-then-skips : goal.loop-line-preserved-then-skips
loop-line-preserved-then-skips c =
    let ls = lines c.args.bytes.now in
    let n = next ls c.loop-line.number c.in-Some.line.now (lines c.in-Some.more.now) (c.loop-line.invariant.coming ∙ c.in-Some.ensures.lines) in
    record {
      so_far = rw n.gone (skip_line c.args.entrances.now _ c.in-Some.line.now c.loop-line.calls (sym c.skips.ensures ∙ c.if-skips.true) c.loop-line.invariant.so_far);
      coming = n.coming;
      room = omega (arith, c.in-Some.ensures.shorter);
    }

pub loop-line-preserved : goal.loop-line-preserved
loop-line-preserved c =
    let ls = lines c.args.bytes.now in
    let n = next ls c.loop-line.number c.in-Some.line.now (lines c.in-Some.more.now) (c.loop-line.invariant.coming ∙ c.in-Some.ensures.lines) in
    record {
      so_far = rw (c.in_ok-push-in-Ok.ensures.ok, n.gone) (add_call c.args.entrances.now _ c.in-Some.line.now c.loop-line.calls c.in-Ok.call (sym c.skips.ensures ∙ c.if-skips.false) c.loop-line.invariant.so_far c.in-Ok.ensures.found (rw c.len.ensures at c.in-Ok.ensures.room));
      coming = n.coming;
      room = omega (arith, c.in-Some.ensures.shorter);
    }

pub returns-in-Err-clause-bad : goal.returns-in-Err-clause-bad
returns-in-Err-clause-bad c =
    let ls = lines c.args.bytes.now in
    let n = next ls c.loop-line.number c.in-Some.line.now (lines c.in-Some.more.now) (c.loop-line.invariant.coming ∙ c.in-Some.ensures.lines) in
    rw c.at.ensures (refused c.args.entrances.now ls c.loop-line.number c.in-Some.line.now c.loop-line.calls c.in-Err.error c.loop-line.invariant.so_far n.here (sym c.skips.ensures ∙ c.if-skips.false) (rw c.len.ensures at c.in-Err.ensures.bad))

pub returns-clause-found : goal.returns-clause-found
returns-clause-found c = all_lines c.args.entrances.now (lines c.args.bytes.now) c.loop-line.number c.loop-line.calls (c.loop-line.invariant.coming ∙ c.in_default.ensures.lines) c.loop-line.invariant.so_far
