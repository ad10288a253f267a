use Rattle.std.proofs.Common.{take, arith, sym, ◌∙◌}
use Rattle.std.specs.Str.Lines.{lines}
use Rattle.run_text.proofs.Text.{next}
use Rattle.run_text.proofs.ScheduleText.{still_silent, all_silent}
use Rattle.run_text.proofs.schedule.next_said.Goals as goal

pub loop-line-preserved : goal.loop-line-preserved
loop-line-preserved c =
    let ls = lines c.args.text.now in
    let n = next ls c.loop-line.skipped c.in-Some.line.now (lines c.in-Some.more.now) (c.loop-line.invariant.coming ∙ c.in-Some.ensures.lines) in
    record {
      silent = rw n.gone (still_silent (take c.loop-line.skipped ls) c.in-Some.line.now (sym c.skips.ensures ∙ c.if-not-skips.false) c.loop-line.invariant.silent);
      coming = n.coming;
      room = omega (arith, c.in-Some.ensures.shorter);
    }

pub returns-clause-found : goal.returns-clause-found
returns-clause-found c = all_silent (lines c.args.text.now) c.loop-line.skipped (c.loop-line.invariant.coming ∙ c.in_default.ensures.lines) c.loop-line.invariant.silent
