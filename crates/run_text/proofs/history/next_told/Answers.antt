use Rattle.std.proofs.Common.{take, arith, sym, ◌∙◌}
use Rattle.std.specs.Str.Lines.{lines}
use Rattle.run_text.proofs.Text.{next}
use Rattle.run_text.proofs.HistoryText.{still_untold, all_untold}
use Rattle.run_text.proofs.history.next_told.Goals as goal

pub loop-line-preserved : goal.loop-line-preserved
loop-line-preserved c =
    let ls = lines c.args.text.now in
    let n = next ls c.loop-line.passed c.in-Some.line.now (lines c.in-Some.more.now) (c.loop-line.invariant.coming ∙ c.in-Some.ensures.lines) in
    record {
      silent = rw n.gone (still_untold (take c.loop-line.passed ls) c.in-Some.line.now (sym c.is_untold.ensures ∙ c.if-not-is_untold.false) c.loop-line.invariant.silent);
      coming = n.coming;
      room = omega (arith, c.in-Some.ensures.shorter);
    }

pub returns-clause-found : goal.returns-clause-found
returns-clause-found c = all_untold (lines c.args.text.now) c.loop-line.passed (c.loop-line.invariant.coming ∙ c.in_default.ensures.lines) c.loop-line.invariant.silent
