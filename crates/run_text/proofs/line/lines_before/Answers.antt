use Rattle.std.proofs.Common.{◌≡◌, ◌-◌, arith, inr}
use Rattle.run_text.proofs.Fronts.{no_more_lines, one_behind, front_lines}
use Rattle.run_text.proofs.line.lines_before.Goals as goal

pub returns-in_default-clause-lines : goal.returns-in_default-clause-lines
returns-in_default-clause-lines c =
    no_more_lines c.args.bytes.now c.loop-number.rest.now c.cut.result.0.now c.loop-number.number c.args.line (rw c.in_default.is at c.cut.ensures.parts) c.loop-number.invariant.behind c.loop-number-test.true

pub loop-number-preserved : goal.loop-number-preserved
loop-number-preserved c = record {
  behind = one_behind c.args.bytes.now c.loop-number.rest.now c.cut.result.0.now c.in-Some.more.now c.loop-number.number (rw c.in-Some.is at c.cut.ensures.parts) c.loop-number.invariant.behind;
  upto = inr (omega (arith, c.loop-number-test.true));
}

pub returns-clause-lines : goal.returns-clause-lines
returns-clause-lines c =
    let same : c.loop-number.number - 1 ≡ c.args.line - 1 = omega (arith, c.loop-number.invariant.upto, c.loop-number-test.false, c.loop-number.invariant.behind.counted) in
    front_lines c.args.bytes.now c.loop-number.rest.now c.loop-number.number c.args.line c.split_at.result.0.now c.loop-number.invariant.behind same c.split_at.ensures.front
