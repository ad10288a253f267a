use Rattle.std.proofs.Common.{◌+◌, subst, sym}
use Rattle.java_flow.proofs.Orders.{IsFirstOf, one_more, in_the_end}
use Rattle.java_flow.proofs.checking.least.Goals as goal

pub loop-finding-preserved : goal.loop-finding-preserved
loop-finding-preserved c =
    subst (λ x. IsFirstOf c.args.findings.now (c.loop-finding.finding-index + 1) x) (sym c.earlier_of-least.ensures) (one_more _ _ _ _ c.loop-finding-test.true c.loop-finding.invariant)

pub returns : goal.returns
returns c = in_the_end _ _ _ c.loop-finding-test.false c.loop-finding.invariant
