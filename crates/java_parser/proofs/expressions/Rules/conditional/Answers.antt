use Rattle.std.proofs.Common.{◌≡◌, ap, arith}
use Rattle.java_tree.specs.Heights.{expr_height}
use Rattle.java_parser.proofs.TreeHeights.{conditional_height}
use Rattle.java_parser.proofs.expressions.Rules.conditional.Goals as goal

pub returns-clause-measures : goal.returns-clause-measures
returns-clause-measures g c =
    let same : expr_height c.in_ok-test.test ≡ expr_height c.args.test = ap expr_height c.in_ok-test.ensures in
    omega (arith, conditional_height c.in_ok-test.test c.in_ok-first.first c.in_ok-second.second, same, c.requires.spare, c.in_ok-first.ensures.measures, c.in_ok-second.ensures.measures, c.min.ensures, c.min-spare.ensures, c.if-test_spare-eq0.false)
