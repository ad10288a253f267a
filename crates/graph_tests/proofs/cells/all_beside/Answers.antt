use Rattle.std.proofs.Common.{refl, arith}
use Rattle.std.proofs.lemmas.Option.{slice_get_within}
use Rattle.graph_safety.specs.Safe.{IsBeside}
use Rattle.graph_tests.proofs.Beside.{with_next}
use Rattle.graph_tests.proofs.cells.all_beside.Goals as goal

-- src/cells.rt:154:5
pub loop-n-preserved : goal.loop-n-preserved
loop-n-preserved c =
    with_next (IsBeside c.args.graph.now c.args.widths.now c.args.item.now) c.args.parts.now c.loop-n.n c.index-parts-n.result c.loop-n-test.true c.index-parts-n.is
    c.loop-n.invariant (c.if-not-is_beside.ensures refl)

-- src/cells.rt:149:1
pub returns : goal.returns
returns c is_true n other got = let less = slice_get_within c.args.parts.now n other got in let end = c.loop-n-test.false in c.loop-n.invariant n other (omega arith) got
