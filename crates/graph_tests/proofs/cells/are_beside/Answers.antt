use Rattle.std.proofs.Common.{sym, subst}
use Rattle.sdg_base.specs.declared.item.Item.{Item}
use Rattle.graph_safety.specs.Safe.{ArePartsBeside, IsBeside}
use Rattle.graph_tests.proofs.cells.are_beside.Goals as goal

-- src/cells.rt:164:1
pub returns-in-Part : goal.returns-in-Part
returns-in-Part c is_true =
    subst (λ (x : Item). ArePartsBeside c.args.graph.now c.args.widths.now x c.args.parts.now) (sym c.in-Part.is)
    (λ n other got. subst (λ (x : Item). IsBeside c.args.graph.now c.args.widths.now x other) c.in-Part.is (c.all_beside.ensures is_true n other got))
