use Rattle.std.proofs.Common.{◌≡◌, true, false, List, sym, ap, subst, ◌∙◌}
use Rattle.sdg_base.specs.declared.item.Item.{Item}
use Rattle.flat_code.specs.Items as items
use Rattle.graph_safety.specs.Safe.{ArePartsBeside}
use Rattle.graph_cells.specs.Held.{held, standing}
use Rattle.graph_cells.specs.Gathered.{all_beside, found_by}
use Rattle.graph_cells.specs.Processing.{ran_from}
use Rattle.graph_cells.proofs.Processed.{parts_beside, processed-beside, processed-not}
use Rattle.graph_cells.proofs.processing.process.Goals as goal

pub run-requires-clause-parts : goal.run-requires-clause-parts
run-requires-clause-parts c =
    let all : all_beside c.args.item.now (found_by c.args.item.now c.args.gather.now) ≡ true = cc in
    subst (λ (others : List Item). ArePartsBeside c.args.graph.now c.args.widths.now c.args.item.now others) (sym c.found_by-others.ensures)
    (parts_beside c.args.graph.now c.args.widths.now c.args.item.now c.args.gather.now all c.requires.parts)

pub returns-then-all_beside-clause-ran : goal.returns-then-all_beside-clause-ran
returns-then-all_beside-clause-ran c =
    let all : all_beside c.args.item.now (found_by c.args.item.now c.args.gather.now) ≡ true = cc in
    processed-beside c.args.graph.now c.args.port c.args.item.now (found_by c.args.item.now c.args.gather.now) (held c.args.state.now) c.args.pick c.args.widths.now all
    ∙ ap (λ (others : List Item). ran_from (held c.args.state.now) (items.runs c.args.graph.now c.args.port c.args.item.now others (standing (held c.args.state.now)) c.args.pick c.args.widths.now)) (sym c.found_by-others.ensures)
    ∙ c.in_ok-out.ensures.ran

pub returns-clause-ran : goal.returns-clause-ran
returns-clause-ran c =
    let some : all_beside c.args.item.now (found_by c.args.item.now c.args.gather.now) ≡ false = cc in
    processed-not c.args.graph.now c.args.port c.args.item.now (found_by c.args.item.now c.args.gather.now) (held c.args.state.now) c.args.pick c.args.widths.now some
