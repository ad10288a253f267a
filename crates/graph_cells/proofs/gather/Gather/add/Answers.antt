use Rattle.std.proofs.Common.{sym, ◌∙◌}
use Rattle.graph_cells.proofs.Calls.{with_part_some}
use Rattle.graph_cells.proofs.gather.Gather.add.Goals as goal

pub put-requires : goal.put-requires
put-requires c = λ e. with_part_some c.args.part c.take-parts.result (sym c.in_ok-add_part.ensures ∙ e)
