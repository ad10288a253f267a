use Rattle.std.proofs.Common.{length}
use Rattle.graph_cells.proofs.parts.+insert.Given as goal

abbrev pub decreases-insert : goal.decreases-insert
decreases-insert l = length l.parts.now
