use Rattle.std.proofs.Common.{◌+◌, ◌<◌, take, length, sum_by, arith}
use Rattle.std.specs.Vec.{vec_len}
use Rattle.cluster.specs.World.{cells_of, kept_by, last_step}
use Rattle.cluster.proofs.Lowest.{port_there, min_next_of, sum_by-next}
use Rattle.cluster.proofs.cluster.Cluster.kept.Goals as goal

pub loop-giver-preserved : goal.loop-giver-preserved
loop-giver-preserved c s w holds =
    let i = c.loop-giver.giver in
    let within : i < vec_len c.args.self.now.cells = omega arith in
    let from = port_there c.args.self.now s w i holds.stands within in
    min_next_of c.loop-giver.kept c.kept_by.result (length s.calls) (sum_by (kept_by s w) (take i (cells_of s))) (sum_by (kept_by s w) (take (i + 1) (cells_of s))) (kept_by s w from.0) last_step c.saturating_add-kept.result
    (c.loop-giver.invariant s w holds) (c.kept_by.ensures s w from.0 holds from.1) (sum_by-next (kept_by s w) (cells_of s) i from.0 from.1) c.saturating_add-kept.ensures
