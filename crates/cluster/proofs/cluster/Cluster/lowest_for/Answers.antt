use Rattle.std.proofs.Common.{◌+◌, ◌<◌, drop, ap, ◌∙◌, arith}
use Rattle.std.specs.List.{filter_map}
use Rattle.std.specs.Option.{option_map}
use Rattle.std.specs.Vec.{vec_len}
use Rattle.cluster.specs.World.{cell_offer, cells_of, lowest_from}
use Rattle.cluster.specs.Offering.{offered}
use Rattle.cluster.proofs.Lowest.{port_there, lowest-next, taken_by}
use Rattle.cluster.proofs.cluster.Cluster.lowest_for.Goals as goal

pub loop-giver-preserved : goal.loop-giver-preserved
loop-giver-preserved c s w to holds e =
    let i = c.loop-giver.giver in
    let within : i < vec_len c.args.self.now.cells = omega arith in
    let from = port_there c.args.self.now s w i holds.stands within in
    ap (λ best. lowest_from best (filter_map (cell_offer s w to) (drop (i + 1) (cells_of s)))) c.lower_of-best-in-loop-giver.ensures
    ∙ lowest-next (cell_offer s w to) (cells_of s) i from.0 (option_map offered c.loop-giver.best) (option_map offered c.item_offer.result) (lowest_from (option_map offered c.args.best) (taken_by s w to)) from.1
    (c.item_offer.ensures s w to from.0 holds e from.1) (c.loop-giver.invariant s w to holds e)
