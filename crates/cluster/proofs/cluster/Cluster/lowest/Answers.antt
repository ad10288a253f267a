use Rattle.std.proofs.Common.{◌≡◌, ◌+◌, ◌<◌, ◌≤◌, None, drop, length, ap, ◌∙◌, arith}
use Rattle.std.specs.List.{filter_map}
use Rattle.std.specs.Option.{option_map}
use Rattle.std.specs.Vec.{vec_len}
use Rattle.cluster.specs.World.{sink_offer, cells_of, lowest_from, lowest, offers}
use Rattle.cluster.specs.Offering.{offered}
use Rattle.cluster.proofs.Lowest.{port_there, cells_long, lowest-next, lowest-rest, lowest-end, lowest-offers, taken_by}
use Rattle.cluster.proofs.cluster.Cluster.lowest.Goals as goal

pub loop-giver-preserved : goal.loop-giver-preserved
loop-giver-preserved c s w holds =
    let i = c.loop-giver.giver in
    let within : i < vec_len c.args.self.now.cells = omega arith in
    let from = port_there c.args.self.now s w i holds.stands within in
    ap (λ best. lowest_from best (filter_map (sink_offer s w) (drop (i + 1) (cells_of s)))) c.lower_of-best.ensures
    ∙ lowest-next (sink_offer s w) (cells_of s) i from.0 (option_map offered c.loop-giver.best) (option_map offered c.result_offer.result) (lowest_from None (filter_map (sink_offer s w) (cells_of s))) from.1
    (c.result_offer.ensures s w from.0 holds from.1) (c.loop-giver.invariant s w holds)

pub loop-taker-init : goal.loop-taker-init
loop-taker-init c s w holds =
    let long : length (cells_of s) ≡ vec_len c.args.self.now.cells = cells_long c.args.self.now s w holds.stands in
    let past : length (cells_of s) ≤ c.loop-giver.giver = omega arith in
    lowest-offers s w (option_map offered c.loop-giver.best)
    (lowest-end (sink_offer s w) (cells_of s) c.loop-giver.giver (option_map offered c.loop-giver.best) (lowest_from None (filter_map (sink_offer s w) (cells_of s))) past (c.loop-giver.invariant s w holds))

pub loop-taker-preserved : goal.loop-taker-preserved
loop-taker-preserved c s w holds =
    let i = c.loop-taker.taker in
    let within : i < vec_len c.args.self.now.cells = omega arith in
    let to = port_there c.args.self.now s w i holds.stands within in
    lowest-rest (taken_by s w) (cells_of s) i to.0 (option_map offered c.loop-taker.best) (option_map offered c.lowest_for-best.result) (lowest (offers s w)) to.1
    (c.lowest_for-best.ensures s w to.0 holds to.1) (c.loop-taker.invariant s w holds)
