use Rattle.std.proofs.Common.{◌≡◌, None, drop}
use Rattle.std.specs.List.{filter_map, flat_map}
use Rattle.std.specs.Option.{option_map}
use Rattle.cluster.specs.History.{Setup}
use Rattle.cluster.specs.World.{World, lowest, lowest_from, offers, sink_offer, cells_of}
use Rattle.cluster.specs.Standing.{Holds}
use Rattle.cluster.specs.Offering.{offered}
use Rattle.cluster.proofs.Lowest.{taken_by}
use Rattle.cluster.proofs.cluster.Cluster.lowest.Given as goal

abbrev pub invariant-loop-giver : goal.invariant-loop-giver
invariant-loop-giver l =
    (s : Setup) (w : World) → Holds l.self s w
    → lowest_from (option_map offered l.best) (filter_map (sink_offer s w) (drop l.giver (cells_of s))) ≡ lowest_from None (filter_map (sink_offer s w) (cells_of s))

abbrev pub invariant-loop-taker : goal.invariant-loop-taker
invariant-loop-taker l =
    (s : Setup) (w : World) → Holds l.self s w → lowest_from (option_map offered l.best) (flat_map (taken_by s w) (drop l.taker (cells_of s))) ≡ lowest (offers s w)
