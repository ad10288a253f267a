use Rattle.std.proofs.Common.{◌≡◌, Some, slice_get, drop}
use Rattle.std.specs.List.{filter_map}
use Rattle.std.specs.Option.{option_map}
use Rattle.sdg_base.specs.declared.port.Port.{Port}
use Rattle.cluster.specs.History.{Setup}
use Rattle.cluster.specs.World.{World, lowest_from, cell_offer, cells_of}
use Rattle.cluster.specs.Standing.{Holds}
use Rattle.cluster.specs.Offering.{offered}
use Rattle.cluster.proofs.Lowest.{taken_by}
use Rattle.cluster.proofs.cluster.Cluster.lowest_for.Given as goal

abbrev pub invariant-loop-giver : goal.invariant-loop-giver
invariant-loop-giver l =
    (s : Setup) (w : World) (to : Port) → Holds l.self s w → slice_get (cells_of s) l.taker ≡ Some to
    → lowest_from (option_map offered l.best) (filter_map (cell_offer s w to) (drop l.giver (cells_of s))) ≡ lowest_from (option_map offered l.fn.best) (taken_by s w to)
