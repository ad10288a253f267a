use Rattle.std.proofs.Common.{◌≡◌, ◌+◌, ◌-◌, min, take, length, sum_by, Some, slice_get}
use Rattle.sdg_base.specs.declared.port.Port.{Port}
use Rattle.sdg_base.specs.declared.port.Port.TheVariants as port
use Rattle.cluster.specs.History.{Setup}
use Rattle.cluster.specs.World.{World, cell, cells_of, committed, last_step}
use Rattle.cluster.specs.Standing.{Holds}
use Rattle.cluster.proofs.cluster.Cluster.kept_by.Given as goal

abbrev pub invariant-loop-taker : goal.invariant-loop-taker
invariant-loop-taker l =
    (s : Setup) (w : World) (from : Port) → Holds l.self s w → slice_get (cells_of s) l.giver ≡ Some from
    → l.kept ≡ min ((length ((cell s w from).gave port.Sink) - committed from w.commits) + sum_by (λ to. length ((cell s w from).gave to)) (take l.taker (cells_of s))) last_step
