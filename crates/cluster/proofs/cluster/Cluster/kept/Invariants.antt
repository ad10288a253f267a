use Rattle.std.proofs.Common.{◌≡◌, ◌+◌, min, take, length, sum_by}
use Rattle.cluster.specs.History.{Setup}
use Rattle.cluster.specs.World.{World, cells_of, kept_by, last_step}
use Rattle.cluster.specs.Standing.{Holds}
use Rattle.cluster.proofs.cluster.Cluster.kept.Given as goal

abbrev pub invariant-loop-giver : goal.invariant-loop-giver
invariant-loop-giver l = (s : Setup) (w : World) → Holds l.self s w → l.kept ≡ min (length s.calls + sum_by (kept_by s w) (take l.giver (cells_of s))) last_step
