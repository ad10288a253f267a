use Rattle.std.proofs.Common.{◌≡◌}
use Rattle.cluster.specs.History.{Setup}
use Rattle.cluster.specs.World.{World, drained_for}
use Rattle.cluster.specs.Standing.{Holds}
use Rattle.cluster.proofs.cluster.Cluster.drain.Given as goal

abbrev pub invariant-loop-turn : goal.invariant-loop-turn
invariant-loop-turn l = (s : Setup) (w : World) → s.graph ≡ l.graph → Holds l.initial.self s w → Holds l.self s (drained_for l._turn s w)
