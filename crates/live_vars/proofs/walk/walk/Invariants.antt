use Rattle.std.proofs.Common.{◌+◌, length}
use Rattle.live_vars.specs.Walks.{IsWalk, left}
use Rattle.live_vars.proofs.walk.walk.Given as goal

abbrev pub invariant-loop-at : goal.invariant-loop-at
invariant-loop-at l = IsWalk l.code l.variable l.sets.items l.work.items

abbrev pub decreases-loop-at : goal.decreases-loop-at
decreases-loop-at l = length l.work.items + left l.variable l.sets.items l.before
