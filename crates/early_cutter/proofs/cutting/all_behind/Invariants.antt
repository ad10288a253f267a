use Rattle.std.proofs.Common.{◌≤◌, drop, length}
use Rattle.early_cutter.specs.Passes.{IsBehind}
use Rattle.early_cutter.proofs.cutting.all_behind.Given as goal

abbrev pub invariant-loop-at : goal.invariant-loop-at
invariant-loop-at l = record { within : l.at ≤ length l.code; behind : IsBehind l.method l.count l.at (drop l.at l.code) l.behind }

abbrev pub decreases-loop-at : goal.decreases-loop-at
decreases-loop-at l = l.at
