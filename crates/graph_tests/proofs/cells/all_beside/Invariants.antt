use Rattle.std.proofs.Common.{length, ◌-◌, ◌≡◌, ℕ, Some, slice_get, ◌<◌}
use Rattle.sdg_base.specs.declared.item.Item.{Item}
use Rattle.graph_safety.specs.Safe.{IsBeside}
use Rattle.graph_tests.proofs.cells.all_beside.Given as goal

abbrev pub invariant-loop-n : goal.invariant-loop-n
invariant-loop-n l = (k : ℕ) (other : Item) → k < l.n → slice_get l.parts k ≡ Some other → IsBeside l.graph l.widths l.item other

abbrev pub decreases-loop-n : goal.decreases-loop-n
decreases-loop-n l = length l.parts - l.n
