use Rattle.std.specs.List.Sorted.{IsStrictlySortedBy}
use Rattle.state_classes.proofs.counter.CounterHeld.size.Goals as goal

pub returns-clause-rising : goal.returns-clause-rising
unfolding IsStrictlySortedBy
returns-clause-rising c = (tt, tt)
