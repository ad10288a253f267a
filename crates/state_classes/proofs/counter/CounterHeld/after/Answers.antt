use Rattle.std.specs.List.Sorted.{IsStrictlySortedBy}
use Rattle.state_classes.proofs.counter.CounterHeld.after.Goals as goal

pub returns-in-None-clause-rising : goal.returns-in-None-clause-rising
unfolding IsStrictlySortedBy
returns-in-None-clause-rising c = (tt, tt)

pub returns-in-Some-clause-rising : goal.returns-in-Some-clause-rising
unfolding IsStrictlySortedBy
returns-in-Some-clause-rising c = (tt, tt)
