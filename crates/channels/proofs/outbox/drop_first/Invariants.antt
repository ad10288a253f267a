use Rattle.std.proofs.Common.{◌≡◌, drop}
use Rattle.channels.proofs.outbox.drop_first.Given as goal

-- what is left to drop of the rest is all
abbrev pub invariant-loop-left : goal.invariant-loop-left
invariant-loop-left l = drop l.left l.items ≡ drop l.count l.fn.items

abbrev pub decreases-loop-left : goal.decreases-loop-left
decreases-loop-left l = l.left
