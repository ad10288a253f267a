use Rattle.std.proofs.Common.{◌≡◌, ◌++◌, ◌||◌, drop, nat_eq, nat_lt}
use Rattle.std.specs.HashSet.{contains}
use Rattle.task_lower.specs.Early.{early_by}
use Rattle.task_lower.proofs.early.early_in.Given as goal

abbrev pub invariant-loop-a : goal.invariant-loop-a
invariant-loop-a l = l.early ++ early_by (λ v. nat_lt v l.arity || contains nat_eq l.seen v) (drop l.a-index l.all) ≡ early_by (λ v. nat_lt v l.arity) l.all
