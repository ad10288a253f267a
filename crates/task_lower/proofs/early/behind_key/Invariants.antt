use Rattle.std.proofs.Common.{◌≡◌, ◌++◌, take, map, nat_eq}
use Rattle.std.specs.HashSet.{contains}
use Rattle.task_lower.specs.Early.{with_key}
use Rattle.task_lower.proofs.early.behind_key.Given as goal

abbrev pub invariant-loop-a : goal.invariant-loop-a
invariant-loop-a l = l.all ≡ l.initial.all ++ map (with_key (contains nat_eq l.key)) (take l.a-index l.body)
