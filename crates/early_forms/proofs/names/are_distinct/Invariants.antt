use Rattle.std.proofs.Common.{map, take}
use Rattle.early_forms.proofs.Distinct.{AllSeen}
use Rattle.early_forms.proofs.names.are_distinct.Given as goal

abbrev pub invariant-loop-name : goal.invariant-loop-name
invariant-loop-name l = AllSeen l.seen.keys (map (λ name. name.now) (take l.name-index l.names))
