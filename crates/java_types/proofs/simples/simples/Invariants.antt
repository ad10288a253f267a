use Rattle.std.proofs.Common.{◌≡◌, take, fold}
use Rattle.java_types.specs.Simples as spec
use Rattle.java_types.specs.Walks.{past}
use Rattle.java_types.proofs.simples.simples.Given as goal

abbrev pub invariant-loop-s : goal.invariant-loop-s
invariant-loop-s l = l.walk ≡ fold (λ w s. spec.simple_walk l.env s (past l.env 1 w)) l.initial.walk (take l.s-index l.all)
