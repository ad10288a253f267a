use Rattle.std.proofs.Common.{◌≡◌, take, fold}
use Rattle.annotations.specs.Simples as spec
use Rattle.annotations.specs.Walks.{past}
use Rattle.annotations.proofs.simples.simples.Given as goal

abbrev pub invariant-loop-s : goal.invariant-loop-s
invariant-loop-s l = l.walk ≡ fold (λ w s. spec.simple_walk l.env s (past l.env 1 w)) l.initial.walk (take l.s-index l.all)
