use Rattle.std.proofs.Common.{◌≡◌, take, fold}
use Rattle.annotations.specs.Expressions as spec
use Rattle.annotations.specs.Walks.{past}
use Rattle.annotations.proofs.expressions.+expressions.Given as goal

abbrev pub invariant-arguments-loop-v : goal.invariant-arguments-loop-v
invariant-arguments-loop-v l = l.walk ≡ fold (λ w v. (spec.value_of l.env v).walk l.position (past l.env 1 w)) l.initial.walk (take l.v-index l.args)
