use Rattle.std.proofs.Common.{◌≡◌, take, fold, true}
use Rattle.java_types.specs.Expressions as spec
use Rattle.java_types.proofs.expressions.+expressions.Given as goal

abbrev pub invariant-arguments-loop-number : goal.invariant-arguments-loop-number
invariant-arguments-loop-number l =
    let a = fold (λ a v. spec.argued l.env l.params a (spec.value_walk l.env v)) (record { count = 0; fit = true; walk = l.initial.walk }) (take l.number l.args) in
    (l.number ≡ a.count) × (l.fit ≡ a.fit) × (l.walk ≡ a.walk)
