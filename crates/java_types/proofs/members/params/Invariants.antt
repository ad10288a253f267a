use Rattle.std.proofs.Common.{◌≡◌, take, fold}
use Rattle.java_types.specs.Members as spec
use Rattle.java_types.proofs.members.params.Given as goal

abbrev pub invariant-loop-number : goal.invariant-loop-number
invariant-loop-number l =
    let c = fold (spec.counted l.env) (record { count = 0; walk = l.initial.walk }) (take l.number l.all) in (l.number ≡ c.count) × (l.walk ≡ c.walk)
