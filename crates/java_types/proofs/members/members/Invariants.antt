use Rattle.std.proofs.Common.{◌≡◌, take, fold}
use Rattle.java_types.specs.Members as spec
use Rattle.java_types.proofs.members.members.Given as goal

abbrev pub invariant-loop-m : goal.invariant-loop-m
invariant-loop-m l =
    let b = fold (spec.member_walk l.env) (record { seen = l.initial.seen; walk = l.initial.walk }) (take l.m-index l.m-items) in (l.seen ≡ b.seen) × (l.walk ≡ b.walk)
