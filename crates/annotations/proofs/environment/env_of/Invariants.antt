use Rattle.std.proofs.Common.{◌≡◌, [], take, fold}
use Rattle.annotations.specs.Kinds.{with_kind}
use Rattle.annotations.specs.Environment as spec
use Rattle.annotations.proofs.environment.env_of.Given as goal

abbrev pub invariant-loop-member : goal.invariant-loop-member
invariant-loop-member l =
    (l.kinds ≡ fold with_kind [] (take l.member-index l.member-items))
    × (l.classes ≡ fold spec.with_class [] (take l.member-index l.member-items))
    × (l.methods ≡ fold spec.with_method [] (take l.member-index l.member-items))
