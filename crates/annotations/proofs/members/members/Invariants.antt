use Rattle.std.proofs.Common.{◌≡◌, take, fold}
use Rattle.annotations.specs.Members as spec
use Rattle.annotations.proofs.members.members.Given as goal

abbrev pub invariant-loop-m : goal.invariant-loop-m
invariant-loop-m l = l.walk ≡ fold (spec.member_walk l.env) l.initial.walk (take l.m-index l.m-items)
