use Rattle.std.proofs.Common.{◌≡◌, take, fold}
use Rattle.annotations.specs.Members as spec
use Rattle.annotations.proofs.members.params.Given as goal

abbrev pub invariant-loop-p : goal.invariant-loop-p
invariant-loop-p l = l.walk ≡ fold (spec.param_walk l.env) l.initial.walk (take l.p-index l.all)
