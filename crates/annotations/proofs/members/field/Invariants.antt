use Rattle.std.proofs.Common.{◌≡◌, take, fold}
use Rattle.annotations.specs.Members as spec
use Rattle.annotations.proofs.members.field.Given as goal

abbrev pub invariant-loop-modifier : goal.invariant-loop-modifier
invariant-loop-modifier l = l.walk ≡ fold (spec.past_modifier l.env) l.initial.walk (take l.modifier-index l.modifier-items)
