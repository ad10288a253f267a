use Rattle.std.proofs.Common.{◌≡◌, take, fold}
use Rattle.java_types.specs.Members as spec
use Rattle.java_types.proofs.members.field.Given as goal

abbrev pub invariant-loop-modifier : goal.invariant-loop-modifier
invariant-loop-modifier l = l.walk ≡ fold (spec.past_field_modifier l.env) l.initial.walk (take l.modifier-index l.modifier-items)
