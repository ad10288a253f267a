use Rattle.std.proofs.Common.{◌≡◌, take}
use Rattle.java_types.specs.Declarations as spec
use Rattle.java_types.proofs.declarations.env_of.Given as goal

abbrev pub invariant-loop-member : goal.invariant-loop-member
invariant-loop-member l = (l.fields ≡ spec.fields_of (take l.member-index l.member-items)) × (l.methods ≡ spec.methods_of (take l.member-index l.member-items))
