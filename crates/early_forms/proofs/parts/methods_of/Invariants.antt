use Rattle.std.proofs.Common.{◌≡◌, map, take}
use Rattle.early_forms.specs.Trees.{method_member}
use Rattle.early_forms.proofs.parts.methods_of.Given as goal

abbrev pub invariant-loop-member : goal.invariant-loop-member
invariant-loop-member l = take l.member-index l.members ≡ map method_member l.methods
