use Rattle.std.proofs.Common.{◌≡◌, ◌≤◌, take}
use Rattle.annotations.specs.Members as spec
use Rattle.annotations.proofs.members.is_annotated.Given as goal

abbrev pub invariant-loop-modifier : goal.invariant-loop-modifier
invariant-loop-modifier l = (l.count ≡ spec.annotations (take l.modifier-index l.modifiers)) × (l.count ≤ l.modifier-index)
