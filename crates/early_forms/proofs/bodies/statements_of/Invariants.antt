use Rattle.std.proofs.Common.{◌≡◌, map, take}
use Rattle.early_forms.specs.Trees.{statement_tree}
use Rattle.early_forms.proofs.bodies.statements_of.Given as goal

abbrev pub invariant-loop-item : goal.invariant-loop-item
invariant-loop-item l = take l.item-index l.items ≡ map statement_tree l.statements
