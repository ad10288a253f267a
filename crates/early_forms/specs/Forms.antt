-- The straight form, as a fact of a tree: it is the tree of such parts, with the places that it has.
use Rattle.std.specs.Prelude.{◌≡◌}
use Rattle.java_tree.specs.declared.tree.Class.{Class}
use Rattle.early_forms.specs.declared.straight.StraightClass.{StraightClass}
use Rattle.early_forms.specs.Trees.{class_tree}
use Rattle.early_forms.specs.Names.{IsProper}

abbrev pub IsStraightForm : Class → Type 0
IsStraightForm tree = (c : StraightClass) × (tree ≡ class_tree c) × IsProper c
