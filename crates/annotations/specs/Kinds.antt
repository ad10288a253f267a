-- The kinds of the fields of a class.
use Rattle.std.specs.Prelude.{Bool, true, false, List, [], ◌∷◌, ◌++◌, fold, if◌then◌else◌}
use Rattle.std.specs.List.{list_any}
use Rattle.java_tree.specs.declared.tree.FieldModifier.{FieldModifier}
use Rattle.java_tree.specs.declared.tree.FieldModifier.TheVariants as modifier
use Rattle.java_tree.specs.declared.tree.Field.{Field}
use Rattle.java_tree.specs.declared.tree.Member.{Member}
use Rattle.java_tree.specs.declared.tree.Member.TheVariants as member
use Rattle.java_tree.specs.declared.tree.Class.{Class}
use Rattle.annotations.specs.declared.site.FieldKind.{FieldKind}
use Rattle.annotations.specs.declared.site.FieldKind.TheVariants.{Partitioned, Partial}

abbrev pub is_partitioned_modifier : FieldModifier → Bool
is_partitioned_modifier modifier.Partitioned = true
is_partitioned_modifier modifier.Partial = false
is_partitioned_modifier modifier.Public = false
is_partitioned_modifier modifier.Private = false

-- With exactly one annotation a field is of its kind. Nothing rests on the kind of another.
abbrev pub kind_of_field : Field → FieldKind
kind_of_field f = if list_any is_partitioned_modifier f.modifiers then Partitioned else Partial

abbrev pub with_kind : List FieldKind → Member → List FieldKind
with_kind kinds (member.Field f) = kinds ++ kind_of_field f ∷ []
with_kind kinds (member.Method m) = kinds

-- by the number of a field, in text order
abbrev pub kinds_of : Class → List FieldKind
kinds_of c = fold with_kind [] c.members
