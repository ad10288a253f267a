-- The methods of a class as a caller sees them, and its fields as a history names them.
use Rattle.std.specs.Prelude.{ℕ, suc, List, [], ◌∷◌, map, take}
use Rattle.java_tree.specs.declared.tree.Class.{Class}
use Rattle.java_tree.specs.declared.tree.Field.{Field}
use Rattle.java_tree.specs.declared.tree.Method.{Method}
use Rattle.java_tree.specs.declared.tree.TypeName.{TypeName}
use Rattle.java_tree.specs.declared.tree.TypeName.TheVariants as type_name
use Rattle.java_tree.specs.declared.method_kinds.MethodKind.{MethodKind}
use Rattle.java_tree.specs.declared.method_kinds.MethodKind.TheVariants.{Entry}
use Rattle.java_tree.specs.Kinds.{kind_of}
use Rattle.annotations.specs.Kinds.{kind_of_field}
use Rattle.access_blocks.specs.Programs.{is_partial, fields_in, methods_in}
use Rattle.run_text.specs.declared.entrance.ValueType.{ValueType}
use Rattle.run_text.specs.declared.entrance.ValueType.TheVariants as value_type
use Rattle.run_text.specs.declared.entrance.Entrance.{Entrance}
use Rattle.run_text.specs.declared.field.Field.{Field as NamedField}

-- The most methods, and the most fields, that have numbers. An accepted class has 256 and 64 at most.
abbrev pub most_members : ℕ
most_members = 65536

abbrev pub value_type_of : TypeName → ValueType
value_type_of type_name.Int = value_type.Int
value_type_of type_name.Long = value_type.Long
value_type_of type_name.Boolean = value_type.Boolean
value_type_of (type_name.Named name) = value_type.Vector

abbrev pub entrance_of : ℕ → Method → Entrance
entrance_of number m = record { number = number; name = m.name; parameters = map (λ p. value_type_of p.type_name) m.params }

-- a method of another kind is no entrance
abbrev pub with_entrance : MethodKind → Entrance → List Entrance → List Entrance
with_entrance Entry e others = e ∷ others
with_entrance _ e others = others

-- those of methods that have numbers from this one on
abbrev pub entrances_from : ℕ → List Method → List Entrance
entrances_from number [] = []
entrances_from number (m ∷ ms) = with_entrance (kind_of m) (entrance_of number m) (entrances_from (suc number) ms)

-- The entry methods, in text order. Methods of each kind are numbered together.
abbrev pub entrances_of : Class → List Entrance
entrances_of class = entrances_from 0 (take most_members (methods_in class.members))

abbrev pub named_field : Field → NamedField
named_field f = record { name = f.name; partial = is_partial (kind_of_field f) }

-- The fields, in text order.
abbrev pub fields_of : Class → List NamedField
fields_of class = map named_field (take most_members (fields_in class.members))
