-- The names that have a meaning of their own.
use Rattle.std.specs.Prelude.{ℕ, Bool, true, ◌||◌, List, Option, Some, None, is_some, if◌then◌else◌, codes}
use Rattle.std.specs.Str.{bytes_eq}
use Rattle.sdg_base.specs.declared.store.ClassName.{ClassName}
use Rattle.sdg_base.specs.declared.store.ClassName.TheVariants as class_name
use Rattle.java_tree.specs.declared.tree.TypeName.{TypeName}
use Rattle.java_tree.specs.declared.tree.TypeName.TheVariants as type_name
use Rattle.java_tree.specs.declared.types.ValueType.{ValueType}
use Rattle.java_tree.specs.declared.types.ValueType.TheVariants as value_types

-- the classes that hold state
abbrev pub state_class : List ℕ → Option ClassName
state_class name =
    if bytes_eq name (codes "Table") then Some class_name.Table
    else (if bytes_eq name (codes "Matrix") then Some class_name.Matrix
    else (if bytes_eq name (codes "Counter") then Some class_name.Counter else None))

abbrev pub is_vector_name : List ℕ → Bool
is_vector_name name = bytes_eq name (codes "Vector")

-- No declaration has one of these names.
abbrev pub is_reserved : List ℕ → Bool
is_reserved name = is_some (state_class name) || is_vector_name name

-- the types that a local, a parameter or a result may have
abbrev pub value_type : TypeName → Option ValueType
value_type type_name.Int = Some value_types.Int
value_type type_name.Long = Some value_types.Long
value_type type_name.Boolean = Some value_types.Boolean
value_type (type_name.Named name) = if is_vector_name name then Some value_types.Vector else None

-- The types that are declared are those of these names, and the class itself. An import declares nothing.
abbrev pub is_type : List ℕ → List ℕ → Bool
is_type class_name name = is_reserved name || bytes_eq name class_name

abbrev pub is_declared : List ℕ → TypeName → Bool
is_declared class_name type_name.Int = true
is_declared class_name type_name.Long = true
is_declared class_name type_name.Boolean = true
is_declared class_name (type_name.Named name) = is_type class_name name
