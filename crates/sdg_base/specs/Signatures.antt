-- The methods of the classes that hold state, and of `Vector`: by name the types of the arguments and of the result, and
-- whether the first argument is the key, or the row, that chooses a part of a partitioned field.
use Rattle.std.specs.Prelude.{ℕ, List, [], ◌∷◌, Bool, true, false, Option, Some, None, codes, if◌then◌else◌}
use Rattle.std.specs.Str.{bytes_eq}
use Rattle.sdg_base.specs.declared.store.ClassName.{ClassName}
use Rattle.sdg_base.specs.declared.store.ClassName.TheVariants as class_name
use Rattle.sdg_base.specs.declared.value_type.ValueType.{ValueType}
use Rattle.sdg_base.specs.declared.value_type.ValueType.TheVariants.{Int, Long, Boolean, Vector, Void}

pub record Signature : Type 0 where
  pub arguments : List ValueType
  pub result : ValueType
  pub keyed : Bool

abbrev pub keyed : List ValueType → ValueType → Signature
keyed arguments result = record { arguments = arguments; result = result; keyed = true }

abbrev pub unkeyed : List ValueType → ValueType → Signature
unkeyed arguments result = record { arguments = arguments; result = result; keyed = false }

abbrev pub Methods : Type 0
Methods = List (List ℕ × Signature)

abbrev pub table_methods : Methods
table_methods =
    (codes "get", keyed (Long ∷ []) Long)
    ∷ (codes "has", keyed (Long ∷ []) Boolean)
    ∷ (codes "put", keyed (Long ∷ Long ∷ []) Void)
    ∷ (codes "add", keyed (Long ∷ Long ∷ []) Void)
    ∷ (codes "remove", keyed (Long ∷ []) Void)
    ∷ (codes "size", unkeyed [] Long)
    ∷ []

abbrev pub matrix_methods : Methods
matrix_methods =
    (codes "getElement", keyed (Long ∷ Long ∷ []) Long)
    ∷ (codes "setElement", keyed (Long ∷ Long ∷ Long ∷ []) Void)
    ∷ (codes "addElement", keyed (Long ∷ Long ∷ Long ∷ []) Void)
    ∷ (codes "getRow", keyed (Long ∷ Int ∷ []) Vector)
    ∷ (codes "multiply", unkeyed (Vector ∷ []) Vector)
    ∷ (codes "size", unkeyed [] Long)
    ∷ []

abbrev pub counter_methods : Methods
counter_methods =
    (codes "get", unkeyed [] Long)
    ∷ (codes "add", unkeyed (Long ∷ []) Void)
    ∷ (codes "set", unkeyed (Long ∷ []) Void)
    ∷ []

abbrev pub vector_methods : Methods
vector_methods =
    (codes "size", unkeyed [] Int)
    ∷ (codes "get", unkeyed (Int ∷ []) Long)
    ∷ (codes "set", unkeyed (Int ∷ Long ∷ []) Void)
    ∷ []

abbrev pub methods_of : ClassName → Methods
methods_of class_name.Table = table_methods
methods_of class_name.Matrix = matrix_methods
methods_of class_name.Counter = counter_methods

-- the method of a name, where there is one
abbrev pub named : List ℕ → Methods → Option Signature
named name [] = None
named name (method ∷ others) = if bytes_eq name method.0 then Some method.1 else named name others

abbrev pub state_method : ClassName → List ℕ → Option Signature
state_method class name = named name (methods_of class)

abbrev pub vector_method : List ℕ → Option Signature
vector_method name = named name vector_methods
