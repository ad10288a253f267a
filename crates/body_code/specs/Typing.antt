-- The types of expressions (JLS 15), and what an expression needs to be known before it is evaluated.
use Rattle.std.specs.Prelude.{ℕ, zero, suc, Bool, true, false, ◌||◌, if◌then◌else◌, List, [], ◌∷◌, ◌++◌, map, Option, Some, None, slice_get}
use Rattle.sdg_base.specs.declared.val.Num.{Num}
use Rattle.sdg_base.specs.declared.value_type.ValueType.{ValueType}
use Rattle.sdg_base.specs.declared.value_type.ValueType.TheVariants as type
use Rattle.sdg_base.specs.Types.{type_named, binary_type, unary_type}
use Rattle.java_tree.specs.declared.method_kinds.MethodKind.{MethodKind}
use Rattle.java_tree.specs.declared.method_kinds.MethodKind.TheVariants.{Helper, Merge}
use Rattle.java_tree.specs.declared.types.ValueType.{ValueType as VariableType}
use Rattle.java_tree.specs.declared.types.ValueType.TheVariants as variable
use Rattle.flat_code.specs.Types.{same_type, same_types}
use Rattle.access_blocks.specs.declared.body.Expression.{Expression}
use Rattle.access_blocks.specs.declared.body.Expression.TheOpen.{Expression-F}
use Rattle.access_blocks.specs.declared.body.Expression.TheOpen as e
use Rattle.access_blocks.specs.declared.body.Expression.TheFolds.{fold-Expression}
use Rattle.body_code.specs.declared.callee.Callee.{Callee}

abbrev pub type_by : VariableType → ValueType
type_by variable.Int = type.Int
type_by variable.Long = type.Long
type_by variable.Boolean = type.Boolean
type_by variable.Vector = type.Vector

-- what an expression stands in: the types of the variables, the methods of the class, and in a merge method the type of the
-- members of its collection, which is its variable 0
pub record Context : Type 0 where
  pub variables : List VariableType
  pub methods : List Callee
  pub members : Option ValueType

abbrev pub one_type : Option VariableType → Option ValueType
one_type None = None
one_type (Some t) = Some (type_by t)

-- the type of the value of a variable; a collection is none
abbrev pub variable_type_in : Option ValueType → List VariableType → ℕ → Option ValueType
variable_type_in (Some members) variables zero = None
variable_type_in (Some members) variables (suc v) = one_type (slice_get variables (suc v))
variable_type_in None variables v = one_type (slice_get variables v)

abbrev pub variable_type : Context → ℕ → Option ValueType
variable_type c v = variable_type_in c.members c.variables v

-- ---- what an expression gives on operands of these types

-- this type, where the operand has that one
abbrev pub where_type : Option ValueType → ValueType → ValueType → Option ValueType
where_type None s t = None
where_type (Some found) s t = if same_type found s then Some t else None

abbrev pub of_one : (ValueType → Option ValueType) → Option ValueType → Option ValueType
of_one f None = None
of_one f (Some t) = f t

abbrev pub of_two : (ValueType → ValueType → Option ValueType) → Option ValueType → Option ValueType → Option ValueType
of_two f (Some s) (Some t) = f s t
of_two f _ _ = None

abbrev pub cast_type : Num → Option ValueType → Option ValueType
cast_type to (Some type.Int) = Some (type_named to)
cast_type to (Some type.Long) = Some (type_named to)
cast_type to _ = None

abbrev pub alike : ValueType → ValueType → Option ValueType
alike s t = if same_type s t then Some s else None

-- one of two of one type (JLS 15.25)
abbrev pub chosen_type : Option ValueType → Option ValueType → Option ValueType → Option ValueType
chosen_type (Some type.Boolean) a b = of_two alike a b
chosen_type _ a b = None

abbrev pub and_then : Option ValueType → Option ValueType → Option ValueType
and_then None t = None
and_then (Some s) t = t

abbrev pub with_type : Option ValueType → Option (List ValueType) → Option (List ValueType)
with_type (Some t) (Some ts) = Some (t ∷ ts)
with_type _ _ = None

-- the types of several, where each has one
abbrev pub all_types : List (Option ValueType) → Option (List ValueType)
all_types [] = Some []
all_types (t ∷ ts) = with_type t (all_types ts)

abbrev pub called_by : MethodKind → List ValueType → ValueType → List ValueType → Option ValueType
called_by Helper params result args = if same_types args params then Some result else None
called_by _ params result args = None

abbrev pub called_type : Option Callee → Option (List ValueType) → Option ValueType
called_type (Some m) (Some args) = called_by m.kind m.params m.result args
called_type _ _ = None

abbrev pub merged_by : MethodKind → ValueType → Option ValueType
merged_by Merge result = Some result
merged_by _ result = None

abbrev pub merged_type : Option Callee → Option ValueType
merged_type None = None
merged_type (Some m) = merged_by m.kind m.result

abbrev pub type_step : Context → Expression-F (Option ValueType) → Option ValueType
type_step c e.Nothing = None
type_step c (e.Int n) = Some type.Int
type_step c (e.Long n) = Some type.Long
type_step c (e.Bool b) = Some type.Boolean
type_step c (e.Variable v) = variable_type c v
type_step c e.CarriedKey = Some type.Long
type_step c (e.Unary op a) = of_one (unary_type op) a
type_step c (e.Binary op a b) = of_two (binary_type op) a b
type_step c (e.Cast to a) = cast_type to a
type_step c (e.Conditional test a b) = chosen_type test a b
type_step c (e.NewVector n) = where_type n type.Int type.Vector
type_step c (e.VectorSize v) = where_type (variable_type c v) type.Vector type.Int
type_step c (e.VectorElement v at) = and_then (where_type (variable_type c v) type.Vector type.Long) (where_type at type.Int type.Long)
type_step c e.GatheredLength = and_then c.members (Some type.Int)
type_step c (e.Gathered at) = and_then (where_type at type.Int type.Int) c.members
type_step c (e.GatheredSize at) = and_then (where_type at type.Int type.Int) (where_type c.members type.Vector type.Int)
type_step c (e.GatheredElement at index) =
    and_then (where_type at type.Int type.Int) (and_then (where_type c.members type.Vector type.Long) (where_type index type.Int type.Long))
type_step c (e.Call m args) = called_type (slice_get c.methods m) (all_types args)
type_step c (e.Merge m) = merged_type (slice_get c.methods m)

-- None where an operand has no type or another one than is taken: no accepted class has such an expression
abbrev pub type_of : Context → Expression → Option ValueType
type_of c = fold-Expression (Option ValueType) (type_step c)

abbrev pub types_of : Context → List Expression → Option (List ValueType)
types_of c xs = all_types (map (type_of c) xs)

-- ---- what an expression needs

-- the variables that are read, the methods that merge what was gathered, and whether the key of the block is read
pub record Needs : Type 0 where
  pub variables : List ℕ
  pub merges : List ℕ
  pub key : Bool

abbrev pub nothing : Needs
nothing = record { variables = []; merges = []; key = false }

abbrev pub variable_alone : ℕ → Needs
variable_alone v = record { variables = v ∷ []; merges = []; key = false }

abbrev pub key_alone : Needs
key_alone = record { variables = []; merges = []; key = true }

abbrev pub merge_alone : ℕ → Needs
merge_alone m = record { variables = []; merges = m ∷ []; key = false }

abbrev pub both : Needs → Needs → Needs
both a b = record { variables = a.variables ++ b.variables; merges = a.merges ++ b.merges; key = a.key || b.key }

abbrev pub all_of : List Needs → Needs
all_of [] = nothing
all_of (n ∷ ns) = both n (all_of ns)

abbrev pub needs_step : Expression-F Needs → Needs
needs_step (e.Variable v) = variable_alone v
needs_step e.CarriedKey = key_alone
needs_step (e.Unary op a) = a
needs_step (e.Binary op a b) = both a b
needs_step (e.Cast to a) = a
needs_step (e.Conditional test a b) = both test (both a b)
needs_step (e.NewVector n) = n
needs_step (e.VectorSize v) = variable_alone v
needs_step (e.VectorElement v at) = both at (variable_alone v)
needs_step (e.Gathered at) = at
needs_step (e.GatheredSize at) = at
needs_step (e.GatheredElement at index) = both at index
needs_step (e.Call m args) = all_of args
needs_step (e.Merge m) = merge_alone m
needs_step _ = nothing

abbrev pub needs : Expression → Needs
needs = fold-Expression Needs needs_step

abbrev pub needs_of_all : List Expression → Needs
needs_of_all xs = all_of (map needs xs)
