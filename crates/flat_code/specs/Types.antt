-- The types of variables, operands and results, the fields by name, and the signatures of their methods.
use Rattle.std.specs.Prelude.{ℕ, zero, suc, List, [], ◌∷◌, Bool, true, false, Option, Some, None, slice_get, if◌then◌else◌}
use Rattle.std.specs.Str.{bytes_eq}
use Rattle.sdg_base.specs.declared.operator.BinOp.{BinOp}
use Rattle.sdg_base.specs.declared.operator.BinOp.TheVariants as bin
use Rattle.sdg_base.specs.declared.value_type.ValueType.{ValueType}
use Rattle.sdg_base.specs.declared.value_type.ValueType.TheVariants as type
use Rattle.sdg_base.specs.Signatures.{Signature}
use Rattle.state_classes.specs.declared.method.Method.{Method}
use Rattle.state_classes.specs.Methods.{signature}
use Rattle.flat_code.specs.declared.graph.GraphField.{GraphField}
use Rattle.flat_code.specs.declared.graph.GraphMethod.{GraphMethod}
use Rattle.flat_code.specs.declared.graph.VarType.{VarType}
use Rattle.flat_code.specs.declared.graph.VarType.TheVariants as var
use Rattle.flat_code.specs.declared.graph.VariableType.{VariableType}
use Rattle.flat_code.specs.declared.graph.VariableType.TheVariants.{One, Collection}
use Rattle.flat_code.specs.declared.graph.OperandType.{OperandType}
use Rattle.flat_code.specs.declared.graph.OperandType.TheVariants as operand

abbrev pub type_by : VarType → ValueType
type_by var.Int = type.Int
type_by var.Long = type.Long
type_by var.Boolean = type.Boolean
type_by var.Vector = type.Vector

-- A void method has none.
abbrev pub result_by : Option VarType → ValueType
result_by None = type.Void
result_by (Some t) = type_by t

-- the type of the one value that a variable has
abbrev pub one_type : VariableType → Option ValueType
one_type (One t) = Some (type_by t)
one_type (Collection t) = None

-- the type of the members of a collection
abbrev pub member_type : VariableType → Option ValueType
member_type (One t) = None
member_type (Collection t) = Some (type_by t)

abbrev pub in_variable : (VariableType → Option ValueType) → Option VariableType → Option ValueType
in_variable f None = None
in_variable f (Some t) = f t

abbrev pub type_of_variable : GraphMethod → ℕ → Option ValueType
type_of_variable m v = in_variable one_type (slice_get m.vars v)

abbrev pub members_of_variable : GraphMethod → ℕ → Option ValueType
members_of_variable m v = in_variable member_type (slice_get m.vars v)

-- ---- operands

-- The right operand of a shift is an int, whatever the left one is (JLS 15.19).
abbrev pub is_shift : BinOp → Bool
is_shift bin.Shl = true
is_shift bin.Shr = true
is_shift bin.UShr = true
is_shift _ = false

abbrev pub operand_type : OperandType → ValueType
operand_type operand.Int = type.Int
operand_type operand.Long = type.Long
operand_type operand.Boolean = type.Boolean

abbrev pub right_type : BinOp → OperandType → ValueType
right_type op t = if is_shift op then type.Int else operand_type t

abbrev pub same_type : ValueType → ValueType → Bool
same_type type.Int type.Int = true
same_type type.Long type.Long = true
same_type type.Boolean type.Boolean = true
same_type type.Vector type.Vector = true
same_type type.Void type.Void = true
same_type _ _ = false

abbrev pub same_types : List ValueType → List ValueType → Bool
same_types [] [] = true
same_types (s ∷ ss) (t ∷ ts) = if same_type s t then same_types ss ts else false
same_types _ _ = false

-- ---- fields

abbrev pub counted : Option ℕ → Option ℕ
counted None = None
counted (Some n) = Some (suc n)

-- the number of the first field of a name
abbrev pub number_of : List ℕ → List GraphField → Option ℕ
number_of name [] = None
number_of name (field ∷ fields) = if bytes_eq name field.name then Some zero else counted (number_of name fields)

-- the first field of a name
abbrev pub field_named : List ℕ → List GraphField → Option GraphField
field_named name [] = None
field_named name (field ∷ fields) = if bytes_eq name field.name then Some field else field_named name fields

abbrev pub signature_in : Option GraphField → Method → Option Signature
signature_in None m = None
signature_in (Some field) m = signature field.class m

-- what the class of the field of a name says of a method
abbrev pub signature_at : List GraphField → List ℕ → Method → Option Signature
signature_at fields name m = signature_in (field_named name fields) m
