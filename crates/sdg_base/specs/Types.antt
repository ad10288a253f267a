-- The types of values, and the types that the operators take and give (JLS 15.15, 15.17 to 15.24), after promotion.
use Rattle.std.specs.Prelude.{Option, Some, None, IsSome}
use Rattle.sdg_base.specs.declared.operator.BinOp.{BinOp}
use Rattle.sdg_base.specs.declared.operator.BinOp.TheVariants as bin
use Rattle.sdg_base.specs.declared.operator.UnOp.{UnOp}
use Rattle.sdg_base.specs.declared.operator.UnOp.TheVariants as un
use Rattle.sdg_base.specs.declared.val.Num.{Num}
use Rattle.sdg_base.specs.declared.val.Num.TheVariants as num
use Rattle.sdg_base.specs.declared.val.Val.{Val}
use Rattle.sdg_base.specs.declared.val.Val.TheVariants as val
use Rattle.sdg_base.specs.declared.value_type.ValueType.{ValueType}
use Rattle.sdg_base.specs.declared.value_type.ValueType.TheVariants.{Int, Long, Boolean, Vector, Void}

abbrev pub type_of : Val → ValueType
type_of (val.Int n) = Int
type_of (val.Long n) = Long
type_of (val.Bool b) = Boolean
type_of (val.Vector longs) = Vector
type_of val.Unit = Void

-- the type of numbers that is named
abbrev pub type_named : Num → ValueType
type_named num.Int = Int
type_named num.Long = Long

-- two numbers of one type, and a number of that type
abbrev pub arithmetic_type : ValueType → ValueType → Option ValueType
arithmetic_type Int Int = Some Int
arithmetic_type Long Long = Some Long
arithmetic_type _ _ = None

-- a number, and how far it is shifted, which is an int; the type is that of the left operand
abbrev pub shift_type : ValueType → ValueType → Option ValueType
shift_type Int Int = Some Int
shift_type Long Int = Some Long
shift_type _ _ = None

-- two numbers of one type
abbrev pub order_type : ValueType → ValueType → Option ValueType
order_type Int Int = Some Boolean
order_type Long Long = Some Boolean
order_type _ _ = None

-- two numbers of one type, or two booleans
abbrev pub equality_type : ValueType → ValueType → Option ValueType
equality_type Boolean Boolean = Some Boolean
equality_type s t = order_type s t

abbrev pub bitwise_type : ValueType → ValueType → Option ValueType
bitwise_type Boolean Boolean = Some Boolean
bitwise_type s t = arithmetic_type s t

abbrev pub condition_type : ValueType → ValueType → Option ValueType
condition_type Boolean Boolean = Some Boolean
condition_type _ _ = None

-- the type of a binary operator's value on operands of two types; None where it does not take them
abbrev pub binary_type : BinOp → ValueType → ValueType → Option ValueType
binary_type bin.Mul s t = arithmetic_type s t
binary_type bin.Div s t = arithmetic_type s t
binary_type bin.Rem s t = arithmetic_type s t
binary_type bin.Add s t = arithmetic_type s t
binary_type bin.Sub s t = arithmetic_type s t
binary_type bin.Shl s t = shift_type s t
binary_type bin.Shr s t = shift_type s t
binary_type bin.UShr s t = shift_type s t
binary_type bin.Lt s t = order_type s t
binary_type bin.Le s t = order_type s t
binary_type bin.Gt s t = order_type s t
binary_type bin.Ge s t = order_type s t
binary_type bin.Eq s t = equality_type s t
binary_type bin.Ne s t = equality_type s t
binary_type bin.And s t = bitwise_type s t
binary_type bin.Xor s t = bitwise_type s t
binary_type bin.Or s t = bitwise_type s t
binary_type bin.AndAlso s t = condition_type s t
binary_type bin.OrElse s t = condition_type s t

abbrev pub number_type : ValueType → Option ValueType
number_type Int = Some Int
number_type Long = Some Long
number_type _ = None

abbrev pub boolean_type : ValueType → Option ValueType
boolean_type Boolean = Some Boolean
boolean_type _ = None

-- the same of a unary operator
abbrev pub unary_type : UnOp → ValueType → Option ValueType
unary_type un.Plus t = number_type t
unary_type un.Minus t = number_type t
unary_type un.Complement t = number_type t
unary_type un.Not t = boolean_type t

-- an operator takes two values, or one
abbrev pub Takes : BinOp → Val → Val → Type 0
Takes op a b = IsSome (binary_type op (type_of a) (type_of b))

abbrev pub TakesOne : UnOp → Val → Type 0
TakesOne op a = IsSome (unary_type op (type_of a))
