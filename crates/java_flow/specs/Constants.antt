-- Constant expressions and their values (JLS 15.28): they are built of literals, parentheses, casts and operators, and do
-- not throw. What isn't evaluated does not throw either.
use Rattle.std.specs.Prelude.{ℕ, Bool, true, false, ◌||◌, if◌then◌else◌, Option, Some, None, Result, Ok, Err}
use Rattle.std.specs.Int.{cast_signed, w64}
use Rattle.sdg_base.specs.declared.val.Val.{Val}
use Rattle.sdg_base.specs.declared.val.Val.TheVariants as val
use Rattle.sdg_base.specs.declared.val.Exn.{Exn}
use Rattle.sdg_base.specs.declared.val.Num.{Num}
use Rattle.sdg_base.specs.declared.val.Num.TheVariants as num
use Rattle.sdg_base.specs.declared.operator.BinOp.{BinOp}
use Rattle.sdg_base.specs.declared.operator.BinOp.TheVariants as bin
use Rattle.sdg_base.specs.declared.operator.UnOp.{UnOp}
use Rattle.sdg_base.specs.Arithmetic.{wrap}
use Rattle.sdg_base.specs.Operations.{operation, unary_operation, converted}

-- what an expression gives: Some None where it throws, and None where it isn't built of these parts
abbrev pub Constant : Type 0
Constant = Option (Option Val)

-- of one operand
abbrev pub given : Option Val → Constant
given None = None
given (Some v) = Some (Some v)

abbrev pub from_operand : (Val → Option Val) → Constant → Constant
from_operand f None = None
from_operand f (Some None) = Some None
from_operand f (Some (Some v)) = given (f v)

-- A literal is what its digits write in two's complement (JLS 3.10.1): a long, or its low half as an int.
abbrev pub literal : ℕ → Bool → Constant
literal digits true = Some (Some (val.Long (cast_signed w64 digits)))
literal digits false = given (converted num.Int (val.Long (cast_signed w64 digits)))

-- ---- two operands, of which one may be promoted (JLS 5.6)

abbrev pub is_shift : BinOp → Bool
is_shift bin.Shl = true
is_shift bin.Shr = true
is_shift bin.UShr = true
is_shift _ = false

-- where one of two numbers is a long, both are
abbrev pub beside : Val → Val → Val
beside (val.Long b) (val.Int a) = val.Long a
beside _ a = a

-- how far to shift, of which the low digits count
abbrev pub distance_of : Val → Val
distance_of (val.Long b) = val.Int (wrap num.Int b)
distance_of b = b

abbrev pub of_one_type : BinOp → Val → Val → Option (Result Val Exn)
of_one_type op a b = operation op a (beside a b)

abbrev pub promoted_operation : BinOp → Val → Val → Option (Result Val Exn)
promoted_operation op a b = if is_shift op then operation op a (distance_of b) else of_one_type op (beside b a) b

abbrev pub answered : Option (Result Val Exn) → Constant
answered None = None
answered (Some (Err e)) = Some None
answered (Some (Ok v)) = Some (Some v)

-- both are evaluated, from left to right
abbrev pub of_both : BinOp → Constant → Constant → Constant
of_both op (Some (Some a)) (Some (Some b)) = answered (promoted_operation op a b)
of_both op (Some a) (Some b) = Some None
of_both op _ _ = None

-- the second is evaluated where the first is true (JLS 15.23), or where it is false (JLS 15.24)
abbrev pub of_and : Constant → Constant → Constant
of_and (Some (Some (val.Bool true))) (Some b) = Some b
of_and (Some (Some (val.Bool false))) (Some b) = Some (Some (val.Bool false))
of_and (Some None) (Some b) = Some None
of_and _ _ = None

abbrev pub of_or : Constant → Constant → Constant
of_or (Some (Some (val.Bool true))) (Some b) = Some (Some (val.Bool true))
of_or (Some (Some (val.Bool false))) (Some b) = Some b
of_or (Some None) (Some b) = Some None
of_or _ _ = None

abbrev pub binary_constant : BinOp → Constant → Constant → Constant
binary_constant bin.AndAlso a b = of_and a b
binary_constant bin.OrElse a b = of_or a b
binary_constant op a b = of_both op a b

abbrev pub unary_constant : UnOp → Constant → Constant
unary_constant op x = from_operand (unary_operation op) x

abbrev pub cast_constant : Num → Constant → Constant
cast_constant to x = from_operand (converted to) x

-- one of two (JLS 15.25), as a long where either is one
abbrev pub long_if : Bool → Constant → Constant
long_if true x = cast_constant num.Long x
long_if false x = x

abbrev pub conditional_constant : Bool → Constant → Constant → Constant → Constant
conditional_constant is_long (Some (Some (val.Bool true))) (Some first) (Some second) = long_if is_long (Some first)
conditional_constant is_long (Some (Some (val.Bool false))) (Some first) (Some second) = long_if is_long (Some second)
conditional_constant is_long (Some None) (Some first) (Some second) = Some None
conditional_constant is_long _ _ _ = None

-- ---- the types of these expressions, as far as widening asks: whether it is long

abbrev pub is_long_number : Num → Bool
is_long_number num.Int = false
is_long_number num.Long = true

-- of the left operand alone, of either, or of none
abbrev pub binary_is_long : BinOp → Bool → Bool → Bool
binary_is_long bin.Shl a b = a
binary_is_long bin.Shr a b = a
binary_is_long bin.UShr a b = a
binary_is_long bin.Mul a b = a || b
binary_is_long bin.Div a b = a || b
binary_is_long bin.Rem a b = a || b
binary_is_long bin.Add a b = a || b
binary_is_long bin.Sub a b = a || b
binary_is_long bin.And a b = a || b
binary_is_long bin.Xor a b = a || b
binary_is_long bin.Or a b = a || b
binary_is_long _ a b = false

-- ---- the constants `true` and `false`

abbrev pub is_true : Constant → Bool
is_true (Some (Some (val.Bool b))) = b
is_true _ = false

abbrev pub is_false : Constant → Bool
is_false (Some (Some (val.Bool true))) = false
is_false (Some (Some (val.Bool false))) = true
is_false _ = false
