-- What operators answer is of the type that the rules on types find.
use Rattle.std.proofs.Common.{◌≡◌, ℕ, ℤ, Bool, true, false, ◌||◌, Option, Some, Result, Ok, Err, if◌then◌else◌}
use Rattle.std.specs.Ordering.{int_eq}
use Rattle.std.specs.Prelude.{pos, ◌/◌, ◌^◌, ◌+ℤ◌, ◌-ℤ◌, ◌*ℤ◌, bit_and, bit_or, bit_xor, int_div, ◌&&◌}
use Rattle.sdg_base.specs.declared.operator.BinOp.{BinOp}
use Rattle.sdg_base.specs.declared.operator.BinOp.TheVariants as bin
use Rattle.sdg_base.specs.declared.val.Exn.{Exn}
use Rattle.sdg_base.specs.declared.val.Exn.TheVariants.{Arithmetic}
use Rattle.sdg_base.specs.declared.val.Num.{Num}
use Rattle.sdg_base.specs.declared.val.Num.TheVariants as num
use Rattle.sdg_base.specs.declared.val.Val.{Val}
use Rattle.sdg_base.specs.declared.val.Val.TheVariants as val
use Rattle.sdg_base.specs.Arithmetic.{wrap, digits, remainder, floor_shift, from_digits, by_digits}
use Rattle.sdg_base.specs.Operations.{unequal, on_numbers, on_alike, on_shift, computed, divided, compared}
use Rattle.java_tree.specs.declared.types.ValueType.TheVariants.{Boolean}
use Rattle.java_tree.specs.declared.types.ExprType.{ExprType}
use Rattle.java_tree.specs.declared.types.ExprType.TheVariants.{Value}
use Rattle.java_types.specs.Fits.{promoted, sort_of, given_by, type_of_num}
use Rattle.java_flow.specs.Constants.{beside, distance_of, promoted_operation}
use Rattle.resolved_constants.specs.Constants.{type_of_value}

abbrev pub is_lazy : BinOp → Bool
is_lazy bin.AndAlso = true
is_lazy bin.OrElse = true
is_lazy _ = false

abbrev pub Answer : Type 0
Answer = Option (Result Val Exn)

-- what is answered, if anything is, has this type
abbrev pub Answers : Answer → ExprType → Type 0
Answers o t = (v : Val) → o ≡ Some (Ok v) → t ≡ type_of_value v

the_answer : {r s : Result Val Exn} → Some r ≡ Some s → r ≡ s
the_answer e = cc

module _ (g : Num → ℤ → ℤ → Result Val Exn) (each : (t : Num) (a b : ℤ) (v : Val) → g t a b ≡ Ok v → type_of_num t ≡ type_of_value v) where
  numbers_type : (a b : Val) → Answers (on_numbers g (beside b a) (beside (beside b a) b)) (promoted (type_of_value a) (type_of_value b))
  numbers_type (val.Int a) (val.Int b) v e = each num.Int a b v (the_answer e)
  numbers_type (val.Int a) (val.Long b) v e = each num.Long a b v (the_answer e)
  numbers_type (val.Int a) (val.Bool b) v e = absurd (cc)
  numbers_type (val.Int a) (val.Vector b) v e = absurd (cc)
  numbers_type (val.Int a) val.Unit v e = absurd (cc)
  numbers_type (val.Long a) (val.Int b) v e = each num.Long a b v (the_answer e)
  numbers_type (val.Long a) (val.Long b) v e = each num.Long a b v (the_answer e)
  numbers_type (val.Long a) (val.Bool b) v e = absurd (cc)
  numbers_type (val.Long a) (val.Vector b) v e = absurd (cc)
  numbers_type (val.Long a) val.Unit v e = absurd (cc)
  numbers_type (val.Bool a) (val.Int b) v e = absurd (cc)
  numbers_type (val.Bool a) (val.Long b) v e = absurd (cc)
  numbers_type (val.Bool a) (val.Bool b) v e = absurd (cc)
  numbers_type (val.Bool a) (val.Vector b) v e = absurd (cc)
  numbers_type (val.Bool a) val.Unit v e = absurd (cc)
  numbers_type (val.Vector a) (val.Int b) v e = absurd (cc)
  numbers_type (val.Vector a) (val.Long b) v e = absurd (cc)
  numbers_type (val.Vector a) (val.Bool b) v e = absurd (cc)
  numbers_type (val.Vector a) (val.Vector b) v e = absurd (cc)
  numbers_type (val.Vector a) val.Unit v e = absurd (cc)
  numbers_type val.Unit (val.Int b) v e = absurd (cc)
  numbers_type val.Unit (val.Long b) v e = absurd (cc)
  numbers_type val.Unit (val.Bool b) v e = absurd (cc)
  numbers_type val.Unit (val.Vector b) v e = absurd (cc)
  numbers_type val.Unit val.Unit v e = absurd (cc)

  alike_type : (h : Bool → Bool → Bool) (a b : Val) → Answers (on_alike g h (beside b a) (beside (beside b a) b)) (promoted (type_of_value a) (type_of_value b))
  alike_type h (val.Int a) (val.Int b) v e = each num.Int a b v (the_answer e)
  alike_type h (val.Int a) (val.Long b) v e = each num.Long a b v (the_answer e)
  alike_type h (val.Int a) (val.Bool b) v e = absurd (cc)
  alike_type h (val.Int a) (val.Vector b) v e = absurd (cc)
  alike_type h (val.Int a) val.Unit v e = absurd (cc)
  alike_type h (val.Long a) (val.Int b) v e = each num.Long a b v (the_answer e)
  alike_type h (val.Long a) (val.Long b) v e = each num.Long a b v (the_answer e)
  alike_type h (val.Long a) (val.Bool b) v e = absurd (cc)
  alike_type h (val.Long a) (val.Vector b) v e = absurd (cc)
  alike_type h (val.Long a) val.Unit v e = absurd (cc)
  alike_type h (val.Bool a) (val.Int b) v e = absurd (cc)
  alike_type h (val.Bool a) (val.Long b) v e = absurd (cc)
  alike_type h (val.Bool a) (val.Bool b) v e = cc
  alike_type h (val.Bool a) (val.Vector b) v e = absurd (cc)
  alike_type h (val.Bool a) val.Unit v e = absurd (cc)
  alike_type h (val.Vector a) (val.Int b) v e = absurd (cc)
  alike_type h (val.Vector a) (val.Long b) v e = absurd (cc)
  alike_type h (val.Vector a) (val.Bool b) v e = absurd (cc)
  alike_type h (val.Vector a) (val.Vector b) v e = absurd (cc)
  alike_type h (val.Vector a) val.Unit v e = absurd (cc)
  alike_type h val.Unit (val.Int b) v e = absurd (cc)
  alike_type h val.Unit (val.Long b) v e = absurd (cc)
  alike_type h val.Unit (val.Bool b) v e = absurd (cc)
  alike_type h val.Unit (val.Vector b) v e = absurd (cc)
  alike_type h val.Unit val.Unit v e = absurd (cc)

module _ (p : ℤ → ℤ → Bool) where
  compared_type : (a b : Val) → Answers (on_numbers (compared p) a b) (Value Boolean)
  compared_type (val.Int a) (val.Int b) v e = cc
  compared_type (val.Int a) (val.Long b) v e = absurd (cc)
  compared_type (val.Int a) (val.Bool b) v e = absurd (cc)
  compared_type (val.Int a) (val.Vector b) v e = absurd (cc)
  compared_type (val.Int a) val.Unit v e = absurd (cc)
  compared_type (val.Long a) (val.Int b) v e = absurd (cc)
  compared_type (val.Long a) (val.Long b) v e = cc
  compared_type (val.Long a) (val.Bool b) v e = absurd (cc)
  compared_type (val.Long a) (val.Vector b) v e = absurd (cc)
  compared_type (val.Long a) val.Unit v e = absurd (cc)
  compared_type (val.Bool a) (val.Int b) v e = absurd (cc)
  compared_type (val.Bool a) (val.Long b) v e = absurd (cc)
  compared_type (val.Bool a) (val.Bool b) v e = absurd (cc)
  compared_type (val.Bool a) (val.Vector b) v e = absurd (cc)
  compared_type (val.Bool a) val.Unit v e = absurd (cc)
  compared_type (val.Vector a) (val.Int b) v e = absurd (cc)
  compared_type (val.Vector a) (val.Long b) v e = absurd (cc)
  compared_type (val.Vector a) (val.Bool b) v e = absurd (cc)
  compared_type (val.Vector a) (val.Vector b) v e = absurd (cc)
  compared_type (val.Vector a) val.Unit v e = absurd (cc)
  compared_type val.Unit (val.Int b) v e = absurd (cc)
  compared_type val.Unit (val.Long b) v e = absurd (cc)
  compared_type val.Unit (val.Bool b) v e = absurd (cc)
  compared_type val.Unit (val.Vector b) v e = absurd (cc)
  compared_type val.Unit val.Unit v e = absurd (cc)

  compared_alike : (h : Bool → Bool → Bool) (a b : Val) → Answers (on_alike (compared p) h a b) (Value Boolean)
  compared_alike h (val.Int a) (val.Int b) v e = cc
  compared_alike h (val.Int a) (val.Long b) v e = absurd (cc)
  compared_alike h (val.Int a) (val.Bool b) v e = absurd (cc)
  compared_alike h (val.Int a) (val.Vector b) v e = absurd (cc)
  compared_alike h (val.Int a) val.Unit v e = absurd (cc)
  compared_alike h (val.Long a) (val.Int b) v e = absurd (cc)
  compared_alike h (val.Long a) (val.Long b) v e = cc
  compared_alike h (val.Long a) (val.Bool b) v e = absurd (cc)
  compared_alike h (val.Long a) (val.Vector b) v e = absurd (cc)
  compared_alike h (val.Long a) val.Unit v e = absurd (cc)
  compared_alike h (val.Bool a) (val.Int b) v e = absurd (cc)
  compared_alike h (val.Bool a) (val.Long b) v e = absurd (cc)
  compared_alike h (val.Bool a) (val.Bool b) v e = cc
  compared_alike h (val.Bool a) (val.Vector b) v e = absurd (cc)
  compared_alike h (val.Bool a) val.Unit v e = absurd (cc)
  compared_alike h (val.Vector a) (val.Int b) v e = absurd (cc)
  compared_alike h (val.Vector a) (val.Long b) v e = absurd (cc)
  compared_alike h (val.Vector a) (val.Bool b) v e = absurd (cc)
  compared_alike h (val.Vector a) (val.Vector b) v e = absurd (cc)
  compared_alike h (val.Vector a) val.Unit v e = absurd (cc)
  compared_alike h val.Unit (val.Int b) v e = absurd (cc)
  compared_alike h val.Unit (val.Long b) v e = absurd (cc)
  compared_alike h val.Unit (val.Bool b) v e = absurd (cc)
  compared_alike h val.Unit (val.Vector b) v e = absurd (cc)
  compared_alike h val.Unit val.Unit v e = absurd (cc)

shift_type : (f : Num → ℤ → ℕ → ℤ) (a b : Val) → Answers (on_shift f a b) (type_of_value a)
shift_type f (val.Int a) (val.Int b) v e = cc
shift_type f (val.Int a) (val.Long b) v e = absurd (cc)
shift_type f (val.Int a) (val.Bool b) v e = absurd (cc)
shift_type f (val.Int a) (val.Vector b) v e = absurd (cc)
shift_type f (val.Int a) val.Unit v e = absurd (cc)
shift_type f (val.Long a) (val.Int b) v e = cc
shift_type f (val.Long a) (val.Long b) v e = absurd (cc)
shift_type f (val.Long a) (val.Bool b) v e = absurd (cc)
shift_type f (val.Long a) (val.Vector b) v e = absurd (cc)
shift_type f (val.Long a) val.Unit v e = absurd (cc)
shift_type f (val.Bool a) (val.Int b) v e = absurd (cc)
shift_type f (val.Bool a) (val.Long b) v e = absurd (cc)
shift_type f (val.Bool a) (val.Bool b) v e = absurd (cc)
shift_type f (val.Bool a) (val.Vector b) v e = absurd (cc)
shift_type f (val.Bool a) val.Unit v e = absurd (cc)
shift_type f (val.Vector a) (val.Int b) v e = absurd (cc)
shift_type f (val.Vector a) (val.Long b) v e = absurd (cc)
shift_type f (val.Vector a) (val.Bool b) v e = absurd (cc)
shift_type f (val.Vector a) (val.Vector b) v e = absurd (cc)
shift_type f (val.Vector a) val.Unit v e = absurd (cc)
shift_type f val.Unit (val.Int b) v e = absurd (cc)
shift_type f val.Unit (val.Long b) v e = absurd (cc)
shift_type f val.Unit (val.Bool b) v e = absurd (cc)
shift_type f val.Unit (val.Vector b) v e = absurd (cc)
shift_type f val.Unit val.Unit v e = absurd (cc)

computed_each : (f : Num → ℤ → ℤ → ℤ) (t : Num) (a b : ℤ) (v : Val) → computed f t a b ≡ Ok v → type_of_num t ≡ type_of_value v
computed_each f num.Int a b v e = cc
computed_each f num.Long a b v e = cc

divided_by : (zero : Bool) (f : Num → ℤ → ℤ → ℤ) (t : Num) (a b : ℤ) (v : Val) → (if zero then Err Arithmetic else computed f t a b) ≡ Ok v → type_of_num t ≡ type_of_value v
divided_by true f t a b v e = absurd (cc)
divided_by false f t a b v e = computed_each f t a b v e

divided_each : (f : Num → ℤ → ℤ → ℤ) (t : Num) (a b : ℤ) (v : Val) → divided f t a b ≡ Ok v → type_of_num t ≡ type_of_value v
divided_each f t a b v e = divided_by (int_eq b (pos 0)) f t a b v e

-- What an operator answers is of the type that the rules on types find.
pub operation_type : (op : BinOp) → is_lazy op ≡ false → (a b : Val) → Answers (promoted_operation op a b) (given_by (sort_of op) (type_of_value a) (type_of_value b))
operation_type bin.Mul strict a b = numbers_type (computed (λ t x y. wrap t (x *ℤ y))) (computed_each (λ t x y. wrap t (x *ℤ y))) a b
operation_type bin.Add strict a b = numbers_type (computed (λ t x y. wrap t (x +ℤ y))) (computed_each (λ t x y. wrap t (x +ℤ y))) a b
operation_type bin.Sub strict a b = numbers_type (computed (λ t x y. wrap t (x -ℤ y))) (computed_each (λ t x y. wrap t (x -ℤ y))) a b
operation_type bin.Div strict a b = numbers_type (divided (λ t x y. wrap t (int_div x y))) (divided_each (λ t x y. wrap t (int_div x y))) a b
operation_type bin.Rem strict a b = numbers_type (divided (λ t x y. remainder x y)) (divided_each (λ t x y. remainder x y)) a b
operation_type bin.Shl strict a b = shift_type (λ t x d. wrap t (x *ℤ pos (2 ^ d))) a (distance_of b)
operation_type bin.Shr strict a b = shift_type (λ t x d. floor_shift x d) a (distance_of b)
operation_type bin.UShr strict a b = shift_type (λ t x d. from_digits t (digits t x / 2 ^ d)) a (distance_of b)
operation_type bin.Lt strict a b = compared_type _ (beside b a) (beside (beside b a) b)
operation_type bin.Le strict a b = compared_type _ (beside b a) (beside (beside b a) b)
operation_type bin.Gt strict a b = compared_type _ (beside b a) (beside (beside b a) b)
operation_type bin.Ge strict a b = compared_type _ (beside b a) (beside (beside b a) b)
operation_type bin.Eq strict a b = compared_alike _ _ (beside b a) (beside (beside b a) b)
operation_type bin.Ne strict a b = compared_alike _ _ (beside b a) (beside (beside b a) b)
operation_type bin.And strict a b = alike_type (computed (by_digits bit_and)) (computed_each (by_digits bit_and)) ◌&&◌ a b
operation_type bin.Xor strict a b = alike_type (computed (by_digits bit_xor)) (computed_each (by_digits bit_xor)) unequal a b
operation_type bin.Or strict a b = alike_type (computed (by_digits bit_or)) (computed_each (by_digits bit_or)) ◌||◌ a b
operation_type bin.AndAlso strict a b = absurd (cc)
operation_type bin.OrElse strict a b = absurd (cc)
