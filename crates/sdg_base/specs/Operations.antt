-- What the operators and the casts answer (JLS 5.1.2, 5.1.3, 15.15 to 15.24).
use Rattle.std.specs.Prelude.{ℕ, ℤ, pos, Bool, true, false, not, ◌&&◌, ◌||◌, ◌≡◌, ◌/◌, ◌^◌, ◌+ℤ◌, ◌-ℤ◌, ◌*ℤ◌, neg_ℤ, Option, Some, None, Result, Ok, Err, bit_and, bit_or, bit_xor, int_lt, int_le, int_div, if◌then◌else◌}
use Rattle.std.specs.Ordering.{int_eq}
use Rattle.sdg_base.specs.declared.operator.BinOp.{BinOp}
use Rattle.sdg_base.specs.declared.operator.BinOp.TheVariants as bin
use Rattle.sdg_base.specs.declared.operator.UnOp.{UnOp}
use Rattle.sdg_base.specs.declared.operator.UnOp.TheVariants as un
use Rattle.sdg_base.specs.declared.val.Exn.{Exn}
use Rattle.sdg_base.specs.declared.val.Exn.TheVariants.{Arithmetic}
use Rattle.sdg_base.specs.declared.val.Num.{Num}
use Rattle.sdg_base.specs.declared.val.Num.TheVariants as num
use Rattle.sdg_base.specs.declared.val.Val.{Val}
use Rattle.sdg_base.specs.declared.val.Val.TheVariants as val
use Rattle.sdg_base.specs.Arithmetic.{digits, wrap, remainder, distance, floor_shift, from_digits, by_digits, inverted}

-- a number as a value of its type
abbrev pub of_number : Num → ℤ → Val
of_number num.Int n = val.Int n
of_number num.Long n = val.Long n

-- ---- which operands an operator works on: None where it takes no such operands

abbrev pub Answer : Type 0
Answer = Option (Result Val Exn)

-- two numbers of one type
abbrev pub on_numbers : (Num → ℤ → ℤ → Result Val Exn) → Val → Val → Answer
on_numbers f (val.Int a) (val.Int b) = Some (f num.Int a b)
on_numbers f (val.Long a) (val.Long b) = Some (f num.Long a b)
on_numbers f _ _ = None

-- a number, and how far it is shifted
abbrev pub on_shift : (Num → ℤ → ℕ → ℤ) → Val → Val → Answer
on_shift f (val.Int a) (val.Int b) = Some (Ok (val.Int (f num.Int a (distance num.Int b))))
on_shift f (val.Long a) (val.Int b) = Some (Ok (val.Long (f num.Long a (distance num.Long b))))
on_shift f _ _ = None

-- two booleans
abbrev pub on_booleans : (Bool → Bool → Bool) → Val → Val → Answer
on_booleans f (val.Bool a) (val.Bool b) = Some (Ok (val.Bool (f a b)))
on_booleans f _ _ = None

-- two numbers of one type, or two booleans
abbrev pub on_alike : (Num → ℤ → ℤ → Result Val Exn) → (Bool → Bool → Bool) → Val → Val → Answer
on_alike f g (val.Bool a) (val.Bool b) = Some (Ok (val.Bool (g a b)))
on_alike f g a b = on_numbers f a b

-- ---- what it answers there

-- a number of the operands' type, which always comes
abbrev pub computed : (Num → ℤ → ℤ → ℤ) → Num → ℤ → ℤ → Result Val Exn
computed f t a b = Ok (of_number t (f t a b))

-- the same, where nothing is divided by zero
abbrev pub divided : (Num → ℤ → ℤ → ℤ) → Num → ℤ → ℤ → Result Val Exn
divided f t a b = if int_eq b (pos 0) then Err Arithmetic else computed f t a b

-- a boolean
abbrev pub compared : (ℤ → ℤ → Bool) → Num → ℤ → ℤ → Result Val Exn
compared p t a b = Ok (val.Bool (p a b))

abbrev pub equal : Bool → Bool → Bool
equal true b = b
equal false b = not b

abbrev pub unequal : Bool → Bool → Bool
unequal a b = not (equal a b)

abbrev pub operation : BinOp → Val → Val → Answer
operation bin.Mul a b = on_numbers (computed (λ t x y. wrap t (x *ℤ y))) a b
operation bin.Div a b = on_numbers (divided (λ t x y. wrap t (int_div x y))) a b
operation bin.Rem a b = on_numbers (divided (λ t x y. remainder x y)) a b
operation bin.Add a b = on_numbers (computed (λ t x y. wrap t (x +ℤ y))) a b
operation bin.Sub a b = on_numbers (computed (λ t x y. wrap t (x -ℤ y))) a b
operation bin.Shl a b = on_shift (λ t x d. wrap t (x *ℤ pos (2 ^ d))) a b
operation bin.Shr a b = on_shift (λ t x d. floor_shift x d) a b
operation bin.UShr a b = on_shift (λ t x d. from_digits t (digits t x / 2 ^ d)) a b
operation bin.Lt a b = on_numbers (compared int_lt) a b
operation bin.Le a b = on_numbers (compared int_le) a b
operation bin.Gt a b = on_numbers (compared (λ x y. int_lt y x)) a b
operation bin.Ge a b = on_numbers (compared (λ x y. int_le y x)) a b
operation bin.Eq a b = on_alike (compared int_eq) equal a b
operation bin.Ne a b = on_alike (compared (λ x y. not (int_eq x y))) unequal a b
operation bin.And a b = on_alike (computed (by_digits bit_and)) ◌&&◌ a b
operation bin.Xor a b = on_alike (computed (by_digits bit_xor)) unequal a b
operation bin.Or a b = on_alike (computed (by_digits bit_or)) ◌||◌ a b
operation bin.AndAlso a b = on_booleans ◌&&◌ a b
operation bin.OrElse a b = on_booleans ◌||◌ a b

-- `/` or `%`, and a zero after it
abbrev pub IsZero : Val → Type 0
IsZero (val.Int n) = n ≡ pos 0
IsZero (val.Long n) = n ≡ pos 0
IsZero _ = ⊥

abbrev pub DividesByZero : BinOp → Val → Type 0
DividesByZero bin.Div b = IsZero b
DividesByZero bin.Rem b = IsZero b
DividesByZero _ b = ⊥

-- ---- one operand

abbrev pub on_number : (Num → ℤ → ℤ) → Val → Option Val
on_number f (val.Int a) = Some (val.Int (f num.Int a))
on_number f (val.Long a) = Some (val.Long (f num.Long a))
on_number f _ = None

abbrev pub on_boolean : (Bool → Bool) → Val → Option Val
on_boolean f (val.Bool a) = Some (val.Bool (f a))
on_boolean f _ = None

abbrev pub unary_operation : UnOp → Val → Option Val
unary_operation un.Plus a = on_number (λ t x. x) a
unary_operation un.Minus a = on_number (λ t x. wrap t (neg_ℤ x)) a
unary_operation un.Complement a = on_number inverted a
unary_operation un.Not a = on_boolean not a

-- An int keeps its number as a long. A long keeps its low 32 digits as an int.
abbrev pub converted : Num → Val → Option Val
converted num.Int (val.Int a) = Some (val.Int a)
converted num.Int (val.Long a) = Some (val.Int (wrap num.Int a))
converted num.Long (val.Int a) = Some (val.Long a)
converted num.Long (val.Long a) = Some (val.Long a)
converted _ _ = None
