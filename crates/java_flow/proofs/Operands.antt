-- An operator has no value on operands that it does not take.
use Rattle.std.proofs.Common.{◌≡◌, ℕ, ℤ, Bool, not, ◌&&◌, ◌||◌, pos, ◌/◌, ◌^◌, ◌+ℤ◌, ◌-ℤ◌, ◌*ℤ◌, None, Result, bit_and, bit_or, refl}
use Rattle.std.specs.Prelude.{bit_xor, int_lt, int_le, int_div}
use Rattle.std.specs.Ordering.{int_eq}
use Rattle.sdg_base.specs.Arithmetic.{digits, wrap, remainder, floor_shift, from_digits, by_digits}
use Rattle.sdg_base.specs.declared.operator.BinOp.{BinOp}
use Rattle.sdg_base.specs.declared.operator.BinOp.TheVariants as bin
use Rattle.sdg_base.specs.declared.operator.UnOp.{UnOp}
use Rattle.sdg_base.specs.declared.operator.UnOp.TheVariants as un
use Rattle.sdg_base.specs.declared.val.Val.{Val}
use Rattle.sdg_base.specs.declared.val.Val.TheVariants as val
use Rattle.sdg_base.specs.declared.val.Exn.{Exn}
use Rattle.sdg_base.specs.declared.val.Num.{Num}
use Rattle.sdg_base.specs.Types.{type_of, arithmetic_type, shift_type, order_type, equality_type, bitwise_type, condition_type, binary_type, unary_type}
use Rattle.sdg_base.specs.Operations.{on_numbers, on_shift, on_alike, on_booleans, computed, divided, compared, equal, unequal, operation, unary_operation}

numbers : (f : Num → ℤ → ℤ → Result Val Exn) (a b : Val) → arithmetic_type (type_of a) (type_of b) ≡ None → on_numbers f a b ≡ None
numbers f (val.Int n1) (val.Int n2) e = absurd (cc)
numbers f (val.Int n1) (val.Long n2) e = refl
numbers f (val.Int n1) (val.Bool b2) e = refl
numbers f (val.Int n1) (val.Vector l2) e = refl
numbers f (val.Int n1) val.Unit e = refl
numbers f (val.Long n1) (val.Int n2) e = refl
numbers f (val.Long n1) (val.Long n2) e = absurd (cc)
numbers f (val.Long n1) (val.Bool b2) e = refl
numbers f (val.Long n1) (val.Vector l2) e = refl
numbers f (val.Long n1) val.Unit e = refl
numbers f (val.Bool b1) (val.Int n2) e = refl
numbers f (val.Bool b1) (val.Long n2) e = refl
numbers f (val.Bool b1) (val.Bool b2) e = refl
numbers f (val.Bool b1) (val.Vector l2) e = refl
numbers f (val.Bool b1) val.Unit e = refl
numbers f (val.Vector l1) (val.Int n2) e = refl
numbers f (val.Vector l1) (val.Long n2) e = refl
numbers f (val.Vector l1) (val.Bool b2) e = refl
numbers f (val.Vector l1) (val.Vector l2) e = refl
numbers f (val.Vector l1) val.Unit e = refl
numbers f val.Unit (val.Int n2) e = refl
numbers f val.Unit (val.Long n2) e = refl
numbers f val.Unit (val.Bool b2) e = refl
numbers f val.Unit (val.Vector l2) e = refl
numbers f val.Unit val.Unit e = refl

shift : (f : Num → ℤ → ℕ → ℤ) (a b : Val) → shift_type (type_of a) (type_of b) ≡ None → on_shift f a b ≡ None
shift f (val.Int n1) (val.Int n2) e = absurd (cc)
shift f (val.Int n1) (val.Long n2) e = refl
shift f (val.Int n1) (val.Bool b2) e = refl
shift f (val.Int n1) (val.Vector l2) e = refl
shift f (val.Int n1) val.Unit e = refl
shift f (val.Long n1) (val.Int n2) e = absurd (cc)
shift f (val.Long n1) (val.Long n2) e = refl
shift f (val.Long n1) (val.Bool b2) e = refl
shift f (val.Long n1) (val.Vector l2) e = refl
shift f (val.Long n1) val.Unit e = refl
shift f (val.Bool b1) (val.Int n2) e = refl
shift f (val.Bool b1) (val.Long n2) e = refl
shift f (val.Bool b1) (val.Bool b2) e = refl
shift f (val.Bool b1) (val.Vector l2) e = refl
shift f (val.Bool b1) val.Unit e = refl
shift f (val.Vector l1) (val.Int n2) e = refl
shift f (val.Vector l1) (val.Long n2) e = refl
shift f (val.Vector l1) (val.Bool b2) e = refl
shift f (val.Vector l1) (val.Vector l2) e = refl
shift f (val.Vector l1) val.Unit e = refl
shift f val.Unit (val.Int n2) e = refl
shift f val.Unit (val.Long n2) e = refl
shift f val.Unit (val.Bool b2) e = refl
shift f val.Unit (val.Vector l2) e = refl
shift f val.Unit val.Unit e = refl

order : (f : Num → ℤ → ℤ → Result Val Exn) (a b : Val) → order_type (type_of a) (type_of b) ≡ None → on_numbers f a b ≡ None
order f (val.Int n1) (val.Int n2) e = absurd (cc)
order f (val.Int n1) (val.Long n2) e = refl
order f (val.Int n1) (val.Bool b2) e = refl
order f (val.Int n1) (val.Vector l2) e = refl
order f (val.Int n1) val.Unit e = refl
order f (val.Long n1) (val.Int n2) e = refl
order f (val.Long n1) (val.Long n2) e = absurd (cc)
order f (val.Long n1) (val.Bool b2) e = refl
order f (val.Long n1) (val.Vector l2) e = refl
order f (val.Long n1) val.Unit e = refl
order f (val.Bool b1) (val.Int n2) e = refl
order f (val.Bool b1) (val.Long n2) e = refl
order f (val.Bool b1) (val.Bool b2) e = refl
order f (val.Bool b1) (val.Vector l2) e = refl
order f (val.Bool b1) val.Unit e = refl
order f (val.Vector l1) (val.Int n2) e = refl
order f (val.Vector l1) (val.Long n2) e = refl
order f (val.Vector l1) (val.Bool b2) e = refl
order f (val.Vector l1) (val.Vector l2) e = refl
order f (val.Vector l1) val.Unit e = refl
order f val.Unit (val.Int n2) e = refl
order f val.Unit (val.Long n2) e = refl
order f val.Unit (val.Bool b2) e = refl
order f val.Unit (val.Vector l2) e = refl
order f val.Unit val.Unit e = refl

equality : (f : Num → ℤ → ℤ → Result Val Exn) (g : Bool → Bool → Bool) (a b : Val) → equality_type (type_of a) (type_of b) ≡ None → on_alike f g a b ≡ None
equality f g (val.Int n1) (val.Int n2) e = absurd (cc)
equality f g (val.Int n1) (val.Long n2) e = refl
equality f g (val.Int n1) (val.Bool b2) e = refl
equality f g (val.Int n1) (val.Vector l2) e = refl
equality f g (val.Int n1) val.Unit e = refl
equality f g (val.Long n1) (val.Int n2) e = refl
equality f g (val.Long n1) (val.Long n2) e = absurd (cc)
equality f g (val.Long n1) (val.Bool b2) e = refl
equality f g (val.Long n1) (val.Vector l2) e = refl
equality f g (val.Long n1) val.Unit e = refl
equality f g (val.Bool b1) (val.Int n2) e = refl
equality f g (val.Bool b1) (val.Long n2) e = refl
equality f g (val.Bool b1) (val.Bool b2) e = absurd (cc)
equality f g (val.Bool b1) (val.Vector l2) e = refl
equality f g (val.Bool b1) val.Unit e = refl
equality f g (val.Vector l1) (val.Int n2) e = refl
equality f g (val.Vector l1) (val.Long n2) e = refl
equality f g (val.Vector l1) (val.Bool b2) e = refl
equality f g (val.Vector l1) (val.Vector l2) e = refl
equality f g (val.Vector l1) val.Unit e = refl
equality f g val.Unit (val.Int n2) e = refl
equality f g val.Unit (val.Long n2) e = refl
equality f g val.Unit (val.Bool b2) e = refl
equality f g val.Unit (val.Vector l2) e = refl
equality f g val.Unit val.Unit e = refl

bitwise : (f : Num → ℤ → ℤ → Result Val Exn) (g : Bool → Bool → Bool) (a b : Val) → bitwise_type (type_of a) (type_of b) ≡ None → on_alike f g a b ≡ None
bitwise f g (val.Int n1) (val.Int n2) e = absurd (cc)
bitwise f g (val.Int n1) (val.Long n2) e = refl
bitwise f g (val.Int n1) (val.Bool b2) e = refl
bitwise f g (val.Int n1) (val.Vector l2) e = refl
bitwise f g (val.Int n1) val.Unit e = refl
bitwise f g (val.Long n1) (val.Int n2) e = refl
bitwise f g (val.Long n1) (val.Long n2) e = absurd (cc)
bitwise f g (val.Long n1) (val.Bool b2) e = refl
bitwise f g (val.Long n1) (val.Vector l2) e = refl
bitwise f g (val.Long n1) val.Unit e = refl
bitwise f g (val.Bool b1) (val.Int n2) e = refl
bitwise f g (val.Bool b1) (val.Long n2) e = refl
bitwise f g (val.Bool b1) (val.Bool b2) e = absurd (cc)
bitwise f g (val.Bool b1) (val.Vector l2) e = refl
bitwise f g (val.Bool b1) val.Unit e = refl
bitwise f g (val.Vector l1) (val.Int n2) e = refl
bitwise f g (val.Vector l1) (val.Long n2) e = refl
bitwise f g (val.Vector l1) (val.Bool b2) e = refl
bitwise f g (val.Vector l1) (val.Vector l2) e = refl
bitwise f g (val.Vector l1) val.Unit e = refl
bitwise f g val.Unit (val.Int n2) e = refl
bitwise f g val.Unit (val.Long n2) e = refl
bitwise f g val.Unit (val.Bool b2) e = refl
bitwise f g val.Unit (val.Vector l2) e = refl
bitwise f g val.Unit val.Unit e = refl

truths : (f : Bool → Bool → Bool) (a b : Val) → condition_type (type_of a) (type_of b) ≡ None → on_booleans f a b ≡ None
truths f (val.Int n1) (val.Int n2) e = refl
truths f (val.Int n1) (val.Long n2) e = refl
truths f (val.Int n1) (val.Bool b2) e = refl
truths f (val.Int n1) (val.Vector l2) e = refl
truths f (val.Int n1) val.Unit e = refl
truths f (val.Long n1) (val.Int n2) e = refl
truths f (val.Long n1) (val.Long n2) e = refl
truths f (val.Long n1) (val.Bool b2) e = refl
truths f (val.Long n1) (val.Vector l2) e = refl
truths f (val.Long n1) val.Unit e = refl
truths f (val.Bool b1) (val.Int n2) e = refl
truths f (val.Bool b1) (val.Long n2) e = refl
truths f (val.Bool b1) (val.Bool b2) e = absurd (cc)
truths f (val.Bool b1) (val.Vector l2) e = refl
truths f (val.Bool b1) val.Unit e = refl
truths f (val.Vector l1) (val.Int n2) e = refl
truths f (val.Vector l1) (val.Long n2) e = refl
truths f (val.Vector l1) (val.Bool b2) e = refl
truths f (val.Vector l1) (val.Vector l2) e = refl
truths f (val.Vector l1) val.Unit e = refl
truths f val.Unit (val.Int n2) e = refl
truths f val.Unit (val.Long n2) e = refl
truths f val.Unit (val.Bool b2) e = refl
truths f val.Unit (val.Vector l2) e = refl
truths f val.Unit val.Unit e = refl

pub no_binary : (op : BinOp) (a b : Val) → binary_type op (type_of a) (type_of b) ≡ None → operation op a b ≡ None
no_binary bin.Mul a b e = numbers (computed (λ t x y. wrap t (x *ℤ y))) a b e
no_binary bin.Div a b e = numbers (divided (λ t x y. wrap t (int_div x y))) a b e
no_binary bin.Rem a b e = numbers (divided (λ t x y. remainder x y)) a b e
no_binary bin.Add a b e = numbers (computed (λ t x y. wrap t (x +ℤ y))) a b e
no_binary bin.Sub a b e = numbers (computed (λ t x y. wrap t (x -ℤ y))) a b e
no_binary bin.Shl a b e = shift (λ t x d. wrap t (x *ℤ pos (2 ^ d))) a b e
no_binary bin.Shr a b e = shift (λ t x d. floor_shift x d) a b e
no_binary bin.UShr a b e = shift (λ t x d. from_digits t (digits t x / 2 ^ d)) a b e
no_binary bin.Lt a b e = order (compared int_lt) a b e
no_binary bin.Le a b e = order (compared int_le) a b e
no_binary bin.Gt a b e = order (compared (λ x y. int_lt y x)) a b e
no_binary bin.Ge a b e = order (compared (λ x y. int_le y x)) a b e
no_binary bin.Eq a b e = equality (compared int_eq) equal a b e
no_binary bin.Ne a b e = equality (compared (λ x y. not (int_eq x y))) unequal a b e
no_binary bin.And a b e = bitwise (computed (by_digits bit_and)) ◌&&◌ a b e
no_binary bin.Xor a b e = bitwise (computed (by_digits bit_xor)) unequal a b e
no_binary bin.Or a b e = bitwise (computed (by_digits bit_or)) ◌||◌ a b e
no_binary bin.AndAlso a b e = truths ◌&&◌ a b e
no_binary bin.OrElse a b e = truths ◌||◌ a b e

pub no_unary : (op : UnOp) (a : Val) → unary_type op (type_of a) ≡ None → unary_operation op a ≡ None
no_unary un.Plus (val.Int n) e = absurd (cc)
no_unary un.Plus (val.Long n) e = absurd (cc)
no_unary un.Plus (val.Bool b) e = refl
no_unary un.Plus (val.Vector l) e = refl
no_unary un.Plus val.Unit e = refl
no_unary un.Minus (val.Int n) e = absurd (cc)
no_unary un.Minus (val.Long n) e = absurd (cc)
no_unary un.Minus (val.Bool b) e = refl
no_unary un.Minus (val.Vector l) e = refl
no_unary un.Minus val.Unit e = refl
no_unary un.Complement (val.Int n) e = absurd (cc)
no_unary un.Complement (val.Long n) e = absurd (cc)
no_unary un.Complement (val.Bool b) e = refl
no_unary un.Complement (val.Vector l) e = refl
no_unary un.Complement val.Unit e = refl
no_unary un.Not (val.Int n) e = refl
no_unary un.Not (val.Long n) e = refl
no_unary un.Not (val.Bool b) e = absurd (cc)
no_unary un.Not (val.Vector l) e = refl
no_unary un.Not val.Unit e = refl
