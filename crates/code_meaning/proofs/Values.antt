-- The values of operators and casts are of the types that the operators give.
use Rattle.std.proofs.Common.{◌≡◌, refl, ap, ◌∙◌, ℕ, ◌/◌, ◌^◌, ℤ, pos, ◌+ℤ◌, ◌-ℤ◌, ◌*ℤ◌, neg_ℤ, int_div, bit_and, bit_or, bit_xor, ◌&&◌, ◌||◌, Bool, true, false, cond, List, [], ◌∷◌, Option, Some, None, Result, Ok, Err}
use Rattle.std.specs.Ordering.{int_eq}
use Rattle.std.proofs.lemmas.Bool.{false≢true}
use Rattle.sdg_base.specs.declared.operator.BinOp.{BinOp}
use Rattle.sdg_base.specs.declared.operator.BinOp.TheVariants as bin
use Rattle.sdg_base.specs.declared.operator.UnOp.{UnOp}
use Rattle.sdg_base.specs.declared.operator.UnOp.TheVariants as un
use Rattle.sdg_base.specs.declared.val.Exn.{Exn}
use Rattle.sdg_base.specs.declared.val.Exn.TheVariants.{Arithmetic}
use Rattle.sdg_base.specs.declared.val.Num.{Num}
use Rattle.sdg_base.specs.declared.val.Num.TheVariants as num
use Rattle.sdg_base.specs.declared.val.Val.{Val}
use Rattle.sdg_base.specs.declared.val.Val.TheVariants as val
use Rattle.sdg_base.specs.declared.value_type.ValueType.{ValueType}
use Rattle.sdg_base.specs.declared.value_type.ValueType.TheVariants as type
use Rattle.sdg_base.specs.Operations.{operation, unary_operation, on_numbers, on_shift, on_booleans, on_alike, on_number, on_boolean, computed, divided, compared, of_number, unequal}
use Rattle.sdg_base.specs.Arithmetic.{digits, wrap, remainder, floor_shift, from_digits, by_digits, inverted}
use Rattle.sdg_base.specs.Types.{type_of, type_named, binary_type, unary_type, arithmetic_type, shift_type, order_type, equality_type, bitwise_type, condition_type, number_type, boolean_type}
use Rattle.flat_code.specs.Types.{same_type, same_types}

-- ---- equal types

pub same_is : (s t : ValueType) → same_type s t ≡ true → s ≡ t
same_is type.Int type.Int e = refl
same_is type.Long type.Long e = refl
same_is type.Boolean type.Boolean e = refl
same_is type.Vector type.Vector e = refl
same_is type.Void type.Void e = refl
same_is _ _ e = absurd (false≢true e)

pub same_refl : (t : ValueType) → same_type t t ≡ true
same_refl type.Int = refl
same_refl type.Long = refl
same_refl type.Boolean = refl
same_refl type.Vector = refl
same_refl type.Void = refl

pub is_same : (s t : ValueType) → s ≡ t → same_type s t ≡ true
is_same s t e = ap (λ u. same_type u t) e ∙ same_refl t

pub are_same : (ss ts : List ValueType) → ss ≡ ts → same_types ss ts ≡ true
are_same ss ts e = ap (λ us. same_types us ts) e ∙ same ts
  where
    same : (ts : List ValueType) → same_types ts ts ≡ true
    same [] = refl
    same (t ∷ ts) = ap (λ b. cond b (same_types ts ts) false) (same_refl t) ∙ same ts

pub same_are : (ss ts : List ValueType) → same_types ss ts ≡ true → ss ≡ ts
same_are [] [] e = refl
same_are (s ∷ ss) (t ∷ ts) e = by (same_type s t) refl (same_are ss ts) e
  where
    by : (b : Bool) → same_type s t ≡ b → (same_types ss ts ≡ true → ss ≡ ts) → cond b (same_types ss ts) false ≡ true → (s ∷ ss) ≡ (t ∷ ts)
    by true is more e = let h = same_is s t is in let k = more e in cc
    by false is more e = absurd (false≢true e)
same_are [] (t ∷ ts) e = absurd (false≢true e)
same_are (s ∷ ss) [] e = absurd (false≢true e)

-- ---- answers of a type

abbrev pub ResultHas : ValueType → Result Val Exn → Type 0
ResultHas t (Ok v) = type_of v ≡ t
ResultHas t (Err e) = Unit {0}

abbrev pub AnswerHas : Option ValueType → Option (Result Val Exn) → Type 0
AnswerHas None a = Unit {0}
AnswerHas (Some t) None = ⊥
AnswerHas (Some t) (Some r) = ResultHas t r

abbrev pub ValueHas : Option ValueType → Option Val → Type 0
ValueHas None a = Unit {0}
ValueHas (Some t) None = ⊥
ValueHas (Some t) (Some v) = type_of v ≡ t

of_number_has : (t : Num) (n : ℤ) → type_of (of_number t n) ≡ type_named t
of_number_has num.Int n = refl
of_number_has num.Long n = refl

computed_has : (f : Num → ℤ → ℤ → ℤ) (t : Num) (a b : ℤ) → ResultHas (type_named t) (computed f t a b)
computed_has f t a b = of_number_has t (f t a b)

divided_has : (f : Num → ℤ → ℤ → ℤ) (t : Num) (a b : ℤ) → ResultHas (type_named t) (divided f t a b)
divided_has f t a b = by (int_eq b (pos 0))
  where
    by : (z : Bool) → ResultHas (type_named t) (cond z (Err Arithmetic) (computed f t a b))
    by true = tt
    by false = computed_has f t a b

arithmetic : (f : Num → ℤ → ℤ → Result Val Exn) → ((t : Num) (x y : ℤ) → ResultHas (type_named t) (f t x y)) → (a b : Val) → AnswerHas (arithmetic_type (type_of a) (type_of b)) (on_numbers f a b)
arithmetic f h (val.Int a) (val.Int b) = h num.Int a b
arithmetic f h (val.Long a) (val.Long b) = h num.Long a b
arithmetic f h _ _ = tt

orders : (p : ℤ → ℤ → Bool) → (a b : Val) → AnswerHas (order_type (type_of a) (type_of b)) (on_numbers (compared p) a b)
orders p (val.Int a) (val.Int b) = refl
orders p (val.Long a) (val.Long b) = refl
orders p _ _ = tt

shifts : (f : Num → ℤ → ℕ → ℤ) → (a b : Val) → AnswerHas (shift_type (type_of a) (type_of b)) (on_shift f a b)
shifts f (val.Int a) (val.Int b) = refl
shifts f (val.Long a) (val.Int b) = refl
shifts f _ _ = tt

equalities : (p : ℤ → ℤ → Bool) (g : Bool → Bool → Bool) → (a b : Val) → AnswerHas (equality_type (type_of a) (type_of b)) (on_alike (compared p) g a b)
equalities p g (val.Bool a) (val.Bool b) = refl
equalities p g (val.Int a) (val.Int b) = refl
equalities p g (val.Long a) (val.Long b) = refl
equalities p g _ _ = tt

bits : (f : Num → ℤ → ℤ → ℤ) (g : Bool → Bool → Bool) → (a b : Val) → AnswerHas (bitwise_type (type_of a) (type_of b)) (on_alike (computed f) g a b)
bits f g (val.Bool a) (val.Bool b) = refl
bits f g (val.Int a) (val.Int b) = refl
bits f g (val.Long a) (val.Long b) = refl
bits f g _ _ = tt

conditions : (g : Bool → Bool → Bool) → (a b : Val) → AnswerHas (condition_type (type_of a) (type_of b)) (on_booleans g a b)
conditions g (val.Bool a) (val.Bool b) = refl
conditions g _ _ = tt

pub operation_has : (op : BinOp) (a b : Val) → AnswerHas (binary_type op (type_of a) (type_of b)) (operation op a b)
operation_has bin.Mul a b = let f = λ (t : Num) (x y : ℤ). wrap t (x *ℤ y) in arithmetic (computed f) (computed_has f) a b
operation_has bin.Div a b = let f = λ (t : Num) (x y : ℤ). wrap t (int_div x y) in arithmetic (divided f) (divided_has f) a b
operation_has bin.Rem a b = let f = λ (t : Num) (x y : ℤ). remainder x y in arithmetic (divided f) (divided_has f) a b
operation_has bin.Add a b = let f = λ (t : Num) (x y : ℤ). wrap t (x +ℤ y) in arithmetic (computed f) (computed_has f) a b
operation_has bin.Sub a b = let f = λ (t : Num) (x y : ℤ). wrap t (x -ℤ y) in arithmetic (computed f) (computed_has f) a b
operation_has bin.Shl a b = shifts (λ t x d. wrap t (x *ℤ pos (2 ^ d))) a b
operation_has bin.Shr a b = shifts (λ t x d. floor_shift x d) a b
operation_has bin.UShr a b = shifts (λ t x d. from_digits t (digits t x / 2 ^ d)) a b
operation_has bin.Lt a b = orders _ a b
operation_has bin.Le a b = orders _ a b
operation_has bin.Gt a b = orders _ a b
operation_has bin.Ge a b = orders _ a b
operation_has bin.Eq a b = equalities _ _ a b
operation_has bin.Ne a b = equalities _ _ a b
operation_has bin.And a b = bits (by_digits bit_and) ◌&&◌ a b
operation_has bin.Xor a b = bits (by_digits bit_xor) unequal a b
operation_has bin.Or a b = bits (by_digits bit_or) ◌||◌ a b
operation_has bin.AndAlso a b = conditions _ a b
operation_has bin.OrElse a b = conditions _ a b

number : (f : Num → ℤ → ℤ) (a : Val) → ValueHas (number_type (type_of a)) (on_number f a)
number f (val.Int a) = refl
number f (val.Long a) = refl
number f _ = tt

boolean : (f : Bool → Bool) (a : Val) → ValueHas (boolean_type (type_of a)) (on_boolean f a)
boolean f (val.Bool a) = refl
boolean f _ = tt

pub unary_has : (op : UnOp) (a : Val) → ValueHas (unary_type op (type_of a)) (unary_operation op a)
unary_has un.Plus a = number (λ t x. x) a
unary_has un.Minus a = number (λ t x. wrap t (neg_ℤ x)) a
unary_has un.Complement a = number inverted a
unary_has un.Not a = boolean _ a
