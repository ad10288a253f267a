-- What a machine's operators leave at 32 and 64 bits is what the definitions say.
use Rattle.std.proofs.Common.{◌≡◌, ℕ, zero, suc, ℤ, pos, negsuc, ◌+◌, ◌-◌, ◌*◌, ◌/◌, ◌%◌, ◌^◌, ◌<◌, ◌≤◌, ◌+ℤ◌, ◌-ℤ◌, ◌*ℤ◌, neg_ℤ, refl, sym, ap, ◌∙◌, subst, arith}
use Rattle.std.specs.Prelude.{FitsSigned, unsigned_abs, bit_and, bit_or, bit_xor}
use Rattle.std.specs.Int.RustNames.{int_div, int_rem}
use Rattle.std.proofs.lemmas.Int.{ints, int_rem_euclid_is, to_z-of_z, quot-rem, wrapping_mul-bits, int_wrap-mul_right}
use Rattle.std.proofs.lemmas.Nat.{xor_lt}
use Rattle.std.specs.Int.Bits.{and_lt, or_lt}
use Rattle.std.proofs.Math.Nat.{mod-eq_of_lt, div-le_self}
use Rattle.std.proofs.Math.IntN.{*ℤ_comm}
use Rattle.std.specs.Int.{Width, w32, w64, int_wrap, cast_signed, cast_unsigned, int_shl, int_shr, bit_not}
use Rattle.std.proofs.Math.Pow.{pow-lt}
use mir.Val.{bits}
use Rattle.sdg_base.specs.declared.val.Num.{Num}
use Rattle.sdg_base.specs.declared.val.Num.TheVariants as num
use Rattle.sdg_base.specs.Arithmetic.{half, count, digits, wrap, remainder, distance, floor_shift, from_digits, by_digits, inverted}

-- the type's width, as the machine names it
abbrev pub width : Num → Width
width num.Int = w32
width num.Long = w64

-- ---- what is left of a whole number

reads_int : (m : ℕ) → pos ((m + 2 ^ 31) % 2 ^ 32) -ℤ pos (2 ^ 31) ≡ cast_signed w32 (m % 2 ^ 32)
reads_int m = grind (arith, ints)

reads_long : (m : ℕ) → pos ((m + 2 ^ 63) % 2 ^ 64) -ℤ pos (2 ^ 63) ≡ cast_signed w64 (m % 2 ^ 64)
reads_long m = grind (arith, ints)

-- some multiple of 2M takes x to a natural number m
wrap_from : (t : Num) (x : ℤ) (k m : ℕ) → x +ℤ pos (k * count t) ≡ pos m → wrap t x ≡ int_wrap (width t) x
unfolding wrap int_wrap
wrap_from num.Int x k m e =
    let above : (x +ℤ pos (2 ^ 31)) +ℤ pos (k * 2 ^ 32) ≡ pos (m + 2 ^ 31) = omega (arith, ints) in
    ap (λ (y : ℤ). y -ℤ pos (2 ^ 31)) (int_rem_euclid_is (x +ℤ pos (2 ^ 31)) (pos (2 ^ 32)) (2 ^ 32) k (m + 2 ^ 31) (omega arith) refl above)
    ∙ reads_int m
    ∙ sym (ap (λ (y : ℤ). cast_signed w32 (unsigned_abs y)) (int_rem_euclid_is x (pos (2 ^ 32)) (2 ^ 32) k m (omega arith) refl e))
wrap_from num.Long x k m e =
    let above : (x +ℤ pos (2 ^ 63)) +ℤ pos (k * 2 ^ 64) ≡ pos (m + 2 ^ 63) = omega (arith, ints) in
    ap (λ (y : ℤ). y -ℤ pos (2 ^ 63)) (int_rem_euclid_is (x +ℤ pos (2 ^ 63)) (pos (2 ^ 64)) (2 ^ 64) k (m + 2 ^ 63) (omega arith) refl above)
    ∙ reads_long m
    ∙ sym (ap (λ (y : ℤ). cast_signed w64 (unsigned_abs y)) (int_rem_euclid_is x (pos (2 ^ 64)) (2 ^ 64) k m (omega arith) refl e))

pub wrap_is : (t : Num) (x : ℤ) → wrap t x ≡ int_wrap (width t) x
wrap_is t (pos a) = wrap_from t (pos a) 0 a (omega (arith, ints))
wrap_is num.Int (negsuc a) = wrap_from num.Int (negsuc a) (a + 1) ((a + 1) * 2 ^ 32 - (a + 1)) (omega (arith, ints))
wrap_is num.Long (negsuc a) = wrap_from num.Long (negsuc a) (a + 1) ((a + 1) * 2 ^ 64 - (a + 1)) (omega (arith, ints))

-- ---- digits

-- -M to M, so that it holds of the quotient of -M by -1 too
digits_near : (t : Num) (a : ℤ) → unsigned_abs a ≤ half t → digits t a ≡ cast_unsigned (width t) a
unfolding digits
digits_near num.Int (pos a) h = omega arith
digits_near num.Int (negsuc a) h = omega arith
digits_near num.Long (pos a) h = omega arith
digits_near num.Long (negsuc a) h = omega arith

near_from_fits : (t : Num) (a : ℤ) → FitsSigned (width t) a → unsigned_abs a ≤ half t
near_from_fits num.Int (pos a) f = omega arith
near_from_fits num.Int (negsuc a) f = omega arith
near_from_fits num.Long (pos a) f = omega arith
near_from_fits num.Long (negsuc a) f = omega arith

digits_is : (t : Num) (a : ℤ) → FitsSigned (width t) a → digits t a ≡ cast_unsigned (width t) a
digits_is t a f = digits_near t a (near_from_fits t a f)

digits_below : (t : Num) (a : ℤ) → digits t a < 2 ^ bits (width t)
unfolding digits
digits_below num.Int (pos a) = omega arith
digits_below num.Int (negsuc a) = omega arith
digits_below num.Long (pos a) = omega arith
digits_below num.Long (negsuc a) = omega arith

wrap_near : (t : Num) (z : ℤ) → unsigned_abs z ≤ half t → cast_signed (width t) (cast_unsigned (width t) z) ≡ wrap t z
unfolding digits int_wrap
wrap_near num.Int z h = ap (cast_signed w32) (sym (digits_near num.Int z h)) ∙ sym (wrap_is num.Int z)
wrap_near num.Long z h = ap (cast_signed w64) (sym (digits_near num.Long z h)) ∙ sym (wrap_is num.Long z)

from_digits_is : (t : Num) (n : ℕ) → n < 2 ^ bits (width t) → cast_signed (width t) n ≡ from_digits t n
unfolding int_wrap
from_digits_is num.Int n h = ap (cast_signed w32) (sym (mod-eq_of_lt h)) ∙ sym (wrap_is num.Int (pos n))
from_digits_is num.Long n h = ap (cast_signed w64) (sym (mod-eq_of_lt h)) ∙ sym (wrap_is num.Long (pos n))

-- ---- each operator

abs-neg : (n : ℕ) → unsigned_abs (neg_ℤ (pos n)) ≡ n
abs-neg zero = refl
abs-neg (suc n) = refl

quotient_near : (a b : ℤ) → unsigned_abs (int_div a b) ≤ unsigned_abs a
quotient_near (pos a) (pos b) = div-le_self a b
quotient_near (pos a) (negsuc b) = rw abs-neg (div-le_self a (suc b))
quotient_near (negsuc a) (pos b) = rw abs-neg (div-le_self (suc a) b)
quotient_near (negsuc a) (negsuc b) = div-le_self (suc a) (suc b)

pub quotient_is : (t : Num) (a b : ℤ) → FitsSigned (width t) a → cast_signed (width t) (cast_unsigned (width t) (int_div a b)) ≡ wrap t (int_div a b)
quotient_is t a b f = let near = near_from_fits t a f in let least = quotient_near a b in wrap_near t (int_div a b) (omega arith)

less_the_rest : (p r a : ℤ) → p +ℤ r ≡ a → r ≡ a -ℤ p
less_the_rest p r a e = omega (arith, ints)

pub remainder_is : (a b : ℤ) → int_rem a b ≡ remainder a b
unfolding remainder
remainder_is a b = less_the_rest (int_div a b *ℤ b) (int_rem a b) a (quot-rem a b) ∙ ap (λ (p : ℤ). a -ℤ p) (*ℤ_comm (int_div a b) b)

pub floor_is : (a : ℤ) (d : ℕ) → int_shr a d ≡ floor_shift a d
unfolding floor_shift
floor_is (pos a) d = refl
floor_is (negsuc a) d = refl

-- 2 ^ d may be M itself, which is no value of the type
power_is : (t : Num) (d : ℕ) → 2 ^ d < 2 ^ bits (width t) → cast_signed (width t) (2 ^ d) ≡ int_wrap (width t) (pos (2 ^ d))
power_is t d h = from_digits_is t (2 ^ d) h ∙ wrap_is t (pos (2 ^ d))

pub left_is : (t : Num) (a : ℤ) (d : ℕ) → FitsSigned (width t) a → d < bits (width t) → int_shl (width t) a d ≡ wrap t (a *ℤ pos (2 ^ d))
left_is t a d f h =
    let w = width t in
    let below : 2 ^ d < 2 ^ bits w = pow-lt h in
    let own : cast_unsigned w a < 2 ^ bits w = subst (λ n. n < 2 ^ bits w) (digits_is t a f) (digits_below t a) in
    wrapping_mul-bits w (cast_unsigned w a) (2 ^ d) own below
    ∙ ap (λ x. int_wrap w (x *ℤ cast_signed w (2 ^ d))) (to_z-of_z w a f)
    ∙ ap (λ x. int_wrap w (a *ℤ x)) (power_is t d below)
    ∙ int_wrap-mul_right w a (pos (2 ^ d))
    ∙ sym (wrap_is t (a *ℤ pos (2 ^ d)))

pub unsigned_right_is : (t : Num) (a : ℤ) (d : ℕ) → FitsSigned (width t) a → cast_signed (width t) (cast_unsigned (width t) a / 2 ^ d) ≡ from_digits t (digits t a / 2 ^ d)
unsigned_right_is t a d f =
    let w = width t in
    let less = div-le_self (digits t a) (2 ^ d) in
    let own = digits_below t a in
    ap (λ n. cast_signed w (n / 2 ^ d)) (sym (digits_is t a f)) ∙ from_digits_is t (digits t a / 2 ^ d) (omega arith)

-- an operation on digits that gives no more digits than its operands have
by_digits_is : (t : Num) (f : ℕ → ℕ → ℕ) (a b : ℤ) → ((m n : ℕ) → m < 2 ^ bits (width t) → n < 2 ^ bits (width t) → f m n < 2 ^ bits (width t))
    → FitsSigned (width t) a → FitsSigned (width t) b → cast_signed (width t) (f (cast_unsigned (width t) a) (cast_unsigned (width t) b)) ≡ by_digits f t a b
by_digits_is t f a b closed p q =
    ap (cast_signed (width t)) (ap (λ n. f n (cast_unsigned (width t) b)) (sym (digits_is t a p)) ∙ ap (f (digits t a)) (sym (digits_is t b q)))
    ∙ from_digits_is t (f (digits t a) (digits t b)) (closed (digits t a) (digits t b) (digits_below t a) (digits_below t b))

pub and_is : (t : Num) (a b : ℤ) → FitsSigned (width t) a → FitsSigned (width t) b → cast_signed (width t) (bit_and (cast_unsigned (width t) a) (cast_unsigned (width t) b)) ≡ by_digits bit_and t a b
and_is t a b = by_digits_is t bit_and a b (and_lt (bits (width t)))

pub or_is : (t : Num) (a b : ℤ) → FitsSigned (width t) a → FitsSigned (width t) b → cast_signed (width t) (bit_or (cast_unsigned (width t) a) (cast_unsigned (width t) b)) ≡ by_digits bit_or t a b
or_is t a b = by_digits_is t bit_or a b (or_lt (bits (width t)))

pub xor_is : (t : Num) (a b : ℤ) → FitsSigned (width t) a → FitsSigned (width t) b → cast_signed (width t) (bit_xor (cast_unsigned (width t) a) (cast_unsigned (width t) b)) ≡ by_digits bit_xor t a b
xor_is t a b = by_digits_is t bit_xor a b (xor_lt (bits (width t)))

pub inverted_is : (t : Num) (a : ℤ) → FitsSigned (width t) a → cast_signed (width t) (bit_not (width t) (cast_unsigned (width t) a)) ≡ inverted t a
inverted_is num.Int a f = ap (λ n. cast_signed w32 (2 ^ 32 - 1 - n)) (sym (digits_is num.Int a f)) ∙ from_digits_is num.Int (2 ^ 32 - 1 - digits num.Int a) (omega arith)
inverted_is num.Long a f = ap (λ n. cast_signed w64 (2 ^ 64 - 1 - n)) (sym (digits_is num.Long a f)) ∙ from_digits_is num.Long (2 ^ 64 - 1 - digits num.Long a) (omega arith)

pub int_distance_is : (b : ℤ) → FitsSigned w32 b → cast_unsigned w32 b % 32 ≡ distance num.Int b
unfolding distance
int_distance_is (pos b) f = refl
int_distance_is (negsuc b) f = omega arith

pub long_distance_is : (b : ℤ) → FitsSigned w32 b → cast_unsigned w32 b % 64 ≡ distance num.Long b
unfolding distance
long_distance_is (pos b) f = refl
long_distance_is (negsuc b) f = omega arith

-- the low 32 digits of a long
low_digits : (a : ℤ) → FitsSigned w64 a → cast_unsigned w64 a % 2 ^ 32 ≡ digits num.Int a
unfolding digits
low_digits (pos a) f = refl
low_digits (negsuc a) f = omega arith

pub low_half_is : (a : ℤ) → FitsSigned w64 a → cast_signed w32 (cast_unsigned w64 a % 2 ^ 32) ≡ wrap num.Int a
unfolding digits int_wrap
low_half_is a f = ap (cast_signed w32) (low_digits a f) ∙ sym (wrap_is num.Int a)
