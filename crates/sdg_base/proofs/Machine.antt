-- The laws of Wrapping in the words of the machine's operators, at each width.
use Rattle.std.proofs.Common.{◌≡◌, ℕ, zero, suc, ℤ, pos, negsuc, ◌/◌, ◌%◌, ◌^◌, ◌<◌, ◌+ℤ◌, ◌-ℤ◌, ◌*ℤ◌, neg_ℤ, refl, sym, ap, subst, ◌∙◌, arith}
use Rattle.std.specs.Prelude.{FitsSigned, bit_and, bit_or, bit_xor}
use Rattle.std.specs.Int.{w32, w64, cast_signed, cast_unsigned, int_wrapping_add, int_wrapping_sub, int_wrapping_mul, int_wrapping_div, int_wrapping_neg, int_bit_and, int_bit_or, int_bit_xor, int_bit_not, int_shl, int_shr}
use Rattle.std.specs.Int.RustNames.{int_div, int_rem}
use Rattle.std.proofs.lemmas.Int.{to_z-of_z, wrapping_add_is, wrapping_sub_is, wrapping_mul_is, wrapping_neg_is}
use mir.Val.{bits, hbits}
use lib.Signed.{mag}
use Rattle.sdg_base.specs.declared.val.Num.{Num}
use Rattle.sdg_base.specs.declared.val.Num.TheVariants as num
use Rattle.sdg_base.specs.Arithmetic.{wrap, digits, remainder, distance, floor_shift, from_digits, by_digits, inverted}
use Rattle.sdg_base.proofs.Wrapping.{width, wrap_is, and_is, or_is, xor_is, inverted_is, quotient_is, remainder_is, left_is, floor_is, unsigned_right_is, int_distance_is, long_distance_is, low_half_is}

-- ---- a value that a call gave

same : (t : Num) (r : ℤ) → mag r < 2 ^ hbits (width t) → cast_signed (width t) (cast_unsigned (width t) r) ≡ r
same t r h = to_z-of_z (width t) r (record { sfits = h })

pub not_zero : (t : Num) (b : ℤ) → FitsSigned (width t) b → (b ≡ pos 0 → ⊥) → 0 < cast_unsigned (width t) (cast_signed (width t) (cast_unsigned (width t) b))
not_zero t b f other = subst (λ x. 0 < cast_unsigned (width t) x) (sym (to_z-of_z (width t) b f)) (some t b f other)
  where
    some : (t : Num) (b : ℤ) → FitsSigned (width t) b → (b ≡ pos 0 → ⊥) → 0 < cast_unsigned (width t) b
    some t (pos zero) f other = absurd (other refl)
    some t (pos (suc n)) f other = omega arith
    some num.Int (negsuc n) f other = omega arith
    some num.Long (negsuc n) f other = omega arith

module _ (t : Num) (a : ℤ) (f : FitsSigned (width t) a) (r : ℤ) (h : mag r < 2 ^ hbits (width t)) where
  pub quotient_from : (b : ℤ) → FitsSigned (width t) b → r ≡ int_wrapping_div (width t) (cast_signed (width t) (cast_unsigned (width t) a)) (cast_signed (width t) (cast_unsigned (width t) b)) → cast_signed (width t) (cast_unsigned (width t) r) ≡ wrap t (int_div a b)
  quotient_from b g e = same t r h ∙ e ∙ (λ i. int_wrapping_div (width t) (to_z-of_z (width t) a f i) (to_z-of_z (width t) b g i)) ∙ quotient_is t a b f

  pub remainder_from : (b : ℤ) → FitsSigned (width t) b → r ≡ int_rem (cast_signed (width t) (cast_unsigned (width t) a)) (cast_signed (width t) (cast_unsigned (width t) b)) → cast_signed (width t) (cast_unsigned (width t) r) ≡ remainder a b
  remainder_from b g e = same t r h ∙ e ∙ (λ i. int_rem (to_z-of_z (width t) a f i) (to_z-of_z (width t) b g i)) ∙ remainder_is a b

  pub left_from : (d e : ℕ) → d ≡ e → d < bits (width t) → r ≡ int_shl (width t) (cast_signed (width t) (cast_unsigned (width t) a)) d → cast_signed (width t) (cast_unsigned (width t) r) ≡ wrap t (a *ℤ pos (2 ^ e))
  left_from d e s below is = same t r h ∙ is ∙ ap (λ x. int_shl (width t) x d) (to_z-of_z (width t) a f) ∙ left_is t a d f below ∙ ap (λ n. wrap t (a *ℤ pos (2 ^ n))) s

  pub right_from : (d e : ℕ) → d ≡ e → r ≡ int_shr (cast_signed (width t) (cast_unsigned (width t) a)) d → cast_signed (width t) (cast_unsigned (width t) r) ≡ floor_shift a e
  right_from d e s is = same t r h ∙ is ∙ ap (λ x. int_shr x d) (to_z-of_z (width t) a f) ∙ floor_is a d ∙ ap (floor_shift a) s

  pub unsigned_from : (d e n q : ℕ) → d ≡ e → n ≡ cast_unsigned (width t) (cast_signed (width t) (cast_unsigned (width t) a)) → q ≡ n / 2 ^ d → r ≡ cast_signed (width t) q → cast_signed (width t) (cast_unsigned (width t) r) ≡ from_digits t (digits t a / 2 ^ e)
  unsigned_from d e n q s from quotient is =
      same t r h ∙ is ∙ ap (cast_signed (width t)) (quotient ∙ ap (λ x. x / 2 ^ d) (from ∙ ap (cast_unsigned (width t)) (to_z-of_z (width t) a f)))
      ∙ unsigned_right_is t a d f ∙ ap (λ x. from_digits t (digits t a / 2 ^ x)) s

pub int_distance : (n : ℕ) (b : ℤ) → FitsSigned w32 b → n ≡ cast_unsigned w32 (cast_signed w32 (cast_unsigned w32 b)) → n % 32 ≡ distance num.Int b
int_distance n b f e = ap (λ x. x % 32) (e ∙ ap (cast_unsigned w32) (to_z-of_z w32 b f)) ∙ int_distance_is b f

pub long_distance : (n : ℕ) (b : ℤ) → FitsSigned w32 b → n ≡ cast_unsigned w32 (cast_signed w32 (cast_unsigned w32 b)) → n % 64 ≡ distance num.Long b
long_distance n b f e = ap (λ x. x % 64) (e ∙ ap (cast_unsigned w32) (to_z-of_z w32 b f)) ∙ long_distance_is b f

pub low_half_from : (a : ℤ) → FitsSigned w64 a → (r : ℤ) → mag r < 2 ^ 31 → (n : ℕ) → n ≡ cast_unsigned w64 (cast_signed w64 (cast_unsigned w64 a)) → r ≡ cast_signed w32 (n % 2 ^ 32) → cast_signed w32 (cast_unsigned w32 r) ≡ wrap num.Int a
low_half_from a f r h n e is = same num.Int r h ∙ is ∙ ap (λ x. cast_signed w32 (x % 2 ^ 32)) (e ∙ ap (cast_unsigned w64) (to_z-of_z w64 a f)) ∙ low_half_is a f

-- ---- one operator of the machine, at 32 bits and at 64

pub plus_int : (a b : ℤ) → FitsSigned w32 a → FitsSigned w32 b → int_wrapping_add w32 a b ≡ wrap num.Int (a +ℤ b)
plus_int a b f g = wrapping_add_is w32 a b f g ∙ sym (wrap_is num.Int (a +ℤ b))

pub minus_int : (a b : ℤ) → FitsSigned w32 a → FitsSigned w32 b → int_wrapping_sub w32 a b ≡ wrap num.Int (a -ℤ b)
minus_int a b f g = wrapping_sub_is w32 a b f g ∙ sym (wrap_is num.Int (a -ℤ b))

pub times_int : (a b : ℤ) → FitsSigned w32 a → FitsSigned w32 b → int_wrapping_mul w32 a b ≡ wrap num.Int (a *ℤ b)
times_int a b f g = wrapping_mul_is w32 a b f g ∙ sym (wrap_is num.Int (a *ℤ b))

pub negated_int : (a : ℤ) → FitsSigned w32 a → int_wrapping_neg w32 a ≡ wrap num.Int (neg_ℤ a)
negated_int a f = wrapping_neg_is w32 a f ∙ sym (wrap_is num.Int (neg_ℤ a))

pub and_int : (a b : ℤ) → FitsSigned w32 a → FitsSigned w32 b → int_bit_and w32 a b ≡ by_digits bit_and num.Int a b
and_int = and_is num.Int

pub or_int : (a b : ℤ) → FitsSigned w32 a → FitsSigned w32 b → int_bit_or w32 a b ≡ by_digits bit_or num.Int a b
or_int = or_is num.Int

pub xor_int : (a b : ℤ) → FitsSigned w32 a → FitsSigned w32 b → int_bit_xor w32 a b ≡ by_digits bit_xor num.Int a b
xor_int = xor_is num.Int

pub not_int : (a : ℤ) → FitsSigned w32 a → int_bit_not w32 a ≡ inverted num.Int a
not_int = inverted_is num.Int

pub ruleset on_ints = (plus_int, minus_int, times_int, negated_int, and_int, or_int, xor_int, not_int)

pub plus_long : (a b : ℤ) → FitsSigned w64 a → FitsSigned w64 b → int_wrapping_add w64 a b ≡ wrap num.Long (a +ℤ b)
plus_long a b f g = wrapping_add_is w64 a b f g ∙ sym (wrap_is num.Long (a +ℤ b))

pub minus_long : (a b : ℤ) → FitsSigned w64 a → FitsSigned w64 b → int_wrapping_sub w64 a b ≡ wrap num.Long (a -ℤ b)
minus_long a b f g = wrapping_sub_is w64 a b f g ∙ sym (wrap_is num.Long (a -ℤ b))

pub times_long : (a b : ℤ) → FitsSigned w64 a → FitsSigned w64 b → int_wrapping_mul w64 a b ≡ wrap num.Long (a *ℤ b)
times_long a b f g = wrapping_mul_is w64 a b f g ∙ sym (wrap_is num.Long (a *ℤ b))

pub negated_long : (a : ℤ) → FitsSigned w64 a → int_wrapping_neg w64 a ≡ wrap num.Long (neg_ℤ a)
negated_long a f = wrapping_neg_is w64 a f ∙ sym (wrap_is num.Long (neg_ℤ a))

pub and_long : (a b : ℤ) → FitsSigned w64 a → FitsSigned w64 b → int_bit_and w64 a b ≡ by_digits bit_and num.Long a b
and_long = and_is num.Long

pub or_long : (a b : ℤ) → FitsSigned w64 a → FitsSigned w64 b → int_bit_or w64 a b ≡ by_digits bit_or num.Long a b
or_long = or_is num.Long

pub xor_long : (a b : ℤ) → FitsSigned w64 a → FitsSigned w64 b → int_bit_xor w64 a b ≡ by_digits bit_xor num.Long a b
xor_long = xor_is num.Long

pub not_long : (a : ℤ) → FitsSigned w64 a → int_bit_not w64 a ≡ inverted num.Long a
not_long = inverted_is num.Long

pub ruleset on_longs = (plus_long, minus_long, times_long, negated_long, and_long, or_long, xor_long, not_long)
