-- Whole numbers as values of `int` and `long` (JLS 4.2, 15.17 to 15.22): M is 2 ^ 31 of an int and 2 ^ 63 of a long, and
-- the type's values are those from -M to M - 1.
use Rattle.std.specs.Prelude.{ℕ, ℤ, pos, ◌-◌, ◌^◌, ◌+ℤ◌, ◌-ℤ◌, ◌*ℤ◌, unsigned_abs}
use Rattle.std.specs.Int.{int_rem_euclid, int_div_euclid}
use Rattle.std.specs.Int.RustNames.{int_div}
use Rattle.sdg_base.specs.declared.val.Num.{Num}
use Rattle.sdg_base.specs.declared.val.Num.TheVariants as num

-- M, and the number of values, 2M
abbrev pub half : Num → ℕ
half num.Int = 2 ^ 31
half num.Long = 2 ^ 63

abbrev pub count : Num → ℕ
count num.Int = 2 ^ 32
count num.Long = 2 ^ 64

-- x modulo 2M, from 0 to 2M - 1: the number that x's digits in two's complement write
unfoldable pub digits : Num → ℤ → ℕ
digits t x = unsigned_abs (int_rem_euclid x (pos (count t)))

-- the value of the type that differs from x by a multiple of 2M: (x + M) mod 2M - M
unfoldable pub wrap : Num → ℤ → ℤ
wrap t x = int_rem_euclid (x +ℤ pos (half t)) (pos (count t)) -ℤ pos (half t)

-- what is left of a after b times the quotient that is cut toward zero
unfoldable pub remainder : ℤ → ℤ → ℤ
remainder a b = a -ℤ (b *ℤ int_div a b)

-- how far a shift goes: its right operand modulo 32 at an int, and modulo 64 at a long
unfoldable pub distance : Num → ℤ → ℕ
distance num.Int b = unsigned_abs (int_rem_euclid b (pos 32))
distance num.Long b = unsigned_abs (int_rem_euclid b (pos 64))

-- a / 2 ^ d rounded down, toward the smaller number also where a is negative
unfoldable pub floor_shift : ℤ → ℕ → ℤ
floor_shift a d = int_div_euclid a (pos (2 ^ d))

-- the number with these digits as a value of the type, and an operation on digits
abbrev pub from_digits : Num → ℕ → ℤ
from_digits t n = wrap t (pos n)

abbrev pub by_digits : (ℕ → ℕ → ℕ) → Num → ℤ → ℤ → ℤ
by_digits f t a b = from_digits t (f (digits t a) (digits t b))

-- every digit turned over: what is left to all ones
abbrev pub inverted : Num → ℤ → ℤ
inverted t a = from_digits t (count t - 1 - digits t a)
