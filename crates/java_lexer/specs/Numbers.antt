-- Integer literals: decimal, hexadecimal, octal and binary numerals, with or without a suffix (JLS 3.10.1).
use Rattle.std.specs.Prelude.{◌≡◌, ◌⊎◌, ℕ, ◌≤◌, ◌<◌, Bool, true, false, not, ◌||◌, ◌==◌, nat_eq, List, [], ◌++◌, length, codes}
use Rattle.std.specs.List.{AllPass, filter, starts_with, ends_with}
use Rattle.std.specs.Char.{is_digit}
use Rattle.std.specs.Str.Parse.{digits_value}
use Rattle.java_lexer.specs.declared.number.Base.{Base}
use Rattle.java_lexer.specs.declared.number.Base.TheVariants.{Decimal, Hexadecimal, Octal, Binary}

abbrev pub is_underscore : ℕ → Bool
is_underscore b = b == 95

abbrev pub radix : Base → ℕ
radix Decimal = 10
radix Hexadecimal = 16
radix Octal = 8
radix Binary = 2

-- Digits, with `_` between them alone: no `_` stands first or last. They write the value.
pub record IsDigits (base : Base) (value : ℕ) (text : List ℕ) : Type 0 where
  pub some : 0 < length text
  pub each : AllPass (λ b. is_digit b (radix base) || is_underscore b) text
  pub first : starts_with nat_eq text (codes "_") ≡ false
  pub last : ends_with nat_eq text (codes "_") ≡ false
  pub writes : value ≡ digits_value (radix base) (filter (λ b. not (is_underscore b)) text)

-- A decimal numeral is `0` or begins with another digit, and an octal one has more digits behind a 0.
abbrev pub IsNumeral : Base → ℕ → List ℕ → Type 0
IsNumeral Decimal value text = IsDigits Decimal value text × ((text ≡ codes "0") ⊎ (starts_with nat_eq text (codes "0") ≡ false))
IsNumeral Hexadecimal value text = (body : List ℕ) × ((text ≡ codes "0x" ++ body) ⊎ (text ≡ codes "0X" ++ body)) × IsDigits Hexadecimal value body
IsNumeral Octal value text = (body : List ℕ) × (text ≡ codes "0" ++ body) × (0 < length body) × IsDigits Octal value text
IsNumeral Binary value text = (body : List ℕ) × ((text ≡ codes "0b" ++ body) ⊎ (text ≡ codes "0B" ++ body)) × IsDigits Binary value body

abbrev pub IsSuffix : Bool → List ℕ → Type 0
IsSuffix false text = text ≡ []
IsSuffix true text = (text ≡ codes "L") ⊎ (text ≡ codes "l")

abbrev pub is_decimal : Base → Bool
is_decimal Decimal = true
is_decimal _ = false

-- In base 10 the magnitude of the least `int` or `long`, which a minus may stand before; in the others 32 or 64 bits.
abbrev pub largest : Bool → Bool → ℕ
largest true false = 2147483648
largest true true = 9223372036854775808
largest false false = 4294967295
largest false true = 18446744073709551615

-- the text is a literal of this value
pub record IsNumber (value : ℕ) (decimal long : Bool) (text : List ℕ) : Type 0 where
  pub base : Base
  pub numeral : List ℕ
  pub suffix : List ℕ
  pub spelled : text ≡ numeral ++ suffix
  pub is_numeral : IsNumeral base value numeral
  pub is_suffix : IsSuffix long suffix
  pub is_small : value ≤ largest decimal long
  pub in_decimal : decimal ≡ is_decimal base
