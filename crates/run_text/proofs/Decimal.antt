-- Numbers in their one decimal form.
use Rattle.std.proofs.Common.{◌≡◌, All, ℕ, zero, suc, ◌+◌, ◌^◌, ◌<◌, ◌≤◌, true, false, List, [], ◌∷◌, length, get_or, drop, ℤ, pos, negsuc, neg_ℤ, Result, Ok, Err, refl, sym, ap, ◌∙◌, subst, arith, MatchOption, inl, inr}
use Rattle.std.specs.Prelude.{◌≢◌, FitsSigned}
use Rattle.std.specs.Result.{result_ok, OkIff}
use Rattle.std.specs.Fmt.{decimal, signed_decimal}
use Rattle.std.specs.Int.{w32, w64, IsInRange, FitsUnsignedBits}
use Rattle.std.proofs.Math.IntN.{nat_abs}
use Rattle.std.specs.Str.{IsUtf8}
use Rattle.std.specs.Str.Parse.{AllDigits, digits_value, ParsesSigned}
use Rattle.std.proofs.lemmas.Str.{IsUtf8-from_ascii}
use Rattle.std.proofs.lemmas.Str.Parse.{IsNumeralModel, numerals_by_value, tells_digits, parse_signed_minus, parse_signed_plain, digit_at, not_in_digits}
use Rattle.std.proofs.lemmas.List.Elements.{All-from_get_or, All-cons}
use Rattle.std.proofs.lemmas.Fmt.{decimal_digit, first_decimal, decimal_is_IsNumeral, decimal-digits_value, IsAscii-signed, parse-signed_decimal, decimal_nonempty, signed_decimal_injective}
use Rattle.std.proofs.lemmas.Bool.{cases_eq}
use Rattle.std.proofs.lemmas.Bool.Decides.{nat_tests}
use Rattle.std.proofs.lemmas.List.{length-drop}
use Rattle.std.proofs.lemmas.Grind.{get_or_after_one}
use Rattle.run_text.specs.Numbers.{begins_above_zero, begins_as_number}
use Rattle.run_text.specs.Histories.{IsCount}

own : IsNumeralModel (AllDigits 10) (digits_value 10)
own = numerals_by_value (AllDigits 10) tells_digits

-- ---- A written number begins as a number.

pub begins_above : (ds : List ℕ) → 48 < get_or ds 0 0 → get_or ds 0 0 ≤ 57 → begins_above_zero ds ≡ true
begins_above [] low high = absurd (omega arith)
begins_above (b ∷ ds) low high = grind (arith, nat_tests)

begins_number : (ds : List ℕ) → 48 < get_or ds 0 0 → get_or ds 0 0 ≤ 57 → begins_as_number ds ≡ true
begins_number [] low high = absurd (omega arith)
begins_number (b ∷ ds) low high = grind (arith, nat_tests)

first_at_most : (n : ℕ) → n < 2 ^ 64 → get_or (decimal n) 0 0 ≤ 57
first_at_most n lt = (digit_at (decimal n) 0 (decimal_is_IsNumeral n lt).0.1 (decimal_nonempty n lt)).1

pub begins-signed : (n : ℤ) → FitsSigned w64 n → begins_as_number (signed_decimal n) ≡ true
begins-signed (pos zero) fits = rw (decimal_digit 0 (omega arith)) refl
begins-signed (pos (suc n)) fits =
    let lt : suc n < 2 ^ 64 = omega (arith, fits.sfits) in
    begins_number (decimal (suc n)) (first_decimal (suc n) (omega arith) lt) (first_at_most (suc n) lt)
begins-signed (negsuc n) fits =
    let lt : suc n < 2 ^ 64 = omega (arith, fits.sfits) in
    begins_above (decimal (suc n)) (first_decimal (suc n) (omega arith) lt) (first_at_most (suc n) lt)

-- ---- What begins otherwise, is no text or isn't parsed is no number.

pub no_number_form : (bs : List ℕ) → begins_as_number bs ≡ false → (n : ℤ) → FitsSigned w64 n → signed_decimal n ≡ bs → ⊥
no_number_form bs other n fits e = let same = ap begins_as_number (sym e) ∙ begins-signed n fits in cc

pub no_number_text : (bs : List ℕ) → ¬ IsUtf8 bs → (n : ℤ) → FitsSigned w64 n → signed_decimal n ≡ bs → ⊥
no_number_text bs binary n fits e = binary (subst IsUtf8 e (IsUtf8-from_ascii (signed_decimal n) (IsAscii-signed n fits.sfits)))

-- ---- What is parsed and begins as a number is the number's text.

decimal_of_digits : (ds : List ℕ) → AllDigits 10 ds → 0 < length ds → (get_or ds 0 0 ≡ 48 → length ds ≡ 1) → digits_value 10 ds < 2 ^ 64 → decimal (digits_value 10 ds) ≡ ds
decimal_of_digits ds digits some one fits = decimal-digits_value own ds digits some one fits

signed_below_zero : (n : ℕ) (ds : List ℕ) → 48 < get_or ds 0 0 → decimal n ≡ ds → signed_decimal (neg_ℤ (pos n)) ≡ 45 ∷ ds
signed_below_zero zero ds low e = absurd (let d = decimal_digit 0 (omega arith) in omega (arith, ap (λ (xs : List ℕ). get_or xs 0 0) (sym d ∙ e)))
signed_below_zero (suc n) ds low e = ap (λ (xs : List ℕ). 45 ∷ xs) e

above_first : (ds : List ℕ) → begins_above_zero ds ≡ true → 48 < get_or ds 0 0
above_first [] h = absurd cc
above_first (b ∷ ds) h = grind (arith, nat_tests)

zero_alone : (bs : List ℕ) → begins_as_number bs ≡ true → get_or bs 0 0 ≡ 48 → length bs ≡ 1
zero_alone [] h z = absurd cc
zero_alone (b ∷ bs) h z = grind (arith, nat_tests)

behind_minus : (bs : List ℕ) → begins_as_number bs ≡ true → get_or bs 0 0 ≡ 45 → (bs ≡ 45 ∷ drop 1 bs) × (48 < get_or (drop 1 bs) 0 0)
behind_minus [] h m = absurd cc
behind_minus (b ∷ bs) h m =
    let above : begins_above_zero bs ≡ true = grind (arith, nat_tests) in
    (ap (λ (x : ℕ). x ∷ bs) m, above_first bs above)

no_plus : (bs : List ℕ) → begins_as_number bs ≡ true → get_or bs 0 0 ≢ 43
no_plus [] h p = absurd cc
no_plus (b ∷ bs) h p = absurd (grind (arith, nat_tests))

parsed : {E : Type 0} (bs : List ℕ) (n : ℤ) (r : Result ℤ E) → r ≡ Ok n → begins_as_number bs ≡ true → ParsesSigned w64 10 bs r → signed_decimal n ≡ bs
parsed {E} bs n r ok form h =
    elim (cases_eq (get_or bs 0 0) 45) [
      | inl m ↦
          let p = subst (λ (x : Result ℤ E). OkIff x (AllDigits 10 (drop 1 bs) × (0 < length (drop 1 bs)) × (digits_value 10 (drop 1 bs) ≤ 2 ^ 63)) (neg_ℤ (pos (digits_value 10 (drop 1 bs))))) ok (parse_signed_minus own w64 bs r h m) in
          let b = behind_minus bs form m in
          let low = b.1 in
          let d = decimal_of_digits (drop 1 bs) p.0.0 p.0.1 (λ z. absurd (omega arith)) (omega (arith, p.0.2)) in
          ap signed_decimal p.1 ∙ signed_below_zero (digits_value 10 (drop 1 bs)) (drop 1 bs) low d ∙ sym b.0
      | inr m ↦
          let p = subst (λ (x : Result ℤ E). OkIff x (AllDigits 10 bs × (0 < length bs) × (digits_value 10 bs < 2 ^ 63)) (pos (digits_value 10 bs))) ok (parse_signed_plain own w64 bs r h (no_plus bs form) m) in
          ap signed_decimal p.1 ∙ decimal_of_digits bs p.0.0 p.0.1 (zero_alone bs form) (omega (arith, p.0.2))
    ]

pub parsed_or_none : {E : Type 0} (bs : List ℕ) (r : Result ℤ E) → begins_as_number bs ≡ true → ParsesSigned w64 10 bs r → MatchOption (result_ok r) ((n : ℤ) → FitsSigned w64 n → signed_decimal n ≢ bs) (λ n. FitsSigned w64 n × (signed_decimal n ≡ bs))
parsed_or_none {E} bs (Ok n) form h = (subst (λ (z : ℤ). FitsSigned w64 z) (sym h.1) h.0.1, parsed {E = E} bs n (Ok n) refl form h)
parsed_or_none bs (Err e) form h = λ n fits same. let again = parse-signed_decimal w64 n bs (Err e) fits fits.sfits (sym same) h in cc

-- ---- The numbers of the smaller type

-- a long is the only one of its text
pub only_number : (bs : List ℕ) (m n : ℤ) → FitsSigned w64 m → FitsSigned w64 n → signed_decimal m ≡ bs → signed_decimal n ≡ bs → m ≡ n
only_number bs m n f g d e = signed_decimal_injective m n f.sfits g.sfits (d ∙ sym e)

pub int_from_long : {E : Type 0} (bs : List ℕ) (m z : ℤ) (r : Result ℤ E) → FitsSigned w64 m × (signed_decimal m ≡ bs) → z ≡ m → OkIff r (FitsSigned w32 z) z → MatchOption (result_ok r) ((n : ℤ) → FitsSigned w32 n → signed_decimal n ≢ bs) (λ n. FitsSigned w32 n × (signed_decimal n ≡ bs))
int_from_long bs m z (Ok n) long same h =
    (subst (λ (x : ℤ). FitsSigned w32 x) (sym h.1) h.0, ap signed_decimal (h.1 ∙ same) ∙ long.1)
int_from_long bs m z (Err e) long same h = λ n fits text.
    let wide : FitsSigned w64 n = record { sfits = omega (arith, fits.sfits) } in
    let one : m ≡ n = only_number bs m n long.0 wide long.1 text in
    h (subst (λ (x : ℤ). FitsSigned w32 x) (sym (same ∙ one)) fits)

-- ---- Bytes that a number's text doesn't have

pub lacks : (c : ℕ) → c ≢ 45 → ¬ IsInRange 48 57 c → (n : ℤ) → FitsSigned w64 n → All (λ b. b ≢ c) (signed_decimal n)
lacks c minus digit (pos n) fits =
    All-from_get_or (λ b. b ≢ c) (decimal n) 0 (not_in_digits own (decimal n) c (decimal_is_IsNumeral n (omega (arith, fits.sfits))).0.1 digit)
lacks c minus digit (negsuc n) fits =
    All-cons (λ b. b ≢ c) 45 (decimal (suc n)) (λ e. minus (sym e)) (All-from_get_or (λ b. b ≢ c) (decimal (suc n)) 0 (not_in_digits own (decimal (suc n)) c (decimal_is_IsNumeral (suc n) (omega (arith, fits.sfits))).0.1 digit))

pub some_text : (n : ℤ) → FitsSigned w64 n → signed_decimal n ≢ []
some_text (pos n) fits e = omega (arith, decimal_nonempty n (omega (arith, fits.sfits)), ap length e)
some_text (negsuc n) fits e = cc

-- ---- The numbers of calls

pub no_upto : (bs : List ℕ) (most : ℕ) → most < 2 ^ 32 → ((n : ℤ) → FitsSigned w64 n → signed_decimal n ≢ bs) → (n : ℕ) → (1 ≤ n) × (n ≤ most) → decimal n ≢ bs
no_upto bs most small none n within e = none (pos n) (record { sfits = omega (arith, within.1) }) e

pub only_upto : (bs : List ℕ) (most n : ℕ) (z : ℤ) → most < 2 ^ 32 → FitsSigned w64 z → signed_decimal z ≡ bs → n ≤ most → decimal n ≡ bs → z ≡ pos n
only_upto bs most n z small fits text within e = only_number bs z (pos n) fits (record { sfits = omega arith }) text e

-- ---- The numbers of a byte

-- a number that isn't negative is one of the numbers that a long has
pub no_byte : (bs : List ℕ) → ((n : ℤ) → FitsSigned w64 n → signed_decimal n ≢ bs) → (n : ℕ) → n < 256 → decimal n ≢ bs
no_byte bs none n lt e = none (pos n) (record { sfits = omega arith }) e

pub long_of_byte : (n : ℕ) → n < 256 → FitsSigned w64 (pos n)
long_of_byte n lt = record { sfits = omega arith }

byte_text : (m : ℤ) (bs : List ℕ) (n : ℕ) → FitsUnsignedBits 8 m → signed_decimal m ≡ bs → n ≡ nat_abs m → (n < 256) × (decimal n ≡ bs)
byte_text (pos k) bs n fits text same = (grind arith, ap decimal same ∙ text)
byte_text (negsuc k) bs n fits text same = absurd (grind arith)

pub byte_from_long : {E : Type 0} (bs : List ℕ) (m z : ℤ) (r : Result ℕ E) → FitsSigned w64 m × (signed_decimal m ≡ bs) → z ≡ m → OkIff r (FitsUnsignedBits 8 z) (nat_abs z) → MatchOption (result_ok r) ((n : ℕ) → n < 256 → decimal n ≢ bs) (λ n. (n < 256) × (decimal n ≡ bs))
byte_from_long bs m z (Ok n) long same h =
    byte_text m bs n (subst (FitsUnsignedBits 8) same h.0) long.1 (h.1 ∙ ap nat_abs same)
byte_from_long bs m z (Err e) long same h = λ n lt text.
    let one : m ≡ pos n = only_number bs m (pos n) long.0 (long_of_byte n lt) long.1 text in
    h (subst (FitsUnsignedBits 8) (sym (same ∙ one)) lt)

-- ---- The text of a number that isn't negative

digit_of : (n i : ℕ) → n < 2 ^ 63 → i < length (decimal n) → (48 ≤ get_or (decimal n) i 0) × (get_or (decimal n) i 0 ≤ 57)
digit_of n i lt inside = let d = digit_at (decimal n) i (decimal_is_IsNumeral n (omega arith)).0.1 inside in (omega (arith, d.0), omega (arith, d.1))

behind_first : (n i : ℕ) → n < 2 ^ 63 → i < length (drop 1 (decimal n)) → (48 ≤ get_or (drop 1 (decimal n)) i 0) × (get_or (drop 1 (decimal n)) i 0 ≤ 57)
behind_first n i lt inside = rw (get_or_after_one (decimal n) i 0) (digit_of n (1 + i) lt (omega (arith, inside, length-drop 1 (decimal n))))

pub count_text : (n : ℕ) → n < 256 → IsCount (decimal n)
count_text n lt = record {
  number = record { begins = begins-signed (pos n) (record { sfits = omega arith }); digits = All-from_get_or (λ b. (48 ≤ b) × (b ≤ 57)) (drop 1 (decimal n)) 0 (λ i. behind_first n i (omega arith)) };
  plain = λ e. let d = digit_of n 0 (omega arith) (decimal_nonempty n (omega arith)) in omega (arith, d.0);
}
