-- Integer literals, read from their texts.
use Rattle.std.proofs.Common.{◌≡◌, ℕ, ◌+◌, ◌-◌, ◌*◌, ◌<◌, ◌≤◌, Bool, true, false, cond, not, ◌&&◌, ◌||◌, nat_eq, nat_lt, nat_le, List, [], ◌∷◌, ◌++◌, length, take, drop, Option, Some, None, inl, inr, subst, refl, sym, ap, ◌∙◌, arith}
use Rattle.std.specs.Prelude.{codes}
use Rattle.std.specs.Char.{is_digit, digit_value, is_ascii_digit}
use Rattle.std.specs.List.{list_all, filter, starts_with, ends_with}
use Rattle.std.specs.Str.Parse.{digits_value_after}
use Rattle.std.proofs.lemmas.Bool.{and_parts, and_from, and_cases, and_left, or_cases, or_left, or_right, or_parts, or_from, cond-true, cond-false, false≢true, lt-ltb, ltb-true, ltb-false, le-leb, leb-true, eqb-true, false_from_ne_true}
use Rattle.std.proofs.lemmas.Bool.Decides.{Decides-eqb, nat_tests}
use Rattle.std.proofs.lemmas.List.{append-nil, length-append, take_at}
use Rattle.std.proofs.lemmas.List.Folds.{list_all-append}
use Rattle.std.proofs.lemmas.List.Sums.{AllPass-from_list_all, list_all-from_AllPass}
use Rattle.std.proofs.lemmas.Nat.{mul-le}
use Rattle.std.proofs.lemmas.Slice.Eq.{starts_is, ends_is}
use Rattle.java_tree.specs.declared.token.Kind.{Kind}
use Rattle.java_tree.specs.declared.token.Kind.TheVariants as k
use Rattle.java_lexer.specs.declared.number.Base.{Base}
use Rattle.java_lexer.specs.declared.number.Base.TheVariants as base
use Rattle.java_lexer.specs.Numbers.{is_underscore, radix, IsDigits, IsNumeral, IsSuffix, is_decimal, largest, IsNumber}
use Rattle.java_lexer.specs.Spelling.{begins, is_number_byte}
use Rattle.java_lexer.specs.Reading.{value_from, value_of, base_of, has_suffix, without_suffix, literal, numeral, number_of}

-- ---- the value of digits

abbrev pub is_digit_or_underscore : ℕ → ℕ → Bool
is_digit_or_underscore r b = is_digit b r || is_underscore b

abbrev digits_in : List ℕ → List ℕ
digits_in text = filter (λ b. not (is_underscore b)) text

after-ge : (r n : ℕ) (ds : List ℕ) → 1 ≤ r → n ≤ digits_value_after r n ds
after-ge r n [] some = omega arith
after-ge r n (c ∷ cs) some =
    let more = after-ge r (n * r + digit_value c) cs some in
    let grows : n * 1 ≤ n * r = mul-le n 1 n r (omega arith) some in
    omega arith

read_by : (r n b : ℕ) (text : List ℕ) (u : Bool) → is_underscore b ≡ u → 1 ≤ r → is_digit_or_underscore r b ≡ true
    → (digits_value_after r n (digits_in text) < 18446744073709551616 → value_from r n text ≡ Some (digits_value_after r n (digits_in text)))
    → (digits_value_after r (n * r + digit_value b) (digits_in text) < 18446744073709551616 → value_from r (n * r + digit_value b) text ≡ Some (digits_value_after r (n * r + digit_value b) (digits_in text)))
    → digits_value_after r n (cond (not u) (b ∷ digits_in text) (digits_in text)) < 18446744073709551616
    → cond u (value_from r n text) (cond (is_digit b r && nat_lt (n * r + digit_value b) 18446744073709551616) (value_from r (n * r + digit_value b) text) None)
    ≡ Some (digits_value_after r n (cond (not u) (b ∷ digits_in text) (digits_in text)))
read_by r n b text true e some here same next small = same small
read_by r n b text false e some here same next small =
    let digit : is_digit b r ≡ true = elim (or_cases (is_digit b r) (is_underscore b) here) [ inl h ↦ h | inr h ↦ absurd (false≢true (sym e ∙ h)) ] in
    let fits : n * r + digit_value b < 18446744073709551616 = omega (arith, after-ge r (n * r + digit_value b) (digits_in text) some) in
    cond-true _ _ _ (and_from _ _ digit (lt-ltb _ _ fits)) ∙ next small

value_read : (r n : ℕ) (text : List ℕ) → 1 ≤ r → list_all (is_digit_or_underscore r) text ≡ true → digits_value_after r n (digits_in text) < 18446744073709551616
    → value_from r n text ≡ Some (digits_value_after r n (digits_in text))
value_read r n [] some each small = refl
value_read r n (b ∷ text) some each small =
    let parts = and_parts (is_digit_or_underscore r b) (list_all (is_digit_or_underscore r) text) each in
    read_by r n b text (is_underscore b) refl some parts.0 (value_read r n text some parts.1) (value_read r (n * r + digit_value b) text some parts.1) small

-- what value_from finds is what the digits write
record IsRead (r n : ℕ) (text : List ℕ) (v : ℕ) : Type 0 where
  each : list_all (is_digit_or_underscore r) text ≡ true
  value : v ≡ digits_value_after r n (digits_in text)
  fits : v < 18446744073709551616

when_some : {X : Type 0} (b : Bool) (o : Option X) (v : X) → cond b o None ≡ Some v → (b ≡ true) × (o ≡ Some v)
when_some true o v e = (refl, e)
when_some false o v e = cc

when_not : {X : Type 0} (b : Bool) (o : Option X) (v : X) → cond b None o ≡ Some v → (b ≡ false) × (o ≡ Some v)
when_not true o v e = cc
when_not false o v e = (refl, e)

is_by : (r n b : ℕ) (text : List ℕ) (v : ℕ) (u : Bool) → is_underscore b ≡ u
    → (value_from r n text ≡ Some v → IsRead r n text v)
    → (n * r + digit_value b < 18446744073709551616 → value_from r (n * r + digit_value b) text ≡ Some v → IsRead r (n * r + digit_value b) text v)
    → cond u (value_from r n text) (cond (is_digit b r && nat_lt (n * r + digit_value b) 18446744073709551616) (value_from r (n * r + digit_value b) text) None) ≡ Some v
    → (is_digit_or_underscore r b ≡ true) × (list_all (is_digit_or_underscore r) text ≡ true) × (v ≡ digits_value_after r n (cond (not u) (b ∷ digits_in text) (digits_in text)))
    × (v < 18446744073709551616)
is_by r n b text v true e same next h = let own = same h in (or_right (is_digit b r) (is_underscore b) e, own.each, own.value, own.fits)
is_by r n b text v false e same next h =
    let step = when_some (is_digit b r && nat_lt (n * r + digit_value b) 18446744073709551616) _ v h in
    let parts = and_parts (is_digit b r) (nat_lt (n * r + digit_value b) 18446744073709551616) step.0 in
    let own = next (ltb-true _ _ parts.1) step.1 in
    (or_left (is_digit b r) (is_underscore b) parts.0, own.each, own.value, own.fits)

value_is : (r n : ℕ) (text : List ℕ) (v : ℕ) → n < 18446744073709551616 → value_from r n text ≡ Some v → IsRead r n text v
value_is r n [] v small h = let same : n ≡ v = cc in record { each = refl; value = sym same; fits = omega arith }
value_is r n (b ∷ text) v small h =
    let own = is_by r n b text v (is_underscore b) refl (value_is r n text v small) (value_is r (n * r + digit_value b) text v) h in
    record { each = and_from _ _ own.0 own.1; value = own.2; fits = own.3 }

radix_some : (b : Base) → 1 ≤ radix b
radix_some base.Decimal = omega arith
radix_some _ = omega arith

value_of_read : (b : Base) (v : ℕ) (text : List ℕ) → IsDigits b v text → v < 18446744073709551616 → value_of (radix b) text ≡ Some v
value_of_read b v [] h small = absurd (omega (arith, h.some))
value_of_read b v (c ∷ text) h small =
    let all = list_all-from_AllPass (is_digit_or_underscore (radix b)) (c ∷ text) h.each in
    let fits : digits_value_after (radix b) 0 (digits_in (c ∷ text)) < 18446744073709551616 = subst (λ n. n < 18446744073709551616) h.writes small in
    cond-false _ _ _ (or_from _ _ h.first h.last) ∙ value_read (radix b) 0 (c ∷ text) (radix_some b) all fits ∙ ap Some (sym h.writes)

value_of_found : (b : Base) (v : ℕ) (text : List ℕ) → value_of (radix b) text ≡ Some v → IsDigits b v text
value_of_found b v [] e = cc
value_of_found b v (c ∷ text) e =
    let inner = when_not (starts_with nat_eq (c ∷ text) (codes "_") || ends_with nat_eq (c ∷ text) (codes "_")) _ v e in
    let sides = or_parts (starts_with nat_eq (c ∷ text) (codes "_")) (ends_with nat_eq (c ∷ text) (codes "_")) inner.0 in
    let own = value_is (radix b) 0 (c ∷ text) v (omega arith) inner.1 in
    record { some = omega arith; each = AllPass-from_list_all (is_digit_or_underscore (radix b)) (c ∷ text) own.each; first = sides.0; last = sides.1; writes = own.value }

-- ---- numerals

-- what stands at the front or at the end of a text
front_is : (text front : List ℕ) → starts_with nat_eq text front ≡ true → text ≡ front ++ drop (length front) text
front_is text front h = (starts_is Decides-eqb text front (starts_with nat_eq text front) refl).0 h

end_is : (text end : List ℕ) → ends_with nat_eq text end ≡ true → text ≡ take (length text - length end) text ++ end
end_is text end h = (ends_is Decides-eqb text end (ends_with nat_eq text end) refl).0 h

ends_so : (text front end : List ℕ) → text ≡ front ++ end → ends_with nat_eq text end ≡ true
ends_so text front end e = (ends_is Decides-eqb text end (ends_with nat_eq text end) refl).1 front e

-- what base_of finds, by its tests
abbrev parts_by : Bool → Bool → Bool → Base × ℕ
parts_by hexadecimal binary octal = cond hexadecimal (base.Hexadecimal, 2) (cond binary (base.Binary, 2) (cond octal (base.Octal, 0) (base.Decimal, 0)))

abbrev is_hexadecimal : List ℕ → Bool
is_hexadecimal text = starts_with nat_eq text (codes "0x") || starts_with nat_eq text (codes "0X")

abbrev is_binary : List ℕ → Bool
is_binary text = starts_with nat_eq text (codes "0b") || starts_with nat_eq text (codes "0B")

abbrev is_octal : List ℕ → Bool
is_octal text = starts_with nat_eq text (codes "0") && nat_lt 1 (length text)

abbrev IsFound : Base × ℕ → ℕ → List ℕ → Type 0
IsFound found v text = IsNumeral found.0 v text

empty_from_length : (text : List ℕ) → length text ≤ 0 → text ≡ []
empty_from_length [] h = refl
empty_from_length (b ∷ text) h = absurd (omega arith)

decimal_by : (v : ℕ) (text : List ℕ) (zero_first : Bool) → starts_with nat_eq text (codes "0") ≡ zero_first → (zero_first && nat_lt 1 (length text)) ≡ false → IsDigits base.Decimal v text → IsNumeral base.Decimal v text
decimal_by v text false e small h = (h, inr e)
decimal_by v text true e small h =
    let spelled = front_is text (codes "0") e in
    let short : length text ≤ 1 = ltb-false 1 (length text) small in
    let rest : drop 1 text ≡ [] = empty_from_length (drop 1 text) (omega (arith, length-append (codes "0") (drop 1 text), ap length spelled)) in
    (h, inl (spelled ∙ ap (λ t. codes "0" ++ t) rest))

numeral_by : (v : ℕ) (text : List ℕ) (hexadecimal binary octal : Bool) → is_hexadecimal text ≡ hexadecimal → is_binary text ≡ binary → is_octal text ≡ octal
    → IsDigits ((parts_by hexadecimal binary octal).0) v (drop ((parts_by hexadecimal binary octal).1) text) → IsNumeral ((parts_by hexadecimal binary octal).0) v text
numeral_by v text true binary octal h b o digits =
    elim (or_cases _ _ h) [ inl x ↦ (drop 2 text, inl (front_is text (codes "0x") x), digits) | inr x ↦ (drop 2 text, inr (front_is text (codes "0X") x), digits) ]
numeral_by v text false true octal h b o digits =
    elim (or_cases _ _ b) [ inl x ↦ (drop 2 text, inl (front_is text (codes "0b") x), digits) | inr x ↦ (drop 2 text, inr (front_is text (codes "0B") x), digits) ]
numeral_by v text false false true h b o digits =
    let tests = and_parts (starts_with nat_eq text (codes "0")) (nat_lt 1 (length text)) o in
    let spelled = front_is text (codes "0") tests.0 in
    let long = ltb-true 1 (length text) tests.1 in
    (drop 1 text, spelled, omega (arith, length-append (codes "0") (drop 1 text), ap length spelled), digits)
numeral_by v text false false false h b o digits = decimal_by v text (starts_with nat_eq text (codes "0")) refl o digits

numeral_sound : (v : ℕ) (text : List ℕ) → IsDigits ((base_of text).0) v (drop ((base_of text).1) text) → IsNumeral ((base_of text).0) v text
numeral_sound v text digits = numeral_by v text (is_hexadecimal text) (is_binary text) (is_octal text) refl refl refl digits

-- a byte that passes is none that does not
other_byte : (p : ℕ → Bool) (b n : ℕ) → p b ≡ true → p n ≡ false → nat_eq n b ≡ false
other_byte p b n here none = false_from_ne_true (nat_eq n b) (λ e. false≢true (sym none ∙ ap p (eqb-true n b e) ∙ here))

-- a numeral is read with its base
record IsParted (b : Base) (v : ℕ) (text : List ℕ) : Type 0 where
  based : (base_of text).0 ≡ b
  digits : IsDigits b v (drop ((base_of text).1) text)

parted_hexadecimal : (v : ℕ) (body : List ℕ) → IsDigits base.Hexadecimal v body → IsParted base.Hexadecimal v (codes "0x" ++ body)
parted_hexadecimal v body h = record { based = refl; digits = h }

parted_hexadecimal_upper : (v : ℕ) (body : List ℕ) → IsDigits base.Hexadecimal v body → IsParted base.Hexadecimal v (codes "0X" ++ body)
parted_hexadecimal_upper v body h = record { based = refl; digits = h }

parted_binary : (v : ℕ) (body : List ℕ) → IsDigits base.Binary v body → IsParted base.Binary v (codes "0b" ++ body)
parted_binary v body h = record { based = refl; digits = h }

parted_binary_upper : (v : ℕ) (body : List ℕ) → IsDigits base.Binary v body → IsParted base.Binary v (codes "0B" ++ body)
parted_binary_upper v body h = record { based = refl; digits = h }

-- the base that the tests find, where all are false but the last, or all are
parts_octal : (h b o : Bool) → h ≡ false → b ≡ false → o ≡ true → parts_by h b o ≡ (base.Octal, 0)
parts_octal h b o eh eb eo = rw (eh, eb, eo) refl

parts_decimal : (h b o : Bool) → h ≡ false → b ≡ false → o ≡ false → parts_by h b o ≡ (base.Decimal, 0)
parts_decimal h b o eh eb eo = rw (eh, eb, eo) refl

parted_from : (b : Base) (v : ℕ) (text : List ℕ) → base_of text ≡ (b, 0) → IsDigits b v text → IsParted b v text
parted_from b v text e h = record { based = ap (λ p. p.0) e; digits = subst (λ p. IsDigits b v (drop (p.1) text)) (sym e) h }

octal_byte : (c : ℕ) (text : List ℕ) → list_all (is_digit_or_underscore 8) (codes "0" ++ (c ∷ text)) ≡ true → is_digit_or_underscore 8 c ≡ true
octal_byte c text all =
    (and_parts (is_digit_or_underscore 8 c) (list_all (is_digit_or_underscore 8) text) (and_parts (is_digit_or_underscore 8 48) (list_all (is_digit_or_underscore 8) (c ∷ text)) all).1).0

parted_octal : (v : ℕ) (body : List ℕ) → 0 < length body → IsDigits base.Octal v (codes "0" ++ body) → IsParted base.Octal v (codes "0" ++ body)
parted_octal v [] some h = absurd (omega arith)
parted_octal v (c ∷ text) some h =
    let here = octal_byte c text (list_all-from_AllPass (is_digit_or_underscore 8) (codes "0" ++ (c ∷ text)) h.each) in
    let other = λ (n : ℕ) (none : is_digit_or_underscore 8 n ≡ false). other_byte (is_digit_or_underscore 8) c n here none in
    let hexadecimal : is_hexadecimal (codes "0" ++ (c ∷ text)) ≡ false = or_from _ _ (and_left _ _ (other 120 refl)) (and_left _ _ (other 88 refl)) in
    let binary : is_binary (codes "0" ++ (c ∷ text)) ≡ false = or_from _ _ (and_left _ _ (other 98 refl)) (and_left _ _ (other 66 refl)) in
    let octal : is_octal (codes "0" ++ (c ∷ text)) ≡ true = lt-ltb 1 (length (codes "0" ++ (c ∷ text))) (omega arith) in
    parted_from base.Octal v (codes "0" ++ (c ∷ text)) (parts_octal _ _ _ hexadecimal binary octal) h

parted_decimal : (v : ℕ) (text : List ℕ) → starts_with nat_eq text (codes "0") ≡ false → IsDigits base.Decimal v text → IsParted base.Decimal v text
parted_decimal v [] e h = absurd (omega (arith, h.some))
parted_decimal v (c ∷ text) e h =
    let other : nat_eq 48 c ≡ false = elim (and_cases (nat_eq 48 c) true e) [ inl h ↦ h | inr h ↦ absurd (false≢true (sym h)) ] in
    let hexadecimal : is_hexadecimal (c ∷ text) ≡ false = or_from _ _ (and_left _ _ other) (and_left _ _ other) in
    let binary : is_binary (c ∷ text) ≡ false = or_from _ _ (and_left _ _ other) (and_left _ _ other) in
    let octal : is_octal (c ∷ text) ≡ false = and_left _ _ e in
    parted_from base.Decimal v (c ∷ text) (parts_decimal _ _ _ hexadecimal binary octal) h

numeral_parted : (b : Base) (v : ℕ) (text : List ℕ) → IsNumeral b v text → IsParted b v text
numeral_parted base.Decimal v text h =
    elim h.1 [ inl e ↦ subst (IsParted base.Decimal v) (sym e) (record { based = refl; digits = subst (IsDigits base.Decimal v) e h.0 }) | inr e ↦ parted_decimal v text e h.0 ]
numeral_parted base.Hexadecimal v text h =
    elim h.1 [ inl e ↦ subst (IsParted base.Hexadecimal v) (sym e) (parted_hexadecimal v h.0 h.2) | inr e ↦ subst (IsParted base.Hexadecimal v) (sym e) (parted_hexadecimal_upper v h.0 h.2) ]
numeral_parted base.Octal v text h = subst (IsParted base.Octal v) (sym h.1) (parted_octal v h.0 h.2 (subst (IsDigits base.Octal v) h.1 h.3))
numeral_parted base.Binary v text h =
    elim h.1 [ inl e ↦ subst (IsParted base.Binary v) (sym e) (parted_binary v h.0 h.2) | inr e ↦ subst (IsParted base.Binary v) (sym e) (parted_binary_upper v h.0 h.2) ]

-- ---- literals

-- the bytes of numerals
abbrev is_numeral_byte : ℕ → Bool
is_numeral_byte b = is_digit b 16 || (is_underscore b || (nat_eq b 120 || nat_eq b 88))

pub all_more : (p q : ℕ → Bool) → ((b : ℕ) → p b ≡ true → q b ≡ true) → (text : List ℕ) → list_all p text ≡ true → list_all q text ≡ true
all_more p q more [] h = refl
all_more p q more (b ∷ text) h = let parts = and_parts (p b) (list_all p text) h in and_from _ _ (more b parts.0) (all_more p q more text parts.1)

digit_is_numeral : (r b : ℕ) → r ≤ 16 → is_digit_or_underscore r b ≡ true → is_numeral_byte b ≡ true
digit_is_numeral r b small h =
    elim (or_cases (is_digit b r) (is_underscore b) h) [
      | inl d ↦ or_left (is_digit b 16) _ (lt-ltb (digit_value b) 16 (omega (arith, ltb-true (digit_value b) r d)))
      | inr u ↦ or_right (is_digit b 16) _ (or_left (is_underscore b) _ u)
    ]

radix_small : (b : Base) → radix b ≤ 16
radix_small base.Decimal = omega arith
radix_small _ = omega arith

digits_bytes : (b : Base) (v : ℕ) (text : List ℕ) → IsDigits b v text → list_all is_numeral_byte text ≡ true
digits_bytes b v text h =
    all_more (is_digit_or_underscore (radix b)) is_numeral_byte (λ c. digit_is_numeral (radix b) c (radix_small b)) text (list_all-from_AllPass (is_digit_or_underscore (radix b)) text h.each)

behind_prefix : (front body text : List ℕ) → list_all is_numeral_byte front ≡ true → text ≡ front ++ body → list_all is_numeral_byte body ≡ true → list_all is_numeral_byte text ≡ true
behind_prefix front body text first e more = ap (list_all is_numeral_byte) e ∙ list_all-append is_numeral_byte front body ∙ and_from _ _ first more

numeral_bytes : (b : Base) (v : ℕ) (text : List ℕ) → IsNumeral b v text → list_all is_numeral_byte text ≡ true
numeral_bytes base.Decimal v text h = digits_bytes base.Decimal v text h.0
numeral_bytes base.Hexadecimal v text h =
    let body = digits_bytes base.Hexadecimal v h.0 h.2 in elim h.1 [ inl e ↦ behind_prefix (codes "0x") h.0 text refl e body | inr e ↦ behind_prefix (codes "0X") h.0 text refl e body ]
numeral_bytes base.Octal v text h = digits_bytes base.Octal v text h.3
numeral_bytes base.Binary v text h =
    let body = digits_bytes base.Binary v h.0 h.2 in elim h.1 [ inl e ↦ behind_prefix (codes "0b") h.0 text refl e body | inr e ↦ behind_prefix (codes "0B") h.0 text refl e body ]

-- no numeral ends with a byte that is none of its bytes
ends_not : (text : List ℕ) (c : ℕ) → list_all is_numeral_byte text ≡ true → is_numeral_byte c ≡ false → ends_with nat_eq text (c ∷ []) ≡ false
ends_not text c all none = false_from_ne_true _ (λ e.
    let spelled = end_is text (c ∷ []) e in
    let parts = and_parts _ _ (sym (list_all-append is_numeral_byte (take (length text - 1) text) (c ∷ [])) ∙ sym (ap (list_all is_numeral_byte) spelled) ∙ all) in
    false≢true (sym none ∙ (and_parts (is_numeral_byte c) true parts.1).0))

literal_is : (decimal long : Bool) (o : Option ℕ) (kind : Kind) → literal decimal long o ≡ Some kind → (v : ℕ) × (o ≡ Some v) × (v ≤ largest decimal long) × (kind ≡ k.Number v decimal long)
literal_is decimal long None kind e = cc
literal_is decimal long (Some v) kind e =
    let own = when_some (nat_le v (largest decimal long)) (Some (k.Number v decimal long)) kind e in
    let same : k.Number v decimal long ≡ kind = let h = own.1 in cc in
    (v, refl, leb-true v (largest decimal long) own.0, sym same)

pub record IsLiteral (kind : Kind) (text : List ℕ) : Type 0 where
  pub value : ℕ
  pub decimal : Bool
  pub long : Bool
  pub same : kind ≡ k.Number value decimal long
  pub number : IsNumber value decimal long text

literal_from : (long : Bool) (text numeral_text suffix : List ℕ) (kind : Kind) → text ≡ numeral_text ++ suffix → IsSuffix long suffix → numeral long numeral_text ≡ Some kind → IsLiteral kind text
literal_from long text inner suffix kind spelled is e =
    let b = (base_of inner).0 in
    let own = literal_is (is_decimal b) long (value_of (radix b) (drop ((base_of inner).1) inner)) kind e in
    record {
      value = own.0;
      decimal = is_decimal b;
      long = long;
      same = own.3;
      number = record {
        base = b;
        numeral = inner;
        suffix = suffix;
        spelled = spelled;
        is_numeral = numeral_sound own.0 inner (value_of_found b own.0 (drop ((base_of inner).1) inner) own.1);
        is_suffix = is;
        is_small = own.2;
        in_decimal = refl;
      };
    }

number_by : (text : List ℕ) (kind : Kind) (long : Bool) → has_suffix text ≡ long → numeral long (cond long (take (length text - 1) text) text) ≡ Some kind → IsLiteral kind text
number_by text kind false suffix e = literal_from false text text [] kind (sym (append-nil text)) refl e
number_by text kind true suffix e =
    elim (or_cases _ _ suffix) [
      | inl h ↦ literal_from true text (take (length text - 1) text) (codes "L") kind (end_is text (codes "L") h) (inl refl) e
      | inr h ↦ literal_from true text (take (length text - 1) text) (codes "l") kind (end_is text (codes "l") h) (inr refl) e
    ]

-- what is read as a number is one
pub number_sound : (text : List ℕ) (kind : Kind) → number_of text ≡ Some kind → IsLiteral kind text
number_sound text kind e = number_by text kind (has_suffix text) refl e

largest_fits : (decimal long : Bool) → largest decimal long < 18446744073709551616
largest_fits true true = omega arith
largest_fits true false = omega arith
largest_fits false true = omega arith
largest_fits false false = omega arith

-- a text is split before its suffix
record IsSplit (long : Bool) (inner text : List ℕ) : Type 0 where
  suffix : has_suffix text ≡ long
  inner_is : without_suffix text ≡ inner

split_long : (text inner end : List ℕ) → length end ≡ 1 → text ≡ inner ++ end → has_suffix text ≡ true → IsSplit true inner text
split_long text inner end one e suffix = record {
  suffix = suffix;
  inner_is = cond-true _ _ _ suffix ∙ ap (take (length text - 1)) e ∙ take_at inner end _ (omega (arith, ap length e, length-append inner end));
}

split_by : (long : Bool) (inner suffix text : List ℕ) → text ≡ inner ++ suffix → IsSuffix long suffix → list_all is_numeral_byte inner ≡ true → IsSplit long inner text
split_by false inner suffix text e is all =
    let same : text ≡ inner = e ∙ ap (λ t. inner ++ t) is ∙ append-nil inner in
    let each : list_all is_numeral_byte text ≡ true = ap (list_all is_numeral_byte) same ∙ all in
    let none : has_suffix text ≡ false = or_from _ _ (ends_not text 76 each refl) (ends_not text 108 each refl) in
    record { suffix = none; inner_is = cond-false _ _ _ none ∙ same }
split_by true inner suffix text e is all =
    elim is [
      | inl end ↦ let e' = e ∙ ap (λ t. inner ++ t) end in split_long text inner (codes "L") refl e' (or_left _ _ (ends_so text inner (codes "L") e'))
      | inr end ↦ let e' = e ∙ ap (λ t. inner ++ t) end in split_long text inner (codes "l") refl e' (or_right _ _ (ends_so text inner (codes "l") e'))
    ]

numeral_read : (b : Base) (v : ℕ) (long : Bool) (inner : List ℕ) → IsNumeral b v inner → v ≤ largest (is_decimal b) long → numeral long inner ≡ Some (k.Number v (is_decimal b) long)
numeral_read b v long inner h small =
    let parted = numeral_parted b v inner h in
    let fits : v < 18446744073709551616 = omega (arith, largest_fits (is_decimal b) long) in
    let body = drop ((base_of inner).1) inner in
    ap (λ x. literal (is_decimal x) long (value_of (radix x) body)) parted.based
    ∙ ap (literal (is_decimal b) long) (value_of_read b v body parted.digits fits)
    ∙ cond-true _ _ _ (le-leb v (largest (is_decimal b) long) small)

-- a number is read as what it is
pub number_read : (v : ℕ) (decimal long : Bool) (text : List ℕ) → IsNumber v decimal long text → number_of text ≡ Some (k.Number v decimal long)
number_read v decimal long text h =
    let split = split_by long h.numeral h.suffix text h.spelled h.is_suffix (numeral_bytes h.base v h.numeral h.is_numeral) in
    let small : v ≤ largest (is_decimal h.base) long = subst (λ d. v ≤ largest d long) h.in_decimal h.is_small in
    ap (λ l. numeral l (without_suffix text)) split.suffix ∙ ap (numeral long) split.inner_is ∙ numeral_read h.base v long h.numeral h.is_numeral small
    ∙ ap (λ d. Some (k.Number v d long)) (sym h.in_decimal)

-- ---- the bytes of a number

numeral_is_number : (b : ℕ) → is_numeral_byte b ≡ true → is_number_byte b ≡ true
numeral_is_number b h = grind (arith, nat_tests)

suffix_bytes : (long : Bool) (suffix : List ℕ) → IsSuffix long suffix → list_all is_number_byte suffix ≡ true
suffix_bytes false suffix e = ap (list_all is_number_byte) e
suffix_bytes true suffix h = elim h [ inl e ↦ ap (list_all is_number_byte) e | inr e ↦ ap (list_all is_number_byte) e ]

pub number_bytes : (v : ℕ) (decimal long : Bool) (text : List ℕ) → IsNumber v decimal long text → list_all is_number_byte text ≡ true
number_bytes v decimal long text h =
    let inner = all_more is_numeral_byte is_number_byte numeral_is_number h.numeral (numeral_bytes h.base v h.numeral h.is_numeral) in
    ap (list_all is_number_byte) h.spelled ∙ list_all-append is_number_byte h.numeral h.suffix ∙ and_from _ _ inner (suffix_bytes long h.suffix h.is_suffix)

decimal_digit : (b : ℕ) → is_digit b 10 ≡ true → is_ascii_digit b ≡ true
decimal_digit b h = grind (arith, nat_tests)

digits_first : (v : ℕ) (text : List ℕ) → IsDigits base.Decimal v text → begins is_ascii_digit text ≡ true
digits_first v [] h = absurd (omega (arith, h.some))
digits_first v (c ∷ text) h =
    let here = (and_parts (is_digit_or_underscore 10 c) (list_all (is_digit_or_underscore 10) text) (list_all-from_AllPass (is_digit_or_underscore 10) (c ∷ text) h.each)).0 in
    let other : nat_eq 95 c ≡ false = elim (and_cases (nat_eq 95 c) true h.first) [ inl e ↦ e | inr e ↦ absurd (false≢true (sym e)) ] in
    elim (or_cases (is_digit c 10) (is_underscore c) here) [ inl d ↦ decimal_digit c d | inr u ↦ absurd (false≢true (sym other ∙ ap (nat_eq 95) (eqb-true c 95 u))) ]

numeral_first : (b : Base) (v : ℕ) (text : List ℕ) → IsNumeral b v text → begins is_ascii_digit text ≡ true
numeral_first base.Decimal v text h = digits_first v text h.0
numeral_first base.Hexadecimal v text h = elim h.1 [ inl e ↦ ap (begins is_ascii_digit) e | inr e ↦ ap (begins is_ascii_digit) e ]
numeral_first base.Octal v text h = ap (begins is_ascii_digit) h.1
numeral_first base.Binary v text h = elim h.1 [ inl e ↦ ap (begins is_ascii_digit) e | inr e ↦ ap (begins is_ascii_digit) e ]

begins_more : (p : ℕ → Bool) (front rest : List ℕ) → begins p front ≡ true → begins p (front ++ rest) ≡ true
begins_more p [] rest h = absurd (false≢true h)
begins_more p (b ∷ front) rest h = h

pub number_first : (v : ℕ) (decimal long : Bool) (text : List ℕ) → IsNumber v decimal long text → begins is_ascii_digit text ≡ true
number_first v decimal long text h =
    ap (begins is_ascii_digit) h.spelled ∙ begins_more is_ascii_digit h.numeral h.suffix (numeral_first h.base v h.numeral h.is_numeral)
