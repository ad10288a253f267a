-- Sets of numbers, as words of bits.
use Rattle.std.proofs.Common.{◌≡◌, ℕ, zero, suc, ◌+◌, ◌*◌, ◌/◌, ◌%◌, ◌^◌, ◌<◌, ◌≤◌, max, Bool, true, false, not, ◌&&◌, ◌||◌, nat_eq, nat_lt, List, [], ◌∷◌, ◌++◌, length, get_or, set, bit_or, bit_and, refl, sym, ap, subst, ◌∙◌, arith, w64}
use Rattle.std.specs.Int.{bit_at, bit_not}
use Rattle.std.proofs.lemmas.Bool.{eqb-true, eqb-false, lt-ltb, le-ltb, ltb-true, ltb-false}
use Rattle.std.proofs.lemmas.Grind.{get_or-set_at}
use Rattle.std.proofs.lemmas.List.{get_or-set_other, get_or_default}
use Rattle.std.proofs.lemmas.Nat.Bits.{bit_at_set_same, bit_at_set_other, bit_at_clear_same, bit_at_clear_other, bit_at_or, bit_at-zero, bit_at-lt}
use Rattle.java_flow.specs.Sets.{bit}

bit_is : (words : List ℕ) (number : ℕ) → bit words number ≡ nat_eq (bit_at (get_or words (number / 64) 0) (number % 64)) 1
unfolding bit
bit_is words number = refl

-- a word of zeros holds nothing
pub zero_behind : (words : List ℕ) (at : ℕ) → get_or (words ++ 0 ∷ []) at 0 ≡ get_or words at 0
zero_behind [] zero = refl
zero_behind [] (suc at) = refl
zero_behind (w ∷ words) zero = refl
zero_behind (w ∷ words) (suc at) = zero_behind words at

past : (words : List ℕ) (at : ℕ) → length words ≤ at → get_or words at 0 ≡ 0
past [] at h = refl
past (w ∷ words) zero h = absurd (omega arith)
past (w ∷ words) (suc at) h = past words at (omega arith)

same_word : (a b : List ℕ) (number : ℕ) → get_or a (number / 64) 0 ≡ get_or b (number / 64) 0 → bit a number ≡ bit b number
same_word a b number e = bit_is a number ∙ ap (λ w. nat_eq (bit_at w (number % 64)) 1) e ∙ sym (bit_is b number)

-- ---- one word is changed

-- a number in it
here : (words : List ℕ) (at word number : ℕ) → at < length words → number / 64 ≡ at → bit (set words at word) number ≡ nat_eq (bit_at word (number % 64)) 1
here words at word number within e =
    bit_is (set words at word) number ∙ ap (λ w. nat_eq (bit_at w (number % 64)) 1) (get_or-set_at words at (number / 64) word 0 e within)

-- a number in another one
elsewhere : (words : List ℕ) (at word number : ℕ) → (number / 64 ≡ at → ⊥) → bit (set words at word) number ≡ bit words number
elsewhere words at word number ne = same_word (set words at word) words number (get_or-set_other words at (number / 64) word 0 ne)

-- the word as it was
was : (words : List ℕ) (at word number : ℕ) → at < length words → word ≡ get_or words at word → number / 64 ≡ at → bit words number ≡ nat_eq (bit_at word (number % 64)) 1
was words at word number within is e =
    bit_is words number ∙ ap (λ w. nat_eq (bit_at w (number % 64)) 1) (ap (λ k. get_or words k 0) e ∙ get_or_default words at 0 word within ∙ sym is)

apart : (a b : ℕ) → a / 64 ≡ b / 64 → (a ≡ b → ⊥) → a % 64 ≡ b % 64 → ⊥
apart a b e ne r = ne (omega arith)

-- ---- a number is put in

module _ (words : List ℕ) (number word : ℕ) (within : number / 64 < length words) (is : word ≡ get_or words (number / 64) word) where
  abbrev with_number : ℕ
  with_number = bit_or word (1 * 2 ^ (number % 64) % 2 ^ 64)

  put_at : (other : ℕ) (same in_word : Bool) → nat_eq other number ≡ same → nat_eq (other / 64) (number / 64) ≡ in_word → bit (set words (number / 64) with_number) other ≡ (same || bit words other)
  put_at other true in_word e f =
      let is_same : other ≡ number = eqb-true other number e in
      here words (number / 64) with_number other within (ap (λ k. k / 64) is_same)
      ∙ ap (λ k. nat_eq (bit_at with_number (k % 64)) 1) is_same
      ∙ ap (λ b. nat_eq b 1) (bit_at_set_same w64 word (number % 64) (omega arith))
  put_at other false true e f =
      let in_word : other / 64 ≡ number / 64 = eqb-true _ _ f in
      here words (number / 64) with_number other within in_word
      ∙ ap (λ b. nat_eq b 1) (bit_at_set_other w64 word (number % 64) (omega arith) (other % 64) (apart other number in_word (eqb-false _ _ e)))
      ∙ sym (was words (number / 64) word other within is in_word)
  put_at other false false e f = elsewhere words (number / 64) with_number other (eqb-false _ _ f)

  pub put_in : (other : ℕ) → bit (set words (number / 64) with_number) other ≡ (nat_eq other number || bit words other)
  put_in other = put_at other (nat_eq other number) (nat_eq (other / 64) (number / 64)) refl refl

  abbrev without_number : ℕ
  without_number = bit_and word (bit_not w64 (1 * 2 ^ (number % 64) % 2 ^ 64))

  take_at : (other : ℕ) (same in_word : Bool) → nat_eq other number ≡ same → nat_eq (other / 64) (number / 64) ≡ in_word → bit (set words (number / 64) without_number) other ≡ (not same && bit words other)
  take_at other true in_word e f =
      let is_same : other ≡ number = eqb-true other number e in
      here words (number / 64) without_number other within (ap (λ k. k / 64) is_same)
      ∙ ap (λ k. nat_eq (bit_at without_number (k % 64)) 1) is_same
      ∙ ap (λ b. nat_eq b 1) (bit_at_clear_same w64 word (number % 64) (omega arith))
  take_at other false true e f =
      let in_word : other / 64 ≡ number / 64 = eqb-true _ _ f in
      here words (number / 64) without_number other within in_word
      ∙ ap (λ b. nat_eq b 1) (bit_at_clear_other w64 word (number % 64) (omega arith) (other % 64) (omega arith) (apart other number in_word (eqb-false _ _ e)))
      ∙ sym (was words (number / 64) word other within is in_word)
  take_at other false false e f = elsewhere words (number / 64) without_number other (eqb-false _ _ f)

  pub taken_out : (other : ℕ) → bit (set words (number / 64) without_number) other ≡ (not (nat_eq other number) && bit words other)
  taken_out other = take_at other (nat_eq other number) (nat_eq (other / 64) (number / 64)) refl refl

pub put_in_grown : (old words : List ℕ) (number word : ℕ) → ((at : ℕ) → get_or words at 0 ≡ get_or old at 0) → number / 64 < length words → word ≡ get_or words (number / 64) word
    → (other : ℕ) → bit (set words (number / 64) (bit_or word (1 * 2 ^ (number % 64) % 2 ^ 64))) other ≡ (nat_eq other number || bit old other)
put_in_grown old words number word same within is other =
    put_in words number word within is other ∙ ap (λ b. nat_eq other number || b) (same_word words old other (same (other / 64)))

none_past : (words : List ℕ) (number : ℕ) → length words ≤ number / 64 → bit words number ≡ false
none_past words number h = bit_is words number ∙ ap (λ w. nat_eq (bit_at w (number % 64)) 1) (past words (number / 64) h) ∙ ap (λ b. nat_eq b 1) (bit_at-zero (number % 64))

-- a number behind the last word isn't in
pub not_in : (words : List ℕ) (number : ℕ) → length words ≤ number / 64 → (other : ℕ) → bit words other ≡ (not (nat_eq other number) && bit words other)
not_in words number h other = by (nat_eq other number) refl
  where
    by : (same : Bool) → nat_eq other number ≡ same → bit words other ≡ (not same && bit words other)
    by true e = ap (bit words) (eqb-true other number e) ∙ none_past words number h
    by false e = refl

-- ---- two sets

either : (a b : ℕ) → a < 2 → b < 2 → nat_eq (max a b) 1 ≡ (nat_eq a 1 || nat_eq b 1)
either zero zero p q = refl
either zero (suc zero) p q = refl
either zero (suc (suc b)) p q = absurd (omega arith)
either (suc zero) zero p q = refl
either (suc zero) (suc zero) p q = refl
either (suc zero) (suc (suc b)) p q = absurd (omega arith)
either (suc (suc a)) b p q = absurd (omega arith)

of_or : (a b i : ℕ) → nat_eq (bit_at (bit_or a b) i) 1 ≡ (nat_eq (bit_at a i) 1 || nat_eq (bit_at b i) 1)
of_or a b i = ap (λ x. nat_eq x 1) (bit_at_or a b i) ∙ either (bit_at a i) (bit_at b i) (bit_at-lt a i) (bit_at-lt b i)

-- what is in the set after so many words of the other one
abbrev pub Joined : List ℕ → List ℕ → ℕ → List ℕ → Type 0
Joined first others at words = (number : ℕ) → bit words number ≡ (bit first number || (nat_lt (number / 64) at && bit others number))

pub joined_none : (first words others : List ℕ) → ((at : ℕ) → get_or words at 0 ≡ get_or first at 0) → Joined first others 0 words
joined_none first words others same number =
    same_word words first number (same (number / 64)) ∙ sym (or_false (bit first number))
    ∙ ap (λ b. bit first number || (b && bit others number)) (sym (le-ltb (number / 64) 0 (omega arith)))
  where
    or_false : (b : Bool) → (b || false) ≡ b
    or_false true = refl
    or_false false = refl

module _ (first others words : List ℕ) (at word with : ℕ) (within : at < length words) (inside : at < length others) (is : word ≡ get_or words at word) (with_is : with ≡ get_or others at with) (so_far : Joined first others at words) where
  before_it : (p q r : Bool) → p ≡ (q || (false && r)) → p ≡ q
  before_it p true r e = e
  before_it p false r e = e

  further : (number : ℕ) → (number / 64 ≡ at → ⊥) → (before : Bool) → nat_lt (number / 64) at ≡ before → nat_lt (number / 64) at ≡ nat_lt (number / 64) (at + 1)
  further number ne true e = e ∙ sym (lt-ltb (number / 64) (at + 1) (let x : number / 64 < at = ltb-true _ _ e in omega arith))
  further number ne false e = e ∙ sym (le-ltb (number / 64) (at + 1) (let x : at ≤ number / 64 = ltb-false _ _ e in omega arith))

  more_at : (number : ℕ) (in_word : Bool) → nat_eq (number / 64) at ≡ in_word → bit (set words at (bit_or word with)) number ≡ (bit first number || (nat_lt (number / 64) (at + 1) && bit others number))
  more_at number true f =
      let e : number / 64 ≡ at = eqb-true _ _ f in
      let old : bit first number ≡ nat_eq (bit_at word (number % 64)) 1 =
      sym (before_it _ _ (bit others number) (subst (λ b. bit words number ≡ (bit first number || (b && bit others number))) (le-ltb (number / 64) at (omega arith)) (so_far number)))
      ∙ was words at word number within is e in
      here words at (bit_or word with) number within e ∙ of_or word with (number % 64)
      ∙ ap (λ b. b || nat_eq (bit_at with (number % 64)) 1) (sym old)
      ∙ ap (λ b. bit first number || b) (sym (was others at with number inside with_is e))
      ∙ ap (λ b. bit first number || (b && bit others number)) (sym (lt-ltb (number / 64) (at + 1) (omega arith)))
  more_at number false f =
      elsewhere words at (bit_or word with) number (eqb-false _ _ f) ∙ so_far number
      ∙ ap (λ b. bit first number || (b && bit others number)) (further number (eqb-false _ _ f) (nat_lt (number / 64) at) refl)

  pub joined_more : Joined first others (at + 1) (set words at (bit_or word with))
  joined_more number = more_at number (nat_eq (number / 64) at) refl

pub joined_all : (first others words : List ℕ) (at : ℕ) → length others ≤ at → Joined first others at words → (number : ℕ) → bit words number ≡ (bit first number || bit others number)
joined_all first others words at h so_far number = so_far number ∙ ap (λ b. bit first number || b) (by (nat_lt (number / 64) at) refl)
  where
    by : (b : Bool) → nat_lt (number / 64) at ≡ b → (b && bit others number) ≡ bit others number
    by true e = refl
    by false e = sym (none_past others number (let x : at ≤ number / 64 = ltb-false _ _ e in omega arith))

pub no_number : (number : ℕ) → bit [] number ≡ false
no_number number = bit_is [] number ∙ ap (λ b. nat_eq b 1) (bit_at-zero (number % 64))
