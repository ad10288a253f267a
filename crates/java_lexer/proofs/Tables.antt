-- The tables of reserved words and of symbols have each of them, and no two with one text.
use Rattle.std.proofs.Common.{◌≡◌, ℕ, ◌≤◌, ◌⊎◌, inl, inr, Bool, true, false, cond, ◌&&◌, nat_eq, List, [], ◌∷◌, length, Option, Some, None, MatchOption, ◌≢◌, ltb, subst, refl, sym, ap, ◌∙◌, arith}
use Rattle.std.specs.List.{find, starts_with}
use Rattle.std.specs.Str.{bytes_eq}
use Rattle.std.proofs.lemmas.Bool.{cond_both, false≢true, ltb-true, ltb-false}
use Rattle.std.proofs.lemmas.Slice.Eq.{bytes_eq-Decides}
use Rattle.java_tree.specs.declared.token.Reserved.{Reserved}
use Rattle.java_tree.specs.declared.token.Reserved.TheVariants as word
use Rattle.java_tree.specs.declared.token.Symbol.{Symbol}
use Rattle.java_tree.specs.declared.token.Symbol.TheVariants as symbol
use Rattle.java_tree.specs.Texts.{reserved_text, symbol_text}
use Rattle.java_lexer.specs.declared.table.TheConstants.{RESERVED, SYMBOLS}
use Rattle.java_lexer.specs.Reading.{reserved_of, longest_from, is_longer, IsLongest}

-- each word is found by its text
pub reserved_of-text : (w : Reserved) → reserved_of (reserved_text w) ≡ Some w
unfolding reserved_of
reserved_of-text word.Abstract = refl
reserved_of-text _ = refl

symbol_of : List ℕ → Option Symbol
symbol_of text = find (λ s. bytes_eq (symbol_text s) text) SYMBOLS

symbol_of-text : (s : Symbol) → symbol_of (symbol_text s) ≡ Some s
unfolding symbol_of
symbol_of-text symbol.OpenParen = refl
symbol_of-text _ = refl

passes_by : {X : Type 0} (p : X → Bool) (y x : X) (rest : Option X) (b : Bool) → p y ≡ b → (rest ≡ Some x → p x ≡ true) → cond b (Some y) rest ≡ Some x → p x ≡ true
passes_by p y x rest true here more e = let same : y ≡ x = cc in ap p (sym same) ∙ here
passes_by p y x rest false here more e = more e

found_passes : {X : Type 0} (p : X → Bool) (xs : List X) (x : X) → find p xs ≡ Some x → p x ≡ true
found_passes p [] x e = cc
found_passes p (y ∷ xs) x e = passes_by p y x (find p xs) (p y) refl (found_passes p xs x) e

-- a word that is found has the text
pub reserved_found : (text : List ℕ) (w : Reserved) → reserved_of text ≡ Some w → reserved_text w ≡ text
unfolding reserved_of
reserved_found text w e = (bytes_eq-Decides (reserved_text w) text).0 (found_passes (λ v. bytes_eq (reserved_text v) text) RESERVED w e)

pub symbol_same : (s r : Symbol) → symbol_text s ≡ symbol_text r → s ≡ r
symbol_same s r e = let a = symbol_of-text s in let b = symbol_of-text r in cc

-- x stands in the list
abbrev Among : {X : Type 0} → X → List X → Type 0
Among x [] = ⊥
Among x (y ∷ xs) = (y ≡ x) ⊎ Among x xs

among_by : {X : Type 0} (y x : X) (xs : List X) (rest : Option X) (b : Bool) → (rest ≡ Some x → Among x xs) → cond b (Some y) rest ≡ Some x → (y ≡ x) ⊎ Among x xs
among_by y x xs rest true more e = inl cc
among_by y x xs rest false more e = inr (more e)

found_among : {X : Type 0} (p : X → Bool) (xs : List X) (x : X) → find p xs ≡ Some x → Among x xs
found_among p [] x e = cc
found_among p (y ∷ xs) x e = among_by y x xs (find p xs) (p y) (found_among p xs x) e

each_symbol : (s : Symbol) → Among s SYMBOLS
unfolding symbol_of
each_symbol s = found_among (λ v. bytes_eq (symbol_text v) (symbol_text s)) SYMBOLS s (symbol_of-text s)

-- ---- the longest symbol

abbrev is_front : List ℕ → Symbol → Bool
is_front text s = starts_with nat_eq text (symbol_text s)

-- no longer than what was found
abbrev IsWithin : Symbol → Option Symbol → Type 0
IsWithin s None = ⊥
IsWithin s (Some found) = length (symbol_text s) ≤ length (symbol_text found)

within_more : (s x : Symbol) (found : Option Symbol) (b : Bool) → IsWithin s found → IsWithin s (cond (b && is_longer x found) (Some x) found)
within_more s x None b h = absurd h
within_more s x (Some other) false h = h
within_more s x (Some other) true h =
    cond_both (ltb (length (symbol_text other)) (length (symbol_text x))) (Some x) (Some other) (IsWithin s) (λ e. omega (arith, ltb-true _ _ e)) (λ _. h)

within_here : (s : Symbol) (found : Option Symbol) (b : Bool) → b ≡ true → IsWithin s (cond (b && is_longer s found) (Some s) found)
within_here s found false e = absurd (false≢true e)
within_here s None true e = omega arith
within_here s (Some other) true e =
    cond_both (ltb (length (symbol_text other)) (length (symbol_text s))) (Some s) (Some other) (IsWithin s) (λ _. omega arith) (λ h. ltb-false _ _ h)

within_longest : (s : Symbol) (text : List ℕ) (xs : List Symbol) (found : Option Symbol) → IsWithin s found → IsWithin s (longest_from found text xs)
within_longest s text [] found h = h
within_longest s text (x ∷ xs) found h = within_longest s text xs _ (within_more s x found (is_front text x) h)

longest_within : (s : Symbol) (text : List ℕ) (xs : List Symbol) (found : Option Symbol) → Among s xs → is_front text s ≡ true → IsWithin s (longest_from found text xs)
longest_within s text [] found among front = absurd among
longest_within s text (x ∷ xs) found (inl e) front =
    within_longest s text xs _ (subst (λ y. IsWithin s (cond (is_front text y && is_longer y found) (Some y) found)) (sym e) (within_here s found (is_front text s) front))
longest_within s text (x ∷ xs) found (inr among) front = longest_within s text xs _ among front

-- what is found stands at the front, or was found before
abbrev IsFront : List ℕ → Option Symbol → Type 0
IsFront text None = Unit {0}
IsFront text (Some s) = is_front text s ≡ true

front_here : (text : List ℕ) (x : Symbol) (found : Option Symbol) (b : Bool) → is_front text x ≡ b → IsFront text found → IsFront text (cond (b && is_longer x found) (Some x) found)
front_here text x found false e h = h
front_here text x found true e h = cond_both (is_longer x found) (Some x) found (IsFront text) (λ _. e) (λ _. h)

longest_front : (text : List ℕ) (xs : List Symbol) (found : Option Symbol) → IsFront text found → IsFront text (longest_from found text xs)
longest_front text [] found h = h
longest_front text (x ∷ xs) found h = longest_front text xs _ (front_here text x found (is_front text x) refl h)

-- what the whole table gives is the longest of all symbols
pub longest_of_all : (text : List ℕ) (found : Option Symbol) → found ≡ longest_from None text SYMBOLS → MatchOption found ((s : Symbol) → is_front text s ≢ true) (λ s. IsLongest s text)
longest_of_all text None e = λ s front. subst (IsWithin s) (sym e) (longest_within s text SYMBOLS None (each_symbol s) front)
longest_of_all text (Some found) e = record {
  front = subst (IsFront text) (sym e) (longest_front text SYMBOLS None tt);
  longest = λ s front. subst (IsWithin s) (sym e) (longest_within s text SYMBOLS None (each_symbol s) front);
}
