-- The first bytes of a token say what it is.
use Rattle.std.proofs.Common.{◌≡◌, ℕ, ◌<◌, inl, inr, Bool, true, false, ◌||◌, nat_eq, List, [], ◌∷◌, ◌++◌, length, refl, sym, ◌∙◌, subst, arith}
use Rattle.std.specs.Char.{is_ascii_digit, is_ascii_alphanumeric}
use Rattle.std.specs.Int.{is_in_range}
use Rattle.std.specs.List.{list_all}
use Rattle.std.proofs.lemmas.Bool.{and_parts, eqb-true, false_from_ne_true, false≢true, or_cases, or_left}
use Rattle.std.proofs.lemmas.List.{length-append}
use Rattle.std.proofs.lemmas.List.Sums.{list_all-from_AllPass}
use Rattle.java_tree.specs.declared.token.Kind.{Kind}
use Rattle.java_tree.specs.declared.token.Kind.TheVariants as k
use Rattle.java_tree.specs.declared.token.Reserved.{Reserved}
use Rattle.java_tree.specs.declared.token.Reserved.TheVariants as word
use Rattle.java_tree.specs.declared.token.Symbol.{Symbol}
use Rattle.java_tree.specs.declared.token.Symbol.TheVariants as symbol
use Rattle.java_tree.specs.Texts.{reserved_text, symbol_text}
use Rattle.java_lexer.specs.Spelling.{begins, is_white, IsText, is_number_byte, is_word_byte}
use Rattle.java_lexer.proofs.Runs.{begins-append}
use Rattle.java_lexer.proofs.Literals.{number_first}

-- what a kind's text begins with
abbrev pub digit_first : Kind → Bool
digit_first (k.Number digits decimal_ long) = true
digit_first _ = false

abbrev pub word_first : Kind → Bool
word_first (k.Symbol s) = false
word_first _ = true

-- a text begins as its token does
pub record BeginsAs (kind : Kind) (text : List ℕ) : Type 0 where
  pub some : 0 < length text
  pub digit : begins is_ascii_digit text ≡ digit_first kind
  pub word : begins is_word_byte text ≡ word_first kind
  pub space : begins is_white text ≡ false

reserved_begins : (w : Reserved) → BeginsAs (k.Reserved w) (reserved_text w)
reserved_begins word.Abstract = record { some = omega arith; digit = refl; word = refl; space = refl }
reserved_begins _ = record { some = omega arith; digit = refl; word = refl; space = refl }

symbol_begins : (s : Symbol) → BeginsAs (k.Symbol s) (symbol_text s)
symbol_begins symbol.OpenParen = record { some = omega arith; digit = refl; word = refl; space = refl }
symbol_begins _ = record { some = omega arith; digit = refl; word = refl; space = refl }

pub reserved_all : (w : Reserved) → list_all is_word_byte (reserved_text w) ≡ true
reserved_all word.Abstract = refl
reserved_all _ = refl

number_is_word : (b : ℕ) → is_number_byte b ≡ true → is_word_byte b ≡ true
number_is_word b h = or_left (is_number_byte b) (nat_eq b 36) h

digit_is_number : (b : ℕ) → is_ascii_digit b ≡ true → is_number_byte b ≡ true
digit_is_number b h = or_left (is_ascii_alphanumeric b) (nat_eq b 95) (or_left (is_ascii_digit b || is_in_range 65 90 b) (is_in_range 97 122 b) (or_left (is_ascii_digit b) (is_in_range 65 90 b) h))

no_word_at : (b n : ℕ) → nat_eq b n ≡ true → is_word_byte n ≡ false → is_word_byte b ≡ false
no_word_at b n e h = subst (λ m. is_word_byte m ≡ false) (sym (eqb-true b n e)) h

space_no_word : (b : ℕ) → is_white b ≡ true → is_word_byte b ≡ false
space_no_word b h =
    elim (or_cases _ (nat_eq b 13) h) [
      | inr e ↦ no_word_at b 13 e refl
      | inl h ↦
          elim (or_cases _ (nat_eq b 10) h) [
            | inr e ↦ no_word_at b 10 e refl
            | inl h ↦
                elim (or_cases _ (nat_eq b 12) h) [
                  | inr e ↦ no_word_at b 12 e refl
                  | inl h ↦
                      elim (or_cases _ (nat_eq b 9) h) [ inr e ↦ no_word_at b 9 e refl | inl e ↦ no_word_at b 32 e refl ]
                ]
          ]
    ]

pub word_no_space : (text : List ℕ) → begins is_word_byte text ≡ true → begins is_white text ≡ false
word_no_space [] h = refl
word_no_space (b ∷ text) h = false_from_ne_true (is_white b) (λ space. false≢true (sym (space_no_word b space) ∙ h))

pub word_no_slash : (text : List ℕ) → begins is_word_byte text ≡ true → begins (λ b. nat_eq b 47) text ≡ false
word_no_slash [] h = refl
word_no_slash (b ∷ text) h = false_from_ne_true (nat_eq b 47) (λ e. false≢true (sym (no_word_at b 47 e refl) ∙ h))

pub digit_is_word : (text : List ℕ) → begins is_ascii_digit text ≡ true → begins is_word_byte text ≡ true
digit_is_word [] h = h
digit_is_word (b ∷ text) h = number_is_word b (digit_is_number b h)

pub digit_in_number : (text : List ℕ) → begins is_ascii_digit text ≡ true → begins is_number_byte text ≡ true
digit_in_number [] h = h
digit_in_number (b ∷ text) h = digit_is_number b h

pub first_some : (p : ℕ → Bool) (text : List ℕ) → begins p text ≡ true → 0 < length text
first_some p [] h = absurd (false≢true h)
first_some p (b ∷ text) h = omega arith

all_first : (p : ℕ → Bool) (text : List ℕ) → 0 < length text → list_all p text ≡ true → begins p text ≡ true
all_first p [] some all = absurd (omega arith)
all_first p (b ∷ text) some all = (and_parts (p b) (list_all p text) all).0

pub front_begins : (kind : Kind) (front : List ℕ) → IsText kind front → BeginsAs kind front
front_begins (k.Identifier name) front h =
    let word = all_first is_word_byte name h.0.not_empty (list_all-from_AllPass is_word_byte name h.0.each) in
    subst (BeginsAs (k.Identifier name)) (sym h.1) (record { some = h.0.not_empty; digit = h.0.first; word = word; space = word_no_space name word })
front_begins (k.Number n decimal_ long) front h =
    let first = number_first n decimal_ long front h in
    let word = digit_is_word front first in
    record { some = first_some is_ascii_digit front first; digit = first; word = word; space = word_no_space front word }
front_begins (k.Reserved w) front h = subst (BeginsAs (k.Reserved w)) (sym h) (reserved_begins w)
front_begins (k.Symbol s) front h = subst (BeginsAs (k.Symbol s)) (sym h) (symbol_begins s)

-- a text begins as the token at its front does
pub text_begins : (kind : Kind) (front rest : List ℕ) → IsText kind front → BeginsAs kind (front ++ rest)
text_begins kind front rest h =
    let own = front_begins kind front h in
    record {
      some = omega (arith, length-append front rest, own.some);
      digit = begins-append is_ascii_digit front rest own.some ∙ own.digit;
      word = begins-append is_word_byte front rest own.some ∙ own.word;
      space = begins-append is_white front rest own.some ∙ own.space;
    }
