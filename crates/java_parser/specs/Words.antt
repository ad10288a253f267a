-- Reading the kinds of tokens from left to right: words, names, and things in a row.
use Rattle.std.specs.Prelude.{◌≡◌, ℕ, zero, suc, Bool, false, if◌then◌else◌, List, [], ◌∷◌, length, map, Result, Ok, Err}
use Rattle.std.specs.Str.{bytes_eq}
use denote.Enum.Bare.{sameb}
use Rattle.java_tree.specs.declared.token.Kind.{Kind}
use Rattle.java_tree.specs.declared.token.Kind.TheVariants as k
use Rattle.java_tree.specs.declared.token.Token.{Token}
use Rattle.java_tree.specs.contracts.token.Reserved.{the_type as reserved}
use Rattle.java_tree.specs.contracts.token.Symbol.{the_type as symbols}
use Rattle.java_tree.specs.Tokens.{Kinds}
use Rattle.java_parser.specs.declared.error.Refusal.{Refusal}
use Rattle.java_parser.specs.declared.error.Refusal.TheVariants as refusal
use Rattle.java_parser.specs.declared.words.Wanted.{Wanted}
use Rattle.java_parser.specs.declared.words.Wanted.TheVariants as wanted

abbrev pub kinds : List Token → Kinds
kinds = map (λ t. t.kind)

-- why reading stops, with how many tokens are left from the refused one on
pub data Fault : Type 0 where
  NoClass : ℕ → Fault
  TooDeep : ℕ → Fault

abbrev pub Reading : Type 0 → Type 0
Reading A = Result (A × Kinds) Fault

infixl 10 ◌>>=◌
abbrev pub ◌>>=◌ : {A B : Type 0} → Result A Fault → (A → Result B Fault) → Result B Fault
(Ok x) >>= f = f x
(Err e) >>= f = Err e

abbrev pub refused : {A : Type 0} → Kinds → Result A Fault
refused rest = Err (NoClass (length rest))

abbrev pub too_deep : {A : Type 0} → Kinds → Result A Fault
too_deep rest = Err (TooDeep (length rest))

-- What a function returned, seen by view, is what reading gives, unless memory ran out.
abbrev pub Fails : {Y : Type 0} → Refusal → Result Y Fault → Type 0
Fails refusal.Memory read = Unit {0}
Fails (refusal.NoClass left) read = read ≡ Err (NoClass left)
Fails (refusal.TooDeep left) read = read ≡ Err (TooDeep left)

abbrev pub ReturnsReading : {X Y : Type 0} → (X → Y) → Result X Refusal → Result Y Fault → Type 0
ReturnsReading view (Ok x) read = read ≡ Ok (view x)
ReturnsReading view (Err e) read = Fails e read

abbrev pub kind_of : Wanted → Kind
kind_of (wanted.Reserved w) = k.Reserved w
kind_of (wanted.Symbol s) = k.Symbol s
kind_of (wanted.Name name) = k.Identifier name.now

-- whether a token is a word; a number is none
unfoldable pub same_token : Kind → Kind → Bool
same_token (k.Identifier a) (k.Identifier b) = bytes_eq a b
same_token (k.Reserved a) (k.Reserved b) = sameb reserved a b
same_token (k.Symbol a) (k.Symbol b) = sameb symbols a b
same_token _ _ = false

unfoldable pub begins : Kind → Kinds → Bool
begins w [] = false
begins w (x ∷ rest) = same_token x w

-- what follows a word, and what follows several
unfoldable pub after_token : Kind → Kinds → Result Kinds Fault
after_token w [] = refused []
after_token w (x ∷ rest) = if same_token x w then Ok rest else refused (x ∷ rest)

unfoldable pub after : Kinds → Kinds → Result Kinds Fault
after [] rest = Ok rest
after (w ∷ words) rest = after_token w rest >>= after words

unfoldable pub name_at : Kinds → Reading (List ℕ)
name_at (k.Identifier name ∷ rest) = Ok (name, rest)
name_at rest = refused rest

-- Things as long as one begins, which the test tells. The number bounds how many there are.
unfoldable pub many_at : {A : Type 0} → (Kinds → Bool) → (Kinds → Reading A) → ℕ → Kinds → Reading (List A)
many_at goes_on thing_at zero rest = refused rest
many_at goes_on thing_at (suc n) rest = if goes_on rest then (do
  first ← thing_at rest
  others ← many_at goes_on thing_at n first.1
  Ok (first.0 ∷ others.0, others.1)) else Ok ([], rest)

-- Each takes a token, and one more stands behind them.
abbrev pub all_at : {A : Type 0} → (Kinds → Bool) → (Kinds → Reading A) → Kinds → Reading (List A)
all_at goes_on thing_at rest = many_at goes_on thing_at (length rest) rest
