-- What reading gives has the tokens that were taken, and the tokens of a thing are read as that thing: for words, names and
-- things in a row.
use Rattle.std.proofs.Common.{◌≡◌, ℕ, zero, suc, ◌+◌, ◌<◌, ◌≤◌, Bool, true, false, cond, ◌&&◌, List, [], ◌∷◌, ◌++◌, length, map, Result, Ok, Err, ◌⊎◌, inl, inr, refl, sym, ap, subst, ◌∙◌, append_assoc, arith}
use Rattle.std.proofs.lemmas.List.{length-append}
use Rattle.std.specs.List.{flat_map}
use Rattle.std.proofs.lemmas.Slice.Eq.{bytes_eq-Decides}
use denote.Enum.Bare.{same_true, true_same}
use Rattle.java_tree.specs.contracts.token.Reserved.{the_type as reserved}
use Rattle.java_tree.specs.contracts.token.Symbol.{the_type as symbols}
use Rattle.java_tree.specs.declared.token.Kind.{Kind}
use Rattle.java_tree.specs.declared.token.Kind.TheVariants as k
use Rattle.java_tree.specs.Tokens.{Kinds}
use Rattle.java_parser.specs.Words.{◌>>=◌, Fault, Reading, same_token, begins, after_token, after, name_at, many_at, all_at}

-- ---- steps

-- the value of a step that gave one
pub bind_ok : {A B : Type 0} (r : Result A Fault) (f : A → Result B Fault) (y : B) → (r >>= f) ≡ Ok y → (x : A) × (r ≡ Ok x) × (f x ≡ Ok y)
bind_ok (Ok x) f y e = (x, refl, e)
bind_ok (Err e') f y e = absurd cc

pub same_Ok : {A : Type 0} (x y : A) → ◌≡◌ {A = Result A Fault} (Ok x) (Ok y) → x ≡ y
same_Ok x y e = cc

pub chosen : {A : Type 0} (b : Bool) (x y z : A) → cond b x y ≡ z → ((b ≡ true) × (x ≡ z)) ⊎ ((b ≡ false) × (y ≡ z))
chosen true x y z e = inl (refl, e)
chosen false x y z e = inr (refl, e)

-- a step that gives x, and what is done with x
pub then_is : {A B : Type 0} (r : Result A Fault) (f : A → Result B Fault) (x : A) (y : Result B Fault) → r ≡ Ok x → f x ≡ y → (r >>= f) ≡ y
then_is r f x y e h = ap (λ (o : Result _ Fault). o >>= f) e ∙ h

-- What a reader gives has these tokens; what it gives is of this kind; the tokens of such a thing are read as it, where
-- what follows them is of that kind.
abbrev pub Takes : {A : Type 0} → (Kinds → Reading A) → (A → Kinds) → Type 0
Takes thing_at tokens = (ks : Kinds) (x : _) → thing_at ks ≡ Ok x → ks ≡ tokens x.0 ++ x.1

abbrev pub Keeps : {A : Type 0} → (Kinds → Reading A) → (A → Type 0) → Type 0
Keeps thing_at P = (ks : Kinds) (x : _) → thing_at ks ≡ Ok x → P x.0

abbrev pub Again : {A : Type 0} → (Kinds → Reading A) → (A → Kinds) → (A → Type 0) → (Kinds → Type 0) → Type 0
Again thing_at tokens P G = (x : _) (rest : Kinds) → P x → G rest → thing_at (tokens x ++ rest) ≡ Ok (x, rest)

abbrev pub Any : {A : Type 0} → A → Type 0
Any x = Unit {0}

-- the thing and the tokens that were given in the end
pub given : {A : Type 0} (tokens : A → Kinds) (ks : Kinds) (y x : A × Kinds) → ◌≡◌ {A = Reading A} (Ok y) (Ok x) → ks ≡ tokens y.0 ++ y.1 → ks ≡ tokens x.0 ++ x.1
given tokens ks y x e h = subst (λ (z : _ × Kinds). ks ≡ tokens z.0 ++ z.1) (same_Ok y x e) h

pub kept : {A : Type 0} (P : A → Type 0) (y x : A × Kinds) → ◌≡◌ {A = Reading A} (Ok y) (Ok x) → P y.0 → P x.0
kept P y x e h = subst (λ (z : _ × Kinds). P z.0) (same_Ok y x e) h

-- ---- words

pub word_is : (x w : Kind) → same_token x w ≡ true → x ≡ w
unfolding same_token
word_is (k.Identifier a) (k.Identifier b) h = ap (λ (name : List ℕ). k.Identifier name) ((bytes_eq-Decides a b).0 h)
word_is (k.Reserved a) (k.Reserved b) h = ap k.Reserved (same_true reserved tt a b h)
word_is (k.Symbol a) (k.Symbol b) h = ap k.Symbol (same_true symbols tt a b h)
word_is (k.Identifier a) (k.Number n d l) h = absurd cc
word_is (k.Identifier a) (k.Reserved b) h = absurd cc
word_is (k.Identifier a) (k.Symbol b) h = absurd cc
word_is (k.Reserved a) (k.Identifier b) h = absurd cc
word_is (k.Reserved a) (k.Number n d l) h = absurd cc
word_is (k.Reserved a) (k.Symbol b) h = absurd cc
word_is (k.Symbol a) (k.Identifier b) h = absurd cc
word_is (k.Symbol a) (k.Number n d l) h = absurd cc
word_is (k.Symbol a) (k.Reserved b) h = absurd cc
word_is (k.Number n d l) w h = absurd cc

word_takes : (w : Kind) (ks rest : Kinds) → after_token w ks ≡ Ok rest → ks ≡ w ∷ rest
unfolding after_token
word_takes w [] rest e = absurd cc
word_takes w (x ∷ ks) rest e =
    elim (chosen (same_token x w) (Ok ks) _ (Ok rest) e) [
      | inl h ↦ let same : ks ≡ rest = same_Ok ks rest h.1 in ap (λ (y : Kind). y ∷ ks) (word_is x w h.0) ∙ ap (λ (t : Kinds). w ∷ t) same
      | inr h ↦ absurd cc
    ]

pub after_takes : (words ks rest : Kinds) → after words ks ≡ Ok rest → ks ≡ words ++ rest
unfolding after
after_takes [] ks rest e = same_Ok ks rest e
after_takes (w ∷ words) ks rest e =
    let a = bind_ok (after_token w ks) (after words) rest e in
    word_takes w ks a.0 a.1 ∙ ap (λ (t : Kinds). w ∷ t) (after_takes words a.0 rest a.2)

abbrev pub is_word : Kind → Bool
is_word (k.Number n d l) = false
is_word (k.Identifier name) = true
is_word (k.Reserved w) = true
is_word (k.Symbol s) = true

abbrev pub are_words : Kinds → Bool
are_words [] = true
are_words (w ∷ ws) = is_word w && are_words ws

pub both : (a b : Bool) → (a && b) ≡ true → (a ≡ true) × (b ≡ true)
both true b e = (refl, e)
both false b e = absurd cc

pub same : (w : Kind) → is_word w ≡ true → same_token w w ≡ true
unfolding same_token
same (k.Number n d l) h = absurd cc
same (k.Identifier name) h = (bytes_eq-Decides name name).1 refl
same (k.Reserved w) h = true_same reserved w w refl
same (k.Symbol s) h = true_same symbols s s refl

pub after_again : (words rest : Kinds) → are_words words ≡ true → after words (words ++ rest) ≡ Ok rest
unfolding after after_token
after_again [] rest h = refl
after_again (w ∷ words) rest h = let p = both (is_word w) (are_words words) h in rw (same w p.0) (after_again words rest p.1)

pub begins_same : (w : Kind) (rest : Kinds) → is_word w ≡ true → begins w (w ∷ rest) ≡ true
unfolding begins
begins_same w rest h = same w h

abbrev pub name_tokens : List ℕ → Kinds
name_tokens name = k.Identifier name ∷ []

pub name_takes : Takes name_at name_tokens
unfolding name_at
name_takes [] x e = absurd cc
name_takes (k.Identifier name ∷ rest) x e = given name_tokens _ (name, rest) x e refl
name_takes (k.Number n d l ∷ rest) x e = absurd cc
name_takes (k.Reserved w ∷ rest) x e = absurd cc
name_takes (k.Symbol s ∷ rest) x e = absurd cc

pub name_again : (name : List ℕ) (rest : Kinds) → name_at (k.Identifier name ∷ rest) ≡ Ok (name, rest)
unfolding name_at
name_again name rest = refl

-- ---- things in a row

pub many_takes : {A : Type 0} (goes_on : Kinds → Bool) (thing_at : Kinds → Reading A) (tokens : A → Kinds) → Takes thing_at tokens
    → (n : ℕ) → Takes (many_at goes_on thing_at n) (flat_map tokens)
unfolding many_at
many_takes goes_on thing_at tokens takes zero ks x e = absurd cc
many_takes goes_on thing_at tokens takes (suc n) ks x e =
    elim (chosen (goes_on ks) _ (Ok ([], ks)) (Ok x) e) [
      | inl h ↦ let a = bind_ok (thing_at ks) _ x h.1 in let b = bind_ok (many_at goes_on thing_at n a.0.1) _ x a.2 in
          given (flat_map tokens) ks (a.0.0 ∷ b.0.0, b.0.1) x b.2
          (takes ks a.0 a.1 ∙ ap (λ t. tokens a.0.0 ++ t) (many_takes goes_on thing_at tokens takes n a.0.1 b.0 b.1) ∙ sym (append_assoc (tokens a.0.0) (flat_map tokens b.0.0) b.0.1))
      | inr h ↦ given (flat_map tokens) ks ([], ks) x h.1 refl
    ]

-- what holds of no things, and of one more thing
pub many_keeps : {A : Type 0} (goes_on : Kinds → Bool) (thing_at : Kinds → Reading A) (P : A → Type 0) (Q : List A → Type 0) → Keeps thing_at P
    → Q [] → ((x : A) (xs : List A) → P x → Q xs → Q (x ∷ xs)) → (n : ℕ) → Keeps (many_at goes_on thing_at n) Q
unfolding many_at
many_keeps goes_on thing_at P Q keeps none more zero ks x e = absurd cc
many_keeps goes_on thing_at P Q keeps none more (suc n) ks x e =
    elim (chosen (goes_on ks) _ (Ok ([], ks)) (Ok x) e) [
      | inl h ↦ let a = bind_ok (thing_at ks) _ x h.1 in let b = bind_ok (many_at goes_on thing_at n a.0.1) _ x a.2 in
          kept Q (a.0.0 ∷ b.0.0, b.0.1) x b.2 (more a.0.0 b.0.0 (keeps ks a.0 a.1) (many_keeps goes_on thing_at P Q keeps none more n a.0.1 b.0 b.1))
      | inr h ↦ kept Q ([], ks) x h.1 none
    ]

-- Reading things goes on where one begins, and stops at the end of the tokens.
pub record Begins {A : Type 0} (goes_on : Kinds → Bool) (tokens : A → Kinds) : Type 0 where
  pub on : (x : A) (rest : Kinds) → goes_on (tokens x ++ rest) ≡ true
  pub off : goes_on [] ≡ false

not_empty : (goes_on : Kinds → Bool) (ks : Kinds) → goes_on (ks ++ []) ≡ true → goes_on [] ≡ false → 0 < length ks
not_empty goes_on [] on off = absurd cc
not_empty goes_on (x ∷ ks) on off = omega arith

many_length : {A : Type 0} (goes_on : Kinds → Bool) (tokens : A → Kinds) → Begins goes_on tokens → (xs : List A) (rest : Kinds) → length xs + length rest ≤ length (flat_map tokens xs ++ rest)
many_length goes_on tokens begins [] rest = omega arith
many_length goes_on tokens begins (x ∷ xs) rest =
    let one : 0 < length (tokens x) = not_empty goes_on (tokens x) (begins.on x []) begins.off in
    let all = many_length goes_on tokens begins xs rest in
    rw (append_assoc (tokens x) (flat_map tokens xs) rest) (omega (arith, all, one, length-append (tokens x) (flat_map tokens xs ++ rest)))

module _ {A : Type 0} (goes_on : Kinds → Bool) (thing_at : Kinds → Reading A) (tokens : A → Kinds) (P : A → Type 0) (Q : List A → Type 0) (G : Kinds → Type 0)
    (begins : Begins goes_on tokens) (again : Again thing_at tokens P G) (split : (x : A) (xs : List A) → Q (x ∷ xs) → P x × Q xs)
    (good : (x : A) (rest : Kinds) → G (tokens x ++ rest)) where
  follow : (xs : List A) (stop : Kinds) → G stop → G (flat_map tokens xs ++ stop)
  follow [] stop g = g
  follow (x ∷ xs) stop g = rw (append_assoc (tokens x) (flat_map tokens xs) stop) (good x (flat_map tokens xs ++ stop))

  many_again : (stop : Kinds) → goes_on stop ≡ false → G stop → (xs : List A) (n : ℕ) → Q xs → length xs < n → many_at goes_on thing_at n (flat_map tokens xs ++ stop) ≡ Ok (xs, stop)
  unfolding many_at
  many_again stop stops g xs zero q lt = absurd (omega arith)
  many_again stop stops g [] (suc n) q lt = rw stops refl
  many_again stop stops g (x ∷ xs) (suc n) q lt =
      let rest = flat_map tokens xs ++ stop in
      let p = split x xs q in
      rw (append_assoc (tokens x) (flat_map tokens xs) stop, begins.on x rest)
      (then_is _ _ (x, rest) _ (again x rest p.0 (follow xs stop g)) (then_is _ _ (xs, stop) _ (many_again stop stops g xs n p.1 (omega arith)) refl))

  pub all_again : (stop : Kind) (rest : Kinds) → goes_on (stop ∷ rest) ≡ false → G (stop ∷ rest) → (xs : List A) → Q xs → all_at goes_on thing_at (flat_map tokens xs ++ (stop ∷ rest)) ≡ Ok (xs, stop ∷ rest)
  all_again stop rest stops g xs q = many_again (stop ∷ rest) stops g xs _ q (omega (arith, many_length goes_on tokens begins xs (stop ∷ rest)))

-- things after commas
pub separated-map : {A : Type 0} (comma : Kind) (tokens : A → Kinds) (xs : List A) → flat_map (λ y. comma ∷ y) (map tokens xs) ≡ flat_map (λ x. comma ∷ tokens x) xs
separated-map comma tokens [] = refl
separated-map comma tokens (x ∷ xs) = ap (λ t. (comma ∷ tokens x) ++ t) (separated-map comma tokens xs)
