-- Reading things one after the other, as a loop does.
use Rattle.std.proofs.Common.{◌≡◌, ℕ, suc, ◌-◌, ◌+◌, ◌≤◌, ◌<◌, Bool, true, false, List, [], ◌∷◌, ◌++◌, length, Ok, Err, refl, sym, ap, ◌∙◌, append_assoc, arith}
use Rattle.std.proofs.lemmas.List.{append-nil, length-map}
use Rattle.java_tree.specs.declared.token.Token.{Token}
use Rattle.java_tree.specs.Tokens.{Kinds}
use Rattle.java_parser.specs.declared.error.Refusal.{Refusal}
use Rattle.java_parser.specs.Words.{◌>>=◌, Reading, Fails, kinds, many_at, all_at}
use Rattle.java_parser.specs.Words.Fault.{NoClass}
use Rattle.java_parser.proofs.Steps.{goes_on as on_with, fails}

-- what was read before, and what is still read
abbrev pub with_front : {A : Type 0} → List A → Reading (List A) → Reading (List A)
with_front front read = read >>= λ x. Ok (front ++ x.0, x.1)

regroup : {A : Type 0} (front : List A) (x : A) (read : Reading (List A)) → with_front front (read >>= λ y. Ok (x ∷ y.0, y.1)) ≡ with_front (front ++ x ∷ []) read
regroup front x (Ok y) = ap (λ (xs : List _). Ok (xs, y.1)) (simp append_assoc)
regroup front x (Err e) = refl

behind : {A : Type 0} (front : List A) (r : Reading A) (more : Kinds → Reading (List A))
    → with_front front (r >>= λ x. more x.1 >>= λ y. Ok (x.0 ∷ y.0, y.1)) ≡ (r >>= λ x. with_front (front ++ x.0 ∷ []) (more x.1))
behind front (Ok x) more = regroup front x.0 (more x.1)
behind front (Err e) more = refl

all_front : {A : Type 0} (read : Reading (List A)) → with_front [] read ≡ read
all_front (Ok x) = refl
all_front (Err e) = refl

module _ {A : Type 0} (goes_on : Kinds → Bool) (thing_at : Kinds → Reading A) where
  pub many_start : (tokens : List Token) → with_front [] (many_at goes_on thing_at (length tokens - 0) (kinds tokens)) ≡ all_at goes_on thing_at (kinds tokens)
  many_start tokens =
      let k : length tokens - 0 ≡ length (kinds tokens) = omega (arith, length-map tokens (λ t. t.kind)) in
      all_front _ ∙ ap (λ n. many_at goes_on thing_at n (kinds tokens)) k

  one_more : (front : List A) (n i : ℕ) (rest : Kinds) → i < n → goes_on rest ≡ true
      → with_front front (many_at goes_on thing_at (n - i) rest) ≡ (thing_at rest >>= λ x. with_front (front ++ x.0 ∷ []) (many_at goes_on thing_at (n - (i + 1)) x.1))
  unfolding many_at
  one_more front n i rest lt more =
      let k : n - i ≡ suc (n - (i + 1)) = omega arith in
      rw (k, more) (behind front (thing_at rest) (many_at goes_on thing_at (n - (i + 1))))

  pub many_more : (front : List A) (n i : ℕ) (rest : Kinds) (x : A) (after_x : Kinds) (whole : Reading (List A)) → i < n → goes_on rest ≡ true → thing_at rest ≡ Ok (x, after_x)
      → with_front front (many_at goes_on thing_at (n - i) rest) ≡ whole → with_front (front ++ x ∷ []) (many_at goes_on thing_at (n - (i + 1)) after_x) ≡ whole
  many_more front n i rest x after_x whole lt more h so_far =
      on_with (thing_at rest) (x, after_x) (λ y. with_front (front ++ y.0 ∷ []) (many_at goes_on thing_at (n - (i + 1)) y.1)) _ whole (one_more front n i rest lt more) h so_far

  pub many_fails : (e : Refusal) (front : List A) (n i : ℕ) (rest : Kinds) (whole : Reading (List A)) → i < n → goes_on rest ≡ true → Fails e (thing_at rest)
      → with_front front (many_at goes_on thing_at (n - i) rest) ≡ whole → Fails e whole
  many_fails e front n i rest whole lt more h so_far =
      fails e (thing_at rest) (λ y. with_front (front ++ y.0 ∷ []) (many_at goes_on thing_at (n - (i + 1)) y.1)) _ whole (one_more front n i rest lt more) h so_far

  pub many_done : (front : List A) (n i : ℕ) (rest : Kinds) (whole : Reading (List A)) → i < n → goes_on rest ≡ false → with_front front (many_at goes_on thing_at (n - i) rest) ≡ whole → whole ≡ Ok (front, rest)
  unfolding many_at
  many_done front n i rest whole lt done so_far =
      let k : n - i ≡ suc (n - (i + 1)) = omega arith in
      let one : with_front front (many_at goes_on thing_at (n - i) rest) ≡ Ok (front, rest) = rw (k, done) (ap (λ (xs : List A). Ok (xs, rest)) (append-nil front)) in
      sym so_far ∙ one

  pub many_out : (front : List A) (n i : ℕ) (rest : List Token) (whole : Reading (List A)) → n ≤ i → with_front front (many_at goes_on thing_at (n - i) (kinds rest)) ≡ whole → whole ≡ Err (NoClass (length rest))
  unfolding many_at
  many_out front n i rest whole le so_far =
      let k : n - i ≡ 0 = omega arith in
      let one : with_front front (many_at goes_on thing_at (n - i) (kinds rest)) ≡ Err (NoClass (length rest)) = rw k (ap (λ left. Err (NoClass left)) (length-map rest (λ t. t.kind))) in
      sym so_far ∙ one
