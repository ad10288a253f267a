-- Places in lists that grow at their end or change at one place, and cases of tests.
use Rattle.std.proofs.Common.{◌≡◌, ◌≢◌, ℕ, zero, suc, ◌<◌, ◌≤◌, ◌==◌, Bool, true, false, List, [], ◌∷◌, ◌++◌, length, Some, ◌⊎◌, inl, inr, slice_get, slice_set, refl, ap, arith}
use Rattle.std.proofs.lemmas.Bool.{eqb-true, eq-eqb}
use Rattle.tagged_agreement.specs.Source.{CallState, nth, with_state}

pub bool_cases : (b : Bool) → (b ≡ true) ⊎ (b ≡ false)
bool_cases true = inl refl
bool_cases false = inr refl

pub number_cases : (p q : ℕ) → (p ≡ q) ⊎ (p ≢ q)
number_cases p q = elim (bool_cases (p == q)) [ inl e ↦ inl (eqb-true p q e) | inr e ↦ inr (λ same. absurd (apart same e)) ]
  where
    apart : p ≡ q → (p == q) ≡ false → ⊥
    apart same e = let yes : (p == q) ≡ true = eq-eqb p q same in absurd cc

-- ---- longer lists

pub last_or_before : {A : Type 0} (xs : List A) (y : A) (i : ℕ) (x : A) → slice_get (xs ++ y ∷ []) i ≡ Some x → (slice_get xs i ≡ Some x) ⊎ ((i ≡ length xs) × (x ≡ y))
last_or_before [] y zero x e = inr (refl, cc)
last_or_before [] y (suc i) x e = absurd cc
last_or_before (z ∷ xs) y zero x e = inl e
last_or_before (z ∷ xs) y (suc i) x e = elim (last_or_before xs y i x e) [ inl before ↦ inl before | inr at ↦ inr (ap suc at.0, at.1) ]

pub still_there : {A : Type 0} (xs ys : List A) (i : ℕ) (x : A) → slice_get xs i ≡ Some x → slice_get (xs ++ ys) i ≡ Some x
still_there [] ys i x e = absurd cc
still_there (z ∷ xs) ys zero x e = e
still_there (z ∷ xs) ys (suc i) x e = still_there xs ys i x e

pub at_end : {A : Type 0} (xs : List A) (y : A) → slice_get (xs ++ y ∷ []) (length xs) ≡ Some y
at_end [] y = refl
at_end (x ∷ xs) y = at_end xs y

pub appended : {A : Type 0} (xs ys : List A) → length xs ≤ length (xs ++ ys)
appended [] ys = omega arith
appended (x ∷ xs) ys = let h = appended xs ys in more (length xs) (length (xs ++ ys)) h
  where
    more : (n m : ℕ) → n ≤ m → suc n ≤ suc m
    more n m l = omega arith

-- what is below the length is there
pub there : {A : Type 0} (xs : List A) (i : ℕ) → i < length xs → (x : A) × (slice_get xs i ≡ Some x)
there [] i l = absurd (omega arith)
there (x ∷ xs) zero l = (x, refl)
there (x ∷ xs) (suc i) l = there xs i (less i (length xs) l)
  where
    less : (n m : ℕ) → suc n < suc m → n < m
    less n m l = omega arith

-- ---- one place changed

pub set_same : {A : Type 0} (xs : List A) (i : ℕ) (x y : A) → slice_get xs i ≡ Some x → slice_get (slice_set xs i y) i ≡ Some y
set_same [] i x y e = absurd cc
set_same (z ∷ xs) zero x y e = refl
set_same (z ∷ xs) (suc i) x y e = set_same xs i x y e

pub set_other : {A : Type 0} (xs : List A) (i j : ℕ) (y : A) → j ≢ i → slice_get (slice_set xs i y) j ≡ slice_get xs j
set_other [] i j y ne = refl
set_other (z ∷ xs) zero zero y ne = absurd (ne refl)
set_other (z ∷ xs) zero (suc j) y ne = refl
set_other (z ∷ xs) (suc i) zero y ne = refl
set_other (z ∷ xs) (suc i) (suc j) y ne = set_other xs i j y (λ e. ne (ap suc e))

pub set_as_many : {A : Type 0} (xs : List A) (i : ℕ) (y : A) → length (slice_set xs i y) ≡ length xs
set_as_many [] i y = refl
set_as_many (z ∷ xs) zero y = refl
set_as_many (z ∷ xs) (suc i) y = ap suc (set_as_many xs i y)

-- ---- states by call

pub nth_same : {Waiting : Type 0} (states : List (CallState Waiting)) (c : ℕ) (old new : CallState Waiting) → nth states c ≡ Some old → nth (with_state c new states) c ≡ Some new
nth_same states zero old new e = absurd cc
nth_same states (suc n) old new e = set_same states n old new e

pub nth_other : {Waiting : Type 0} (states : List (CallState Waiting)) (c q : ℕ) (new : CallState Waiting) → q ≢ c → nth (with_state c new states) q ≡ nth states q
nth_other states zero q new ne = refl
nth_other states (suc n) zero new ne = refl
nth_other states (suc n) (suc m) new ne = set_other states n m new (λ e. ne (ap suc e))

pub with_as_many : {Waiting : Type 0} (states : List (CallState Waiting)) (c : ℕ) (new : CallState Waiting) → length (with_state c new states) ≡ length states
with_as_many states zero new = refl
with_as_many states (suc n) new = set_as_many states n new
