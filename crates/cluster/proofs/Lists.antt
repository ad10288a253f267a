-- Places in lists that grow at their end or change at one place.
use Rattle.std.proofs.Common.{◌≡◌, ◌≢◌, ℕ, zero, suc, List, [], ◌∷◌, ◌++◌, length, Some, ◌⊎◌, inl, inr, slice_get, slice_set, refl, ap, subst}
use Rattle.std.specs.List.{AllByRecursion}

-- what stands in a longer list stood in the shorter, or is the one that was added
pub last_or_before : {A : Type 0} (xs : List A) (y : A) (i : ℕ) (x : A) → slice_get (xs ++ y ∷ []) i ≡ Some x → (slice_get xs i ≡ Some x) ⊎ ((i ≡ length xs) × (x ≡ y))
last_or_before [] y zero x e = inr (refl, cc)
last_or_before [] y (suc i) x e = absurd cc
last_or_before (z ∷ xs) y zero x e = inl e
last_or_before (z ∷ xs) y (suc i) x e = elim (last_or_before xs y i x e) [ inl before ↦ inl before | inr at ↦ inr (ap suc at.0, at.1) ]

-- what stands in a list stands there in a longer one
pub still_there : {A : Type 0} (xs ys : List A) (i : ℕ) (x : A) → slice_get xs i ≡ Some x → slice_get (xs ++ ys) i ≡ Some x
still_there [] ys i x e = absurd cc
still_there (z ∷ xs) ys zero x e = e
still_there (z ∷ xs) ys (suc i) x e = still_there xs ys i x e

pub at_end : {A : Type 0} (xs : List A) (y : A) → slice_get (xs ++ y ∷ []) (length xs) ≡ Some y
at_end [] y = refl
at_end (x ∷ xs) y = at_end xs y

pub set_same : {A : Type 0} (xs : List A) (i : ℕ) (x y : A) → slice_get xs i ≡ Some x → slice_get (slice_set xs i y) i ≡ Some y
set_same [] i x y e = absurd cc
set_same (z ∷ xs) zero x y e = refl
set_same (z ∷ xs) (suc i) x y e = set_same xs i x y e

pub set_other : {A : Type 0} (xs : List A) (i j : ℕ) (y : A) → j ≢ i → slice_get (slice_set xs i y) j ≡ slice_get xs j
set_other [] i j y ne = refl
set_other (z ∷ xs) zero zero y ne = absurd (ne refl)
set_other (z ∷ xs) zero (suc j) y ne = refl
set_other (z ∷ xs) (suc i) zero y ne = refl
set_other (z ∷ xs) (suc i) (suc j) y ne = set_other xs i j y (λ e. ne (ap suc e))

pub set_as_many : {A : Type 0} (xs : List A) (i : ℕ) (y : A) → length (slice_set xs i y) ≡ length xs
set_as_many [] i y = refl
set_as_many (z ∷ xs) zero y = refl
set_as_many (z ∷ xs) (suc i) y = ap suc (set_as_many xs i y)

-- ---- what holds of each element

pub all_append : {A : Type 0} (P : A → Type 0) (xs ys : List A) → AllByRecursion P xs → AllByRecursion P ys → AllByRecursion P (xs ++ ys)
all_append P [] ys a b = b
all_append P (x ∷ xs) ys a b = (a.0, all_append P xs ys a.1 b)

pub all_at : {A : Type 0} (P : A → Type 0) (xs : List A) (i : ℕ) (x : A) → AllByRecursion P xs → slice_get xs i ≡ Some x → P x
all_at P [] i x a e = absurd cc
all_at P (y ∷ xs) zero x a e = let same : y ≡ x = cc in subst P same a.0
all_at P (y ∷ xs) (suc i) x a e = all_at P xs i x a.1 e

pub all_of : {A : Type 0} (P Q : A → Type 0) (xs : List A) → ((x : A) → P x → Q x) → AllByRecursion P xs → AllByRecursion Q xs
all_of P Q [] h a = tt
all_of P Q (x ∷ xs) h a = (h x a.0, all_of P Q xs h a.1)
