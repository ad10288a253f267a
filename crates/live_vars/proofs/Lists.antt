-- Numbers in lists, and lists at places.
use Rattle.std.proofs.Common.{◌≡◌, ◌≢◌, ℕ, zero, suc, ◌<◌, List, [], ◌∷◌, ◌++◌, length, Some, ◌⊎◌, inl, inr, slice_get, slice_set, replicate, refl, sym, ap, subst, arith}
use Rattle.flat_code.specs.Ways.{IsIn, IsFirst, IsLater}

pub in_cases : (x y : ℕ) (ys : List ℕ) → IsIn x (y ∷ ys) → (y ≡ x) ⊎ IsIn x ys
in_cases x y ys (IsFirst _) = inl refl
in_cases x y ys (IsLater _ _ later) = inr later

pub in_none : (x : ℕ) → IsIn x [] → ⊥
in_none x h = elim h [ ]

pub in_one : (x y : ℕ) → IsIn x (y ∷ []) → x ≡ y
in_one x y h = elim (in_cases x y [] h) [ inl e ↦ sym e | inr later ↦ absurd (in_none x later) ]

pub in_left : (x : ℕ) (xs ys : List ℕ) → IsIn x xs → IsIn x (xs ++ ys)
in_left x [] ys h = absurd (in_none x h)
in_left x (z ∷ xs) ys h =
    elim (in_cases x z xs h) [
      | inl e ↦ let P : ℕ → Type 0 = λ n. IsIn x (n ∷ (xs ++ ys)) in subst P (sym e) (IsFirst (xs ++ ys))
      | inr later ↦ IsLater z (xs ++ ys) (in_left x xs ys later)
    ]

pub in_right : (x : ℕ) (xs ys : List ℕ) → IsIn x ys → IsIn x (xs ++ ys)
in_right x [] ys h = h
in_right x (z ∷ xs) ys h = IsLater z (xs ++ ys) (in_right x xs ys h)

pub in_either : (x : ℕ) (xs ys : List ℕ) → IsIn x (xs ++ ys) → IsIn x xs ⊎ IsIn x ys
in_either x [] ys h = inr h
in_either x (z ∷ xs) ys h =
    elim (in_cases x z (xs ++ ys) h) [
      | inl e ↦ inl (let P : ℕ → Type 0 = λ n. IsIn x (n ∷ xs) in subst P (sym e) (IsFirst xs))
      | inr later ↦ elim (in_either x xs ys later) [ inl left ↦ inl (IsLater z xs left) | inr right ↦ inr right ]
    ]

pub there : {A : Type 0} (xs : List A) (n : ℕ) → n < length xs → (x : A) × (slice_get xs n ≡ Some x)
there [] n h = absurd (omega (arith, h))
there (x ∷ xs) zero h = (x, refl)
there (x ∷ xs) (suc n) h = there xs n (omega (arith, h))

pub set_same : {A : Type 0} (xs : List A) (i : ℕ) (x y : A) → slice_get xs i ≡ Some x → slice_get (slice_set xs i y) i ≡ Some y
set_same [] i x y e = absurd cc
set_same (z ∷ xs) zero x y e = refl
set_same (z ∷ xs) (suc i) x y e = set_same xs i x y e

pub set_other : {A : Type 0} (xs : List A) (i j : ℕ) (y : A) → j ≢ i → slice_get (slice_set xs i y) j ≡ slice_get xs j
set_other [] i j y ne = refl
set_other (z ∷ xs) zero zero y ne = absurd (ne refl)
set_other (z ∷ xs) zero (suc j) y ne = refl
set_other (z ∷ xs) (suc i) zero y ne = refl
set_other (z ∷ xs) (suc i) (suc j) y ne = set_other xs i j y (λ e. ne (ap suc e))

pub set_as_many : {A : Type 0} (xs : List A) (i : ℕ) (y : A) → length (slice_set xs i y) ≡ length xs
set_as_many [] i y = refl
set_as_many (z ∷ xs) zero y = refl
set_as_many (z ∷ xs) (suc i) y = ap suc (set_as_many xs i y)

pub empty_row : (n i : ℕ) (row : List ℕ) → slice_get (replicate n []) i ≡ Some row → row ≡ []
empty_row zero i row e = absurd cc
empty_row (suc n) zero row e = cc
empty_row (suc n) (suc i) row e = empty_row n i row e

pub same_at : {A : Type 0} (xs : List A) (i : ℕ) (x y : A) → slice_get xs i ≡ Some x → slice_get xs i ≡ Some y → x ≡ y
same_at xs i x y e f = cc

pub last_or_before : {A : Type 0} (xs : List A) (y : A) (i : ℕ) (x : A) → slice_get (xs ++ y ∷ []) i ≡ Some x → (slice_get xs i ≡ Some x) ⊎ ((i ≡ length xs) × (x ≡ y))
last_or_before [] y zero x e = inr (refl, cc)
last_or_before [] y (suc i) x e = absurd cc
last_or_before (z ∷ xs) y zero x e = inl e
last_or_before (z ∷ xs) y (suc i) x e = elim (last_or_before xs y i x e) [ inl before ↦ inl before | inr at ↦ inr (ap suc at.0, at.1) ]

pub none_of : {A : Type 0} (xs : List A) → length xs ≡ 0 → xs ≡ []
none_of [] e = refl
none_of (x ∷ xs) e = absurd (omega (arith, e))
