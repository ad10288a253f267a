-- Lists at a seam, where one element stands between a front and the rest.
use Rattle.std.proofs.Common.{◌≡◌, ◌≢◌, ℕ, zero, suc, List, [], ◌∷◌, ◌++◌, Some, slice_get, slice_set, length, add-one, length-append, ◌∙◌, ap, subst, refl}
use Rattle.std.proofs.Math.Seq.{set-append_seam}

pub slice_get-seam : {A : Type 0} (xs : List A) (y : A) (ys : List A) → slice_get (xs ++ y ∷ ys) (length xs) ≡ Some y
slice_get-seam [] y ys = refl
slice_get-seam (x ∷ xs) y ys = slice_get-seam xs y ys

pub got_at : {A : Type 0} (xs : List A) (y : A) (ys : List A) (n : ℕ) → length xs ≡ n → slice_get (xs ++ y ∷ ys) n ≡ Some y
got_at {A} xs y ys n e = let P : ℕ → Type 0 = λ k. slice_get (xs ++ y ∷ ys) k ≡ Some y in subst P e (slice_get-seam xs y ys)

pub set_at : {A : Type 0} (xs : List A) (y : A) (ys : List A) (z : A) (n : ℕ) → length xs ≡ n → slice_set (xs ++ y ∷ ys) n z ≡ xs ++ z ∷ ys
set_at {A} xs y ys z n e = let P : ℕ → Type 0 = λ k. slice_set (xs ++ y ∷ ys) k z ≡ xs ++ z ∷ ys in subst P e (set-append_seam xs y ys z)

pub length-push : {A : Type 0} (xs : List A) (x : A) (n : ℕ) → length xs ≡ n → length (xs ++ x ∷ []) ≡ suc n
length-push {A} xs x n e = length-append xs (x ∷ []) ∙ add-one (length xs) ∙ ap suc e

-- A write elsewhere leaves an element.
pub slice_get-set_other : {A : Type 0} (xs : List A) (n i : ℕ) (y : A) → i ≢ n → slice_get (slice_set xs n y) i ≡ slice_get xs i
slice_get-set_other [] n i y other = refl
slice_get-set_other (x ∷ xs) zero zero y other = absurd (other refl)
slice_get-set_other (x ∷ xs) zero (suc i) y other = refl
slice_get-set_other (x ∷ xs) (suc n) zero y other = refl
slice_get-set_other (x ∷ xs) (suc n) (suc i) y other = slice_get-set_other xs n i y (λ e. other (ap suc e))
