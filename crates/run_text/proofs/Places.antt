-- What holds of each element of a list and of those before it.
use Rattle.std.proofs.Common.{◌≡◌, ℕ, suc, zero, List, [], ◌∷◌, ◌++◌, take, Some, refl, subst}
use Rattle.std.specs.Prelude.{slice_get}

pub each_push : {A : Type 0} (P : List A → A → Type 0) (xs : List A) (x : A) → ((i : ℕ) (y : A) → slice_get xs i ≡ Some y → P (take i xs) y) → P xs x → (i : ℕ) (y : A) → slice_get (xs ++ x ∷ []) i ≡ Some y → P (take i (xs ++ x ∷ [])) y
each_push P [] x h r zero y at = let e : x ≡ y = cc in subst (P []) e r
each_push P [] x h r (suc i) y at = absurd cc
each_push P (a ∷ xs) x h r zero y at = h zero y at
each_push P (a ∷ xs) x h r (suc i) y at = each_push (λ zs. P (a ∷ zs)) xs x (λ j z. h (suc j) z) r i y at

pub each_front : {A : Type 0} (P : List A → A → Type 0) (xs ys : List A) → ((i : ℕ) (y : A) → slice_get (xs ++ ys) i ≡ Some y → P (take i (xs ++ ys)) y) → (i : ℕ) (y : A) → slice_get xs i ≡ Some y → P (take i xs) y
each_front P [] ys h i y at = absurd cc
each_front P (a ∷ xs) ys h zero y at = h zero y at
each_front P (a ∷ xs) ys h (suc i) y at = each_front (λ zs. P (a ∷ zs)) xs ys (λ j z. h (suc j) z) i y at

pub each_here : {A : Type 0} (P : List A → A → Type 0) (xs ys : List A) (x : A) → ((i : ℕ) (y : A) → slice_get (xs ++ x ∷ ys) i ≡ Some y → P (take i (xs ++ x ∷ ys)) y) → P xs x
each_here P [] ys x h = h 0 x refl
each_here P (a ∷ xs) ys x h = each_here (λ zs. P (a ∷ zs)) xs ys x (λ j z. h (suc j) z)
