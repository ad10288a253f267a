-- Small facts of lists, options and tests.
use Rattle.std.proofs.Common.{◌≡◌, ◌≢◌, refl, ap, ℕ, zero, suc, ◌<◌, arith, Bool, true, false, ◌&&◌, List, [], ◌∷◌, length, Option, Some, None, slice_get, slice_set, inl, inr, ◌⊎◌}
use Rattle.std.proofs.lemmas.Bool.{false≢true}

pub none_some : {A : Type 0} → (x : A) → None ≡ Some x → ⊥
none_some x e = cc

pub some_is : {A : Type 0} → (x y : A) → Some x ≡ Some y → x ≡ y
some_is x y e = cc

pub both_true : (a b : Bool) → (a && b) ≡ true → (a ≡ true) × (b ≡ true)
both_true true true e = (refl, refl)
both_true true false e = absurd (false≢true e)
both_true false b e = absurd (false≢true e)

pub and_true : (a b : Bool) → a ≡ true → b ≡ true → (a && b) ≡ true
and_true true true e h = refl
and_true true false e h = h
and_true false b e h = e

pub get_within : {A : Type 0} → (xs : List A) (i : ℕ) (x : A) → slice_get xs i ≡ Some x → i < length xs
get_within [] i x e = absurd (none_some x e)
get_within (y ∷ xs) zero x e = omega arith
get_within (y ∷ xs) (suc i) x e = let h = get_within xs i x e in omega arith

pub within_get : {A : Type 0} → (xs : List A) (i : ℕ) → i < length xs → (x : A) × (slice_get xs i ≡ Some x)
within_get [] i h = absurd (omega arith)
within_get (y ∷ xs) zero h = (y, refl)
within_get (y ∷ xs) (suc i) h = let k : i < length xs = omega arith in within_get xs i k

pub get_set : {A : Type 0} → (xs : List A) (i : ℕ) (x : A) → i < length xs → slice_get (slice_set xs i x) i ≡ Some x
get_set [] i x h = absurd (omega arith)
get_set (y ∷ xs) zero x h = refl
get_set (y ∷ xs) (suc i) x h = let k : i < length xs = omega arith in get_set xs i x k

pub get_set_other : {A : Type 0} → (xs : List A) (i k : ℕ) (x : A) → k ≢ i → slice_get (slice_set xs i x) k ≡ slice_get xs k
get_set_other [] i k x h = refl
get_set_other (y ∷ xs) zero zero x h = absurd (h refl)
get_set_other (y ∷ xs) zero (suc k) x h = refl
get_set_other (y ∷ xs) (suc i) zero x h = refl
get_set_other (y ∷ xs) (suc i) (suc k) x h = get_set_other xs i k x (λ e. h (ap suc e))

pub length_set : {A : Type 0} → (xs : List A) (i : ℕ) (x : A) → length (slice_set xs i x) ≡ length xs
length_set [] i x = refl
length_set (y ∷ xs) zero x = refl
length_set (y ∷ xs) (suc i) x = ap suc (length_set xs i x)

pub same_or_not : (a b : ℕ) → (a ≡ b) ⊎ (a ≢ b)
same_or_not zero zero = inl refl
same_or_not zero (suc b) = inr (λ e. omega arith)
same_or_not (suc a) zero = inr (λ e. omega arith)
same_or_not (suc a) (suc b) = by (same_or_not a b)
  where
    by : (a ≡ b) ⊎ (a ≢ b) → (suc a ≡ suc b) ⊎ (suc a ≢ suc b)
    by (inl e) = inl (ap suc e)
    by (inr h) = inr (λ e. h (omega arith))

pub is_some_or_not : (o : Option ℕ) (v : ℕ) → (o ≡ Some v) ⊎ (o ≢ Some v)
is_some_or_not None v = inr (none_some v)
is_some_or_not (Some w) v = by (same_or_not w v)
  where
    by : (w ≡ v) ⊎ (w ≢ v) → (Some w ≡ Some v) ⊎ (Some w ≢ Some v)
    by (inl e) = inl (ap Some e)
    by (inr h) = inr (λ e. h (some_is w v e))
