-- What holds of each element before one holds with that one.
use Rattle.std.specs.Prelude.{◌≡◌, ℕ, ◌+◌, ◌<◌, ◌≤◌, List, length, Some, slice_get, slice_index_or}
use Rattle.std.proofs.Common.{refl, sym, subst, ◌∙◌, arith, ◌⊎◌, inl, inr}
use Rattle.std.proofs.lemmas.Bool.{cases_lt}
use Rattle.std.proofs.lemmas.Option.{slice_get_read}

pub with_next : {A : Type 0} (P : A → Type 0) (xs : List A) (n : ℕ) (x : A) → n < length xs → x ≡ slice_index_or xs n x
    → ((k : ℕ) (y : A) → k < n → slice_get xs k ≡ Some y → P y) → P x → (k : ℕ) (y : A) → k < n + 1 → slice_get xs k ≡ Some y → P y
with_next {A = A} P xs n x within is before here k y less got = by (cases_lt k n)
  where
    by : (k < n) ⊎ (n ≤ k) → P y
    by (inl l) = before k y l got
    by (inr ge) =
        let e : n ≡ k = omega arith in
        let at : slice_get xs n ≡ Some x = slice_get_read xs (length xs) n x refl within is in
        let both : Some x ≡ Some y = sym at ∙ subst (λ (j : ℕ). slice_get xs j ≡ Some y) (sym e) got in
        let same : x ≡ y = cc in
        subst P same here
