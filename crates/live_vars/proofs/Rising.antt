-- Rising numbers, and the last of them.
use Rattle.std.proofs.Common.{◌≡◌, ℕ, suc, ◌-◌, ◌<◌, ◌≤◌, true, List, [], ◌∷◌, ◌++◌, length, Some, nat_eq, inl, inr, slice_get, refl, sym, ap, subst, ◌∙◌, arith, eq-eqb, eqb-true}
use Rattle.flat_code.specs.Ways.{IsIn, IsFirst, IsLater}
use Rattle.live_vars.specs.Sets.{RiseFrom}
use Rattle.live_vars.specs.Steps.{ends_in}
use Rattle.live_vars.proofs.Lists.{in_cases, in_none}

pub ends_last : (row : List ℕ) (v last : ℕ) → Some last ≡ slice_get row (length row - 1) → nat_eq last v ≡ ends_in row v
ends_last [] v last e = absurd cc
ends_last (x ∷ []) v last e = let same : last ≡ x = cc in ap (λ n. nat_eq n v) same
ends_last (x ∷ y ∷ ys) v last e =
    let one : suc (suc (length ys)) - 1 ≡ suc (length ys) = omega arith in
    let other : suc (length ys) - 1 ≡ length ys = omega arith in
    let there : Some last ≡ slice_get (y ∷ ys) (length ys) = e ∙ ap (λ n. slice_get (x ∷ y ∷ ys) n) one in
    ends_last (y ∷ ys) v last (there ∙ ap (λ n. slice_get (y ∷ ys) n) (sym other))

pub ends_at : (vs : List ℕ) (v : ℕ) → ends_in (vs ++ v ∷ []) v ≡ true
ends_at [] v = eq-eqb v v refl
ends_at (x ∷ []) v = eq-eqb v v refl
ends_at (x ∷ y ∷ ys) v = ends_at (y ∷ ys) v

pub ends_is_in : (vs : List ℕ) (v : ℕ) → ends_in vs v ≡ true → IsIn v vs
ends_is_in [] v e = absurd cc
ends_is_in (x ∷ []) v e = let P : ℕ → Type 0 = λ n. IsIn v (n ∷ []) in subst P (sym (eqb-true x v e)) (IsFirst [])
ends_is_in (x ∷ y ∷ ys) v e = IsLater x (y ∷ ys) (ends_is_in (y ∷ ys) v e)

pub in_ends : (vs : List ℕ) (least v : ℕ) → RiseFrom least vs → ((x : ℕ) → IsIn x vs → x < suc v) → IsIn v vs → ends_in vs v ≡ true
in_ends [] least v rise below is_in = absurd (in_none v is_in)
in_ends (x ∷ []) least v rise below is_in = elim (in_cases v x [] is_in) [ inl e ↦ eq-eqb x v e | inr later ↦ absurd (in_none v later) ]
in_ends (x ∷ y ∷ ys) least v rise below is_in =
    elim (in_cases v x (y ∷ ys) is_in) [
      | inl e ↦ let b = below y (IsLater x (y ∷ ys) (IsFirst ys)) in let r = rise.1.0 in absurd (omega (arith, b, r, e))
      | inr later ↦ in_ends (y ∷ ys) (suc x) v rise.1 (λ z m. below z (IsLater x (y ∷ ys) m)) later
    ]

pub rise_more : (vs : List ℕ) (least v : ℕ) → RiseFrom least vs → ((x : ℕ) → IsIn x vs → x < v) → least ≤ v → RiseFrom least (vs ++ v ∷ [])
rise_more [] least v rise below h = (h, tt)
rise_more (x ∷ vs) least v rise below h =
    let b = below x (IsFirst vs) in
    (rise.0, rise_more vs (suc x) v rise.1 (λ y m. below y (IsLater x vs m)) (omega (arith, b)))
