-- How many instructions a walk may still come to.
use Rattle.std.proofs.Common.{◌≡◌, ℕ, zero, suc, ◌+◌, Bool, false, if◌then◌else◌, List, [], ◌∷◌, ◌++◌, length, Some, slice_get, slice_set, ap, ◌∙◌, arith}
use Rattle.live_vars.specs.Steps.{ends_in}
use Rattle.live_vars.specs.Walks.{left}
use Rattle.live_vars.proofs.Rising.{ends_at}

pub left_less : (v : ℕ) (sets before : List (List ℕ)) (at : ℕ) (row before_at : List ℕ) → slice_get sets at ≡ Some row → slice_get before at ≡ Some before_at → ends_in row v ≡ false
    → left v (slice_set sets at (row ++ v ∷ [])) before + length before_at ≡ left v sets before
left_less v [] before at row before_at is_row is_before not_last = absurd cc
left_less v (vars ∷ sets) [] at row before_at is_row is_before not_last = absurd cc
left_less v (vars ∷ sets) (b ∷ before) zero row before_at is_row is_before not_last =
    let same : vars ≡ row = cc in
    let same_before : b ≡ before_at = cc in
    let now = ap (λ (t : Bool). if t then 0 else length b) (ends_at row v) in
    let then_ = ap (λ (t : Bool). if t then 0 else length b) (ap (λ r. ends_in r v) same ∙ not_last) in
    let many = ap length same_before in
    omega (arith, now, then_, many)
left_less v (vars ∷ sets) (b ∷ before) (suc at) row before_at is_row is_before not_last =
    let rest = left_less v sets before at row before_at is_row is_before not_last in omega (arith, rest)
