-- The run to completion, one event after the other.
use Rattle.std.proofs.Common.{◌≡◌, ℕ, zero, suc, ◌+◌, ◌-◌, ◌≤◌, None, refl, ap, ◌∙◌, arith}
use Rattle.cluster.specs.History.{Setup}
use Rattle.cluster.specs.World.{World, lowest, offers, after_offer, drained_for}

-- one event more is the lowest of what is offered then
pub drained_for-suc : (n : ℕ) (s : Setup) (w : World) → drained_for (suc n) s w ≡ after_offer s (drained_for n s w) (lowest (offers s (drained_for n s w)))
drained_for-suc zero s w = refl
drained_for-suc (suc n) s w = drained_for-suc n s (after_offer s w (lowest (offers s w)))

-- Once nothing is offered, nothing changes.
stays : (n : ℕ) (s : Setup) (w : World) → lowest (offers s w) ≡ None → drained_for n s w ≡ w
stays zero s w none = refl
stays (suc n) s w none = ap (λ o. drained_for n s (after_offer s w o)) none ∙ stays n s w none

drained_for-add : (k d : ℕ) (s : Setup) (w : World) → drained_for (k + d) s w ≡ drained_for d s (drained_for k s w)
drained_for-add zero d s w = let same : 0 + d ≡ d = omega arith in ap (λ n. drained_for n s w) same
drained_for-add (suc k) d s w =
    let next : suc k + d ≡ suc (k + d) = omega arith in
    ap (λ n. drained_for n s w) next ∙ drained_for-add k d s (after_offer s w (lowest (offers s w)))

pub drained_for-stops : (k n : ℕ) (s : Setup) (w : World) → k ≤ n → lowest (offers s (drained_for k s w)) ≡ None → drained_for n s w ≡ drained_for k s w
drained_for-stops k n s w l none =
    let split : n ≡ k + (n - k) = omega arith in
    ap (λ m. drained_for m s w) split ∙ drained_for-add k (n - k) s w ∙ stays (n - k) s (drained_for k s w) none
