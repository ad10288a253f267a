-- A history with one happening more at its end, and what holds along a history.
use Rattle.std.proofs.Common.{◌≡◌, ℕ, ◌+◌, Bool, true, false, if◌then◌else◌, List, [], ◌∷◌, ◌++◌, length, refl, subst, sym, add-zero, arith}
use Rattle.sdg_base.specs.declared.port.Port.{Port}
use Rattle.sdg_base.specs.Ports.{same_port}
use Rattle.early_task_code.specs.Progress.{Taken, Progress, progress_after}
use Rattle.sdg_base.proofs.Ports.{same_port-true}
use Rattle.cluster.specs.History.{Setup, Happening, Took, after_entry, after_happening, after_all, Follows, HappensAfter, IsHistoryFrom}

-- what each port has come to after one happening more
pub after_all-push : (s : Setup) (cells : Port → Progress) (hist : List Happening) (h : Happening) (p : Port)
    → after_all s cells (hist ++ h ∷ []) p ≡ after_happening s h (λ q. after_all s cells hist q) p
after_all-push s cells [] h p = refl
after_all-push s cells (g ∷ hist) h p = after_all-push s (λ q. after_happening s g cells q) hist h p

-- Where a happening follows from a history, the history goes on with it.
pub IsHistoryFrom-push : (s : Setup) (cells : Port → Progress) (hist : List Happening) (h : Happening)
    → IsHistoryFrom s cells hist → HappensAfter (λ q. after_all s cells hist q) h → IsHistoryFrom s cells (hist ++ h ∷ [])
IsHistoryFrom-push s cells [] h past new = (new, tt)
IsHistoryFrom-push s cells (g ∷ hist) h past new = (past.0, IsHistoryFrom-push s (λ q. after_happening s g cells q) hist h past.1 new)

-- What holds at the start, and stays with each entry that follows, holds after a history.
pub holds_along : (Q : ℕ → (Port → Progress) → Type 0) (s : Setup)
    → ((n : ℕ) (cells : Port → Progress) (e : Taken) → Follows cells e → Q n cells → Q (n + 1) (λ p. after_entry s e cells p))
    → (cells : Port → Progress) (hist : List Happening) (n : ℕ) → IsHistoryFrom s cells hist → Q n cells → Q (n + length hist) (λ p. after_all s cells hist p)
holds_along Q s step cells [] n past now = let P : ℕ → Type 0 = λ k. Q k cells in subst P (sym (add-zero n)) now
holds_along Q s step cells (Took e ∷ hist) n past now =
    let P : ℕ → Type 0 = λ k. Q k (λ p. after_all s cells (Took e ∷ hist) p) in
    let same : n + 1 + length hist ≡ n + length (Took e ∷ hist) = omega arith in
    subst P same (holds_along Q s step (λ p. after_entry s e cells p) hist (n + 1) past.1 (step n cells e past.0 now))

-- by whether a test holds
pub if_cases : (P : Progress → Type 0) (b : Bool) (x y : Progress) → (b ≡ true → P x) → (b ≡ false → P y) → P (if b then x else y)
if_cases P true x y first second = first refl
if_cases P false x y first second = second refl

-- what an entry makes of a port, and of the others
pub after_cases : (P : Progress → Type 0) (s : Setup) (e : Taken) (cells : Port → Progress) (p : Port)
    → (same_port e.cell p ≡ true → P (progress_after s.graph s.header.slots e (cells p))) → (same_port e.cell p ≡ false → P (cells p)) → P (after_entry s e cells p)
after_cases P s e cells p own other = if_cases P (same_port e.cell p) (progress_after s.graph s.header.slots e (cells p)) (cells p) own other

-- what holds of the cell of an entry after it, and of another port before it
pub after_by : (P : Port → Progress → Type 0) (s : Setup) (e : Taken) (cells : Port → Progress) (p : Port)
    → P e.cell (progress_after s.graph s.header.slots e (cells e.cell)) → P p (cells p) → P p (after_entry s e cells p)
after_by P s e cells p own other =
    let Q : Port → Type 0 = λ q. P q (progress_after s.graph s.header.slots e (cells q)) in
    after_cases (P p) s e cells p (λ (is : same_port e.cell p ≡ true). subst Q (same_port-true e.cell p is) own) (λ _. other)
