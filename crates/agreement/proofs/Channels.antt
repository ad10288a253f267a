-- What one more entry of a cell changes: its own channels and what it took, and nothing of any other cell.
use Rattle.std.proofs.Common.{◌≡◌, ℕ, ◌+◌, ◌<◌, ◌≤◌, length-append, Bool, true, false, List, [], ◌∷◌, ◌++◌, length, Some, ◌⊎◌, inl, inr, slice_get, if◌then◌else◌, refl, ap, sym, ◌∙◌, subst, arith}
use Rattle.std.proofs.lemmas.List.{append-nil}
use Rattle.std.proofs.lemmas.Option.{slice_get_within}
use Rattle.sdg_base.specs.declared.port.Port.{Port}
use Rattle.sdg_base.specs.declared.item.Item.{Item}
use Rattle.sdg_base.specs.Ports.{same_port}
use Rattle.early_tables.specs.States.{State}
use Rattle.early_task_code.specs.Machine.{Ran, Runs, runs}
use Rattle.early_task_code.specs.Progress.{Taken, Progress, ran_or_nothing, outputs_to, progress_with, progress_after}
use Rattle.cluster.specs.History.{Setup, after_entry}
use Rattle.sdg_base.proofs.Ports.{same_port-true, same_port-refl}
use Rattle.cluster.proofs.Lists.{last_or_before, still_there, at_end}
use Rattle.agreement.proofs.Invariant.{Spot, item_at, IsAhead}

-- one output
abbrev pub one : Port → Item → State → Ran
one to x state = record { outputs = (to, x) ∷ []; state = state }

-- the cells once this one took an item that gave one
abbrev pub stepped : Port → Port → Ran → (Port → Progress) → Port → Progress
stepped own from ran cells p = if same_port own p then progress_with from ran (cells p) else cells p

pub bool_cases : (b : Bool) → (b ≡ true) ⊎ (b ≡ false)
bool_cases true = inl refl
bool_cases false = inr refl

-- it is the same cell, or another
pub port_cases : (p q : Port) → (p ≡ q) ⊎ (same_port p q ≡ false)
port_cases p q = elim (bool_cases (same_port p q)) [ inl e ↦ inl (same_port-true p q e) | inr e ↦ inr e ]

pub stepped_own : (own from : Port) (ran : Ran) (cells : Port → Progress) (p : Port) → own ≡ p → stepped own from ran cells p ≡ progress_with from ran (cells p)
stepped_own own from ran cells p e =
    let same : same_port own p ≡ true = let P : Port → Type 0 = λ q. same_port own q ≡ true in subst P e (same_port-refl own) in
    ap (λ (b : Bool). if b then progress_with from ran (cells p) else cells p) same

pub stepped_other : (own from : Port) (ran : Ran) (cells : Port → Progress) (p : Port) → same_port own p ≡ false → stepped own from ran cells p ≡ cells p
stepped_other own from ran cells p e = ap (λ (b : Bool). if b then progress_with from ran (cells p) else cells p) e

own_side : (s : Setup) (e : Taken) (cells : Port → Progress) (p : Port) → e.cell ≡ p → after_entry s e cells p ≡ progress_after s.graph s.header.slots e (cells p)
own_side s e cells p same =
    let yes : same_port e.cell p ≡ true = let P : Port → Type 0 = λ q. same_port e.cell q ≡ true in subst P same (same_port-refl e.cell) in
    ap (λ (b : Bool). if b then progress_after s.graph s.header.slots e (cells p) else cells p) yes

-- an entry whose item runs so
pub entry_steps : (s : Setup) (e : Taken) (ran : Ran) (cells : Port → Progress) → runs s.graph s.header.slots e.cell e.item (cells e.cell).state ≡ Some ran
    → (p : Port) → after_entry s e cells p ≡ stepped e.cell e.from ran cells p
entry_steps s e ran cells h p =
    elim (port_cases e.cell p) [
      | inl same ↦
          let P : Port → Type 0 = λ q. progress_after s.graph s.header.slots e (cells q) ≡ progress_with e.from ran (cells q) in
          let here : P e.cell = ap (λ (r : Runs). progress_with e.from (ran_or_nothing (cells e.cell).state r) (cells e.cell)) h in
          own_side s e cells p same ∙ subst P same here ∙ sym (stepped_own e.cell e.from ran cells p same)
      | inr other ↦
          ap (λ (b : Bool). if b then progress_after s.graph s.header.slots e (cells p) else cells p) other ∙ sym (stepped_other e.cell e.from ran cells p other)
    ]

-- ---- what was given

given_cases_at : (b : Bool) (gave : List Item) (out : Item) (i : ℕ) (x : Item) → slice_get (gave ++ (if b then out ∷ [] else [])) i ≡ Some x
    → (slice_get gave i ≡ Some x) ⊎ ((b ≡ true) × (i ≡ length gave) × (x ≡ out))
given_cases_at true gave out i x e = elim (last_or_before gave out i x e) [ inl old ↦ inl old | inr new ↦ inr (refl, new.0, new.1) ]
given_cases_at false gave out i x e = inl (ap (λ (xs : List Item). slice_get xs i) (sym (append-nil gave)) ∙ e)

spot_is : (cells : Port → Progress) (own to : Port) (spot : Spot) → own ≡ spot.from → to ≡ spot.to → spot.index ≡ length ((cells spot.from).gave spot.to)
    → spot ≡ record { from = own; to = to; index = length ((cells own).gave to) }
spot_is cells own to spot e f g =
    ap (λ (i : ℕ). let s : Spot = record { from = spot.from; to = spot.to; index = i } in s) g
    ∙ ap (λ (q : Port). let s : Spot = record { from = q; to = spot.to; index = length ((cells q).gave spot.to) } in s) (sym e)
    ∙ ap (λ (q : Port). let s : Spot = record { from = own; to = q; index = length ((cells own).gave q) } in s) (sym f)

-- What stands in a channel now stood there before, or is the output.
pub given_cases : (own from to : Port) (out : Item) (state : State) (cells : Port → Progress) (spot : Spot) (x : Item)
    → item_at (stepped own from (one to out state) cells) spot ≡ Some x
    → (item_at cells spot ≡ Some x) ⊎ ((spot ≡ record { from = own; to = to; index = length ((cells own).gave to) }) × (x ≡ out))
given_cases own from to out state cells spot x e =
    elim (port_cases own spot.from) [
      | inl same ↦
          let h : slice_get ((cells spot.from).gave spot.to ++ outputs_to spot.to ((to, out) ∷ [])) spot.index ≡ Some x =
          ap (λ (q : Progress). slice_get (q.gave spot.to) spot.index) (sym (stepped_own own from (one to out state) cells spot.from same)) ∙ e in
          elim (given_cases_at (same_port to spot.to) ((cells spot.from).gave spot.to) out spot.index x h) [
            | inl old ↦ inl old
            | inr new ↦ inr (spot_is cells own to spot same (same_port-true to spot.to new.0) new.1, new.2)
          ]
      | inr other ↦ inl (ap (λ (q : Progress). slice_get (q.gave spot.to) spot.index) (sym (stepped_other own from (one to out state) cells spot.from other)) ∙ e)
    ]

-- What was given stays where it is.
pub given_stays : (own from : Port) (ran : Ran) (cells : Port → Progress) (spot : Spot) (x : Item) → item_at cells spot ≡ Some x → item_at (stepped own from ran cells) spot ≡ Some x
given_stays own from ran cells spot x e =
    elim (port_cases own spot.from) [
      | inl same ↦
          ap (λ (q : Progress). slice_get (q.gave spot.to) spot.index) (stepped_own own from ran cells spot.from same)
          ∙ still_there ((cells spot.from).gave spot.to) (outputs_to spot.to ran.outputs) spot.index x e
      | inr other ↦ ap (λ (q : Progress). slice_get (q.gave spot.to) spot.index) (stepped_other own from ran cells spot.from other) ∙ e
    ]

-- The output stands at the end of its channel.
pub output_is : (own from to : Port) (out : Item) (state : State) (cells : Port → Progress)
    → item_at (stepped own from (one to out state) cells) (record { from = own; to = to; index = length ((cells own).gave to) }) ≡ Some out
output_is own from to out state cells =
    ap (λ (q : Progress). slice_get (q.gave to) (length ((cells own).gave to))) (stepped_own own from (one to out state) cells own refl)
    ∙ ap (λ (b : Bool). slice_get ((cells own).gave to ++ (if b then out ∷ [] else [])) (length ((cells own).gave to))) (same_port-refl to)
    ∙ at_end ((cells own).gave to) out

-- ---- what was taken

taken_at : (b : Bool) (n i : ℕ) → (if b then n + 1 else n) ≤ i → (n ≤ i) × (b ≡ true → n ≡ i → ⊥)
taken_at true n i l = (omega arith, λ _ e. absurd (omega arith))
taken_at false n i l = (l, λ e _. absurd cc)

from_is : (spot : Spot) (from : Port) → from ≡ spot.from → same_port spot.from from ≡ true
from_is spot from f = let P : Port → Type 0 = λ q. same_port q from ≡ true in subst P f (same_port-refl from)

took_is : (cells : Port → Progress) (own from : Port) (spot : Spot) → own ≡ spot.to → from ≡ spot.from → (cells spot.to).took spot.from ≡ (cells own).took from
took_is cells own from spot e f = ap (λ (q : Port). (cells q).took spot.from) (sym e) ∙ ap (λ (q : Port). (cells own).took q) (sym f)

differ : (p q : Port) → same_port p q ≡ false → p ≡ q → ⊥
differ p q apart e = let P : Port → Type 0 = λ r. same_port p r ≡ true in let yes : same_port p q ≡ true = subst P e (same_port-refl p) in absurd cc

-- What is ahead now was ahead before, and is not the item that was taken.
pub ahead_before : (own from : Port) (ran : Ran) (cells : Port → Progress) (spot : Spot) → IsAhead (stepped own from ran cells) spot
    → IsAhead cells spot × (own ≡ spot.to → from ≡ spot.from → (cells own).took from ≡ spot.index → ⊥)
ahead_before own from ran cells spot l =
    elim (port_cases own spot.to) [
      | inl same ↦
          let h : (if same_port spot.from from then (cells spot.to).took spot.from + 1 else (cells spot.to).took spot.from) ≤ spot.index =
          let P : Progress → Type 0 = λ q. q.took spot.from ≤ spot.index in subst P (stepped_own own from ran cells spot.to same) l in
          let parts = taken_at (same_port spot.from from) ((cells spot.to).took spot.from) spot.index h in
          (parts.0, λ _ f g. parts.1 (from_is spot from f) (took_is cells own from spot same f ∙ g))
      | inr other ↦
          let P : Progress → Type 0 = λ q. q.took spot.from ≤ spot.index in
          (subst P (stepped_other own from ran cells spot.to other) l, λ e _ _. absurd (differ own spot.to other e))
    ]

below : (n i : ℕ) → n ≤ i → (n ≡ i → ⊥) → n + 1 ≤ i
below n i l ne = omega arith

taken_on : (b : Bool) (n i : ℕ) → n ≤ i → (b ≡ true → n ≡ i → ⊥) → (if b then n + 1 else n) ≤ i
taken_on true n i l differs = below n i l (differs refl)
taken_on false n i l differs = l

-- What was ahead stays ahead, but for the item that was taken.
pub ahead_still : (own from : Port) (ran : Ran) (cells : Port → Progress) (spot : Spot) → IsAhead cells spot
    → (own ≡ spot.to → from ≡ spot.from → (cells own).took from ≡ spot.index → ⊥) → IsAhead (stepped own from ran cells) spot
ahead_still own from ran cells spot l differs =
    elim (port_cases own spot.to) [
      | inl same ↦
          let P : Progress → Type 0 = λ q. q.took spot.from ≤ spot.index in
          subst P (sym (stepped_own own from ran cells spot.to same))
          (taken_on (same_port spot.from from) ((cells spot.to).took spot.from) spot.index l
          (λ f g. let e = same_port-true spot.from from f in differs same (sym e) (ap (λ (q : Port). (cells q).took from) same ∙ ap (λ (q : Port). (cells spot.to).took q) (sym e) ∙ g)))
      | inr other ↦
          let P : Progress → Type 0 = λ q. q.took spot.from ≤ spot.index in
          subst P (sym (stepped_other own from ran cells spot.to other)) l
    ]

appended : {A : Type 0} (xs ys : List A) → length xs ≤ length (xs ++ ys)
appended xs ys = let e = length-append xs ys in omega arith

same_length : (n : ℕ) → n ≤ n
same_length n = omega arith

reach : (a b c : ℕ) → a ≤ b → b ≤ c → a ≤ c
reach a b c l m = omega arith

-- a channel grows at its end
pub gave_longer : (own from : Port) (ran : Ran) (cells : Port → Progress) (sender receiver : Port) → length ((cells sender).gave receiver) ≤ length ((stepped own from ran cells sender).gave receiver)
gave_longer own from ran cells sender receiver =
    let P : Progress → Type 0 = λ q. length ((cells sender).gave receiver) ≤ length (q.gave receiver) in
    elim (port_cases own sender) [
      | inl same ↦ subst P (sym (stepped_own own from ran cells sender same)) (appended ((cells sender).gave receiver) (outputs_to receiver ran.outputs))
      | inr other ↦ subst P (sym (stepped_other own from ran cells sender other)) (same_length (length ((cells sender).gave receiver)))
    ]

within : (own from : Port) (cells : Port → Progress) (x : Item) → slice_get ((cells from).gave own) ((cells own).took from) ≡ Some x
    → (sender receiver : Port) → own ≡ receiver → sender ≡ from → (cells receiver).took sender < length ((cells sender).gave receiver)
within own from cells x given sender receiver e f =
    let l : (cells own).took from < length ((cells from).gave own) = slice_get_within ((cells from).gave own) ((cells own).took from) x given in
    let P : Port → Type 0 = λ p. (cells p).took from < length ((cells from).gave p) in
    let Q : Port → Type 0 = λ p. (cells receiver).took p < length ((cells p).gave receiver) in
    subst Q (sym f) (subst P e l)

bounded_at : (b : Bool) (n m : ℕ) → n ≤ m → (b ≡ true → n < m) → (if b then n + 1 else n) ≤ m
bounded_at true n m l less = let h : n < m = less refl in omega arith
bounded_at false n m l less = l

-- No cell takes more than it was given.
pub bounded_still : (own from : Port) (ran : Ran) (cells : Port → Progress) (x : Item) → slice_get ((cells from).gave own) ((cells own).took from) ≡ Some x
    → ((sender receiver : Port) → (cells receiver).took sender ≤ length ((cells sender).gave receiver))
    → (sender receiver : Port) → (stepped own from ran cells receiver).took sender ≤ length ((stepped own from ran cells sender).gave receiver)
bounded_still own from ran cells x given bounded sender receiver =
    let longer = gave_longer own from ran cells sender receiver in
    elim (port_cases own receiver) [
      | inl same ↦
          let P : Progress → Type 0 = λ q. q.took sender ≤ length ((stepped own from ran cells sender).gave receiver) in
          subst P (sym (stepped_own own from ran cells receiver same))
          (reach (if same_port sender from then (cells receiver).took sender + 1 else (cells receiver).took sender) (length ((cells sender).gave receiver)) (length ((stepped own from ran cells sender).gave receiver))
          (bounded_at (same_port sender from) ((cells receiver).took sender) (length ((cells sender).gave receiver)) (bounded sender receiver)
          (λ f. within own from cells x given sender receiver same (same_port-true sender from f)))
          longer)
      | inr other ↦
          let P : Progress → Type 0 = λ q. q.took sender ≤ length ((stepped own from ran cells sender).gave receiver) in
          subst P (sym (stepped_other own from ran cells receiver other))
          (reach ((cells receiver).took sender) (length ((cells sender).gave receiver)) (length ((stepped own from ran cells sender).gave receiver)) (bounded sender receiver) longer)
    ]
