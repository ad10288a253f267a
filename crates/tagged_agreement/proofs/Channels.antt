-- What one more entry of a cell changes: its own channels, what it took and what waits in it, and nothing of any other cell.
use Rattle.std.proofs.Common.{◌≡◌, ◌≢◌, ℕ, ◌+◌, ◌<◌, ◌≤◌, ◌==◌, ◌&&◌, nat_lt, Bool, true, false, List, [], ◌∷◌, ◌++◌, length, Option, Some, None, ◌⊎◌, inl, inr, slice_get, if◌then◌else◌, refl, ap, sym, ◌∙◌, subst, arith}
use Rattle.std.proofs.lemmas.Bool.{eqb-true, eq-eqb, and_parts, false_from_ne_true}
use Rattle.std.proofs.lemmas.List.{append-nil}
use Rattle.std.proofs.lemmas.Option.{slice_get_within}
use Rattle.sdg_base.specs.declared.port.Port.{Port}
use Rattle.sdg_base.specs.declared.port.Port.TheVariants as port
use Rattle.sdg_base.specs.declared.item.Item.{Item}
use Rattle.sdg_base.specs.declared.item.Item.TheVariants as item
use Rattle.sdg_base.specs.Ports.{same_port}
use Rattle.sdg_base.proofs.Ports.{same_port-true, same_port-refl}
use Rattle.tagged_agreement.specs.Machine.{Out, Send, Broadcast, ToJoin, Result, Wait, Ignore, each_to, given_to, Ran, Machine, call_of, part_of, Taken, Progress, gathered_after, progress_with, ran_at, progress_after, Parts}
use Rattle.tagged_agreement.specs.History.{cell_takes}
use Rattle.tagged_agreement.proofs.Lists.{bool_cases, last_or_before, still_there, at_end, appended}

-- ---- places

-- an item stands in a channel, from index 0, or waits at the join as a part of a call
pub data Place : Type 0 where
  InChannel : (from to : Port) (index : ℕ) → Place
  Parked : (call number : ℕ) → Place

abbrev pub receiver : Place → Port
receiver (InChannel from to index) = to
receiver (Parked call number) = port.Join

-- it stands there, and was not taken
abbrev pub Stands : {State : Type 0} → (Port → Progress State) → Place → Item → Type 0
Stands cells (InChannel from to index) x = ((cells to).took from ≤ index) × (slice_get ((cells from).gave to) index ≡ Some x)
Stands cells (Parked call number) x = (cells port.Join).gathered call number ≡ Some x

-- where the item that a cell takes next from a port stands
abbrev pub old_place : {State : Type 0} → Port → Port → (Port → Progress State) → Place
old_place own from cells = InChannel from own ((cells own).took from)

-- where the item stands that a cell gives next to a port
abbrev pub new_place : {State : Type 0} → Port → Port → (Port → Progress State) → Place
new_place own to cells = InChannel own to (length ((cells own).gave to))

-- the cells once this one took an item that gave so
abbrev pub stepped : {State : Type 0} → Port → Port → Item → Ran State → (Port → Progress State) → Port → Progress State
stepped own from x ran cells p = if same_port own p then progress_with from x ran (cells p) else cells p

-- ---- the same cell, or another

pub port_cases : (p q : Port) → (p ≡ q) ⊎ (same_port p q ≡ false)
port_cases p q = elim (bool_cases (same_port p q)) [ inl e ↦ inl (same_port-true p q e) | inr e ↦ inr e ]

pub differ : (p q : Port) → same_port p q ≡ false → p ≡ q → ⊥
differ p q apart e = let P : Port → Type 0 = λ r. same_port p r ≡ true in let yes : same_port p q ≡ true = subst P e (same_port-refl p) in absurd cc

same_is : (p q : Port) → p ≡ q → same_port p q ≡ true
same_is p q e = let P : Port → Type 0 = λ r. same_port p r ≡ true in subst P e (same_port-refl p)

pub stepped_own : {State : Type 0} (own from : Port) (x : Item) (ran : Ran State) (cells : Port → Progress State) (p : Port) → own ≡ p → stepped own from x ran cells p ≡ progress_with from x ran (cells p)
stepped_own own from x ran cells p e = ap (λ (b : Bool). if b then progress_with from x ran (cells p) else cells p) (same_is own p e)

pub stepped_other : {State : Type 0} (own from : Port) (x : Item) (ran : Ran State) (cells : Port → Progress State) (p : Port) → same_port own p ≡ false → stepped own from x ran cells p ≡ cells p
stepped_other own from x ran cells p e = ap (λ (b : Bool). if b then progress_with from x ran (cells p) else cells p) e

-- an entry steps the cells by what its item gives
pub entry_steps : {State : Type 0} (m : Machine State) (e : Taken) (cells : Port → Progress State) (p : Port)
    → cell_takes m e p (cells p) ≡ stepped e.cell e.from e.item (ran_at m e (cells e.cell)) cells p
entry_steps m e cells p =
    elim (port_cases e.cell p) [
      | inl same ↦
          let P : Port → Type 0 = λ q. progress_after m e (cells q) ≡ progress_with e.from e.item (ran_at m e (cells e.cell)) (cells q) in
          ap (λ (b : Bool). if b then progress_after m e (cells p) else cells p) (same_is e.cell p same)
          ∙ subst P same refl
          ∙ sym (stepped_own e.cell e.from e.item (ran_at m e (cells e.cell)) cells p same)
      | inr other ↦
          ap (λ (b : Bool). if b then progress_after m e (cells p) else cells p) other
          ∙ sym (stepped_other e.cell e.from e.item (ran_at m e (cells e.cell)) cells p other)
    ]

-- ---- what was given

-- nothing, or one item
pub at_most_one : (out : Out) (p : Port) → (given_to out p ≡ []) ⊎ ((y : Item) × (given_to out p ≡ y ∷ []))
at_most_one out p = cases out p
  where
    by_test : (b : Bool) (x : Item) → ((if b then x ∷ [] else []) ≡ []) ⊎ ((y : Item) × ((if b then x ∷ [] else []) ≡ y ∷ []))
    by_test true x = inr (x, refl)
    by_test false x = inl refl

    each : (field width : ℕ) (x : Item) (p : Port) → (each_to field width x p ≡ []) ⊎ ((y : Item) × (each_to field width x p ≡ y ∷ []))
    each field width x (port.Inst own number) = by_test (field == own && nat_lt number width) x
    each field width x port.Caller = inl refl
    each field width x port.Sink = inl refl
    each field width x port.Front = inl refl
    each field width x port.Join = inl refl
    each field width x (port.Slot f a) = inl refl

    cases : (out : Out) (p : Port) → (given_to out p ≡ []) ⊎ ((y : Item) × (given_to out p ≡ y ∷ []))
    cases (Send to x) p = by_test (same_port to p) x
    cases (Broadcast field width x) p = each field width x p
    cases (ToJoin x) p = by_test (same_port port.Join p) x
    cases (Result x) p = by_test (same_port port.Sink p) x
    cases Wait p = inl refl
    cases Ignore p = inl refl

-- the last part of a call came
abbrev pub IsLast : Item → Out → Type 0
IsLast (item.Part call t width instance turns vars value) Wait = ⊥
IsLast (item.Part call t width instance turns vars value) Ignore = ⊥
IsLast (item.Part call t width instance turns vars value) out = Unit {0}
IsLast x out = ⊥

-- what stood there before stays, unless the last part of its call came
abbrev pub IsKept : Port → Item → Out → Place → Type 0
IsKept own x out (InChannel from to index) = Unit {0}
IsKept own x out (Parked call number) = own ≡ port.Join → IsLast x out → call ≢ call_of x

-- what came to stand there: what the cell gave, or the part that waits
abbrev pub IsNew : {State : Type 0} → Port → Item → Out → (Port → Progress State) → Place → Item → Type 0
IsNew own x out cells (InChannel from to index) y = (from ≡ own) × (given_to out to ≡ y ∷ []) × (index ≡ length ((cells own).gave to))
IsNew own x out cells (Parked call number) y = (own ≡ port.Join) × (out ≡ Wait) × (y ≡ x) × (call ≡ call_of x) × (part_of port.Join x ≡ Some number)

pub record Stayed {State : Type 0} (own from : Port) (x : Item) (out : Out) (cells : Port → Progress State) (place : Place) (y : Item) : Type 0 where
  pub stood : Stands cells place y
  pub not_taken : place ≢ old_place own from cells
  pub kept : IsKept own x out place

given_cases : (out : Out) (p : Port) (gave : List Item) (i : ℕ) (y : Item) → slice_get (gave ++ given_to out p) i ≡ Some y → (slice_get gave i ≡ Some y) ⊎ ((given_to out p ≡ y ∷ []) × (i ≡ length gave))
given_cases out p gave i y e =
    elim (at_most_one out p) [
      | inl none ↦ inl (ap (λ (xs : List Item). slice_get xs i) (sym (append-nil gave)) ∙ ap (λ (xs : List Item). slice_get (gave ++ xs) i) (sym none) ∙ e)
      | inr some ↦
          let h : slice_get (gave ++ some.0 ∷ []) i ≡ Some y = ap (λ (xs : List Item). slice_get (gave ++ xs) i) (sym some.1) ∙ e in
          elim (last_or_before gave some.0 i y h) [
            | inl old ↦ inl old
            | inr new ↦ inr (some.1 ∙ ap (λ (z : Item). z ∷ []) (sym new.1), new.0)
          ]
    ]

taken_at : (b : Bool) (n i : ℕ) → (if b then n + 1 else n) ≤ i → (n ≤ i) × (b ≡ true → n ≡ i → ⊥)
taken_at true n i l = (omega arith, λ _ e. absurd (omega arith))
taken_at false n i l = (l, λ e _. absurd cc)

-- what is ahead now was ahead before, and is not the item that was taken
ahead_before : {State : Type 0} (own from : Port) (x : Item) (ran : Ran State) (cells : Port → Progress State) (sender to : Port) (index : ℕ) → (stepped own from x ran cells to).took sender ≤ index
    → ((cells to).took sender ≤ index) × (InChannel sender to index ≢ old_place own from cells)
ahead_before own from x ran cells sender to index l =
    elim (port_cases own to) [
      | inl same ↦
          let h : (if same_port sender from then (cells to).took sender + 1 else (cells to).took sender) ≤ index =
          let P : Progress _ → Type 0 = λ q. q.took sender ≤ index in subst P (stepped_own own from x ran cells to same) l in
          let parts = taken_at (same_port sender from) ((cells to).took sender) index h in (
            parts.0,
            λ e.
                let is_from : sender ≡ from = cc in
                let is_index : (cells own).took from ≡ index = cc in
                parts.1 (same_is sender from is_from) (ap (λ (q : Port). (cells q).took sender) (sym same) ∙ ap (cells own).took is_from ∙ is_index),
          )
      | inr other ↦
          let P : Progress _ → Type 0 = λ q. q.took sender ≤ index in
          (subst P (stepped_other own from x ran cells to other) l, λ e. let is_to : to ≡ own = cc in differ own to other (sym is_to))
    ]

used_up : {A : Type 0} (c call : ℕ) (old : Option Item) (y : Item) → (if c == call then None else old) ≡ Some y → ((old ≡ Some y) × (Unit {0} → c ≢ call)) ⊎ A
used_up {A = A} c call old y e = go (c == call) refl e
  where
    go : (b : Bool) → (c == call) ≡ b → (if b then None else old) ≡ Some y → ((old ≡ Some y) × (Unit {0} → c ≢ call)) ⊎ A
    go true is e = absurd cc
    go false is e = inl (e, λ _ same. let yes : (c == call) ≡ true = eq-eqb c call same in absurd cc)

not_used_up : (c call : ℕ) (old : Option Item) (y : Item) → c ≢ call → old ≡ Some y → (if c == call then None else old) ≡ Some y
not_used_up c call old y ne e = ap (λ (b : Bool). if b then None else old) (false_from_ne_true (c == call) (λ same. ne (eqb-true c call same))) ∙ e

-- what is gathered now was gathered before and is kept, or is the part that waits
gathered_cases : (x : Item) (out : Out) (gathered : ℕ → Parts) (c number : ℕ) (y : Item) → gathered_after x out gathered c number ≡ Some y
    → ((gathered c number ≡ Some y) × (IsLast x out → c ≢ call_of x)) ⊎ ((out ≡ Wait) × (y ≡ x) × (c ≡ call_of x) × (part_of port.Join x ≡ Some number))
gathered_cases (item.Part call t width instance turns vars value) Wait gathered c number y e = waits (c == call && number == instance) refl e
  where
    waits : (b : Bool) → (c == call && number == instance) ≡ b → (if b then Some (item.Part call t width instance turns vars value) else gathered c number) ≡ Some y
        → ((gathered c number ≡ Some y) × (⊥ → c ≢ call)) ⊎ ((Wait ≡ Wait) × (y ≡ item.Part call t width instance turns vars value) × (c ≡ call) × (Some instance ≡ Some number))
    waits true is e =
        let both = and_parts (c == call) (number == instance) is in
        inr (refl, cc, eqb-true c call both.0, ap Some (sym (eqb-true number instance both.1)))
    waits false is e = inl (e, λ h. absurd h)
gathered_cases (item.Part call t width instance turns vars value) (Send to z) gathered c number y e = used_up c call (gathered c number) y e
gathered_cases (item.Part call t width instance turns vars value) (Broadcast f w z) gathered c number y e = used_up c call (gathered c number) y e
gathered_cases (item.Part call t width instance turns vars value) (ToJoin z) gathered c number y e = used_up c call (gathered c number) y e
gathered_cases (item.Part call t width instance turns vars value) (Result z) gathered c number y e = used_up c call (gathered c number) y e
gathered_cases (item.Part call t width instance turns vars value) Ignore gathered c number y e = inl (e, λ h. absurd h)
gathered_cases (item.Start call m args) out gathered c number y e = inl (e, λ h. absurd h)
gathered_cases (item.Work call t key turns vars) out gathered c number y e = inl (e, λ h. absurd h)
gathered_cases (item.Visit call t w turns vars) out gathered c number y e = inl (e, λ h. absurd h)
gathered_cases (item.Done call o) out gathered c number y e = inl (e, λ h. absurd h)

-- Whatever stands now stood before and was not taken, or came by this entry.
pub stands_before : {State : Type 0} (own from : Port) (x : Item) (ran : Ran State) (cells : Port → Progress State) (place : Place) (y : Item) → Stands (stepped own from x ran cells) place y
    → Stayed own from x ran.out cells place y ⊎ IsNew own x ran.out cells place y
stands_before own from x ran cells (InChannel sender to index) y h =
    let before = ahead_before own from x ran cells sender to index h.0 in
    elim (port_cases own sender) [
      | inl same ↦
          let e : slice_get ((cells sender).gave to ++ given_to ran.out to) index ≡ Some y =
          ap (λ (q : Progress _). slice_get (q.gave to) index) (sym (stepped_own own from x ran cells sender same)) ∙ h.1 in
          elim (given_cases ran.out to ((cells sender).gave to) index y e) [
            | inl old ↦ inl (record { stood = (before.0, old); not_taken = before.1; kept = tt })
            | inr new ↦ inr (sym same, new.0, new.1 ∙ ap (λ (q : Port). length ((cells q).gave to)) (sym same))
          ]
      | inr other ↦
          inl (record {
            stood = (before.0, ap (λ (q : Progress _). slice_get (q.gave to) index) (sym (stepped_other own from x ran cells sender other)) ∙ h.1);
            not_taken = before.1;
            kept = tt;
          })
    ]
stands_before own from x ran cells (Parked c number) y h =
    elim (port_cases own port.Join) [
      | inl same ↦
          let e : gathered_after x ran.out (cells port.Join).gathered c number ≡ Some y =
          ap (λ (q : Progress _). q.gathered c number) (sym (stepped_own own from x ran cells port.Join same)) ∙ h in
          elim (gathered_cases x ran.out (cells port.Join).gathered c number y e) [
            | inl old ↦ inl (record { stood = old.0; not_taken = λ p. absurd cc; kept = λ _ last. old.1 last })
            | inr new ↦ inr (same, new.0, new.1, new.2, new.3)
          ]
      | inr other ↦
          inl (record {
            stood = ap (λ (q : Progress _). q.gathered c number) (sym (stepped_other own from x ran cells port.Join other)) ∙ h;
            not_taken = λ p. absurd cc;
            kept = λ same _. absurd (differ own port.Join other same);
          })
    ]

-- ---- what stays

-- A part that waits stays where another cell took, or another call's part came, or another part of its call waits too.
abbrev pub StaysParked : Port → Item → Out → Place → Type 0
StaysParked own x out (InChannel from to index) = Unit {0}
StaysParked own x out (Parked call number) = own ≡ port.Join → (call ≢ call_of x) ⊎ ((out ≡ Wait) × (part_of port.Join x ≢ Some number))

gathered_still : (x : Item) (out : Out) (gathered : ℕ → Parts) (c number : ℕ) (y : Item) → gathered c number ≡ Some y → (c ≢ call_of x) ⊎ ((out ≡ Wait) × (part_of port.Join x ≢ Some number))
    → gathered_after x out gathered c number ≡ Some y
gathered_still (item.Part call t width instance turns vars value) Wait gathered c number y e h = waits (c == call && number == instance) refl
  where
    waits : (b : Bool) → (c == call && number == instance) ≡ b → (if b then Some (item.Part call t width instance turns vars value) else gathered c number) ≡ Some y
    waits true is =
        let both = and_parts (c == call) (number == instance) is in
        elim h [ inl ne ↦ absurd (ne (eqb-true c call both.0)) | inr other ↦ absurd (other.1 (ap Some (sym (eqb-true number instance both.1)))) ]
    waits false is = e
gathered_still (item.Part call t width instance turns vars value) (Send to z) gathered c number y e h = elim h [ inl ne ↦ not_used_up c call (gathered c number) y ne e | inr other ↦ absurd (let w = other.0 in cc) ]
gathered_still (item.Part call t width instance turns vars value) (Broadcast f w z) gathered c number y e h = elim h [ inl ne ↦ not_used_up c call (gathered c number) y ne e | inr other ↦ absurd (let w = other.0 in cc) ]
gathered_still (item.Part call t width instance turns vars value) (ToJoin z) gathered c number y e h = elim h [ inl ne ↦ not_used_up c call (gathered c number) y ne e | inr other ↦ absurd (let w = other.0 in cc) ]
gathered_still (item.Part call t width instance turns vars value) (Result z) gathered c number y e h = elim h [ inl ne ↦ not_used_up c call (gathered c number) y ne e | inr other ↦ absurd (let w = other.0 in cc) ]
gathered_still (item.Part call t width instance turns vars value) Ignore gathered c number y e h = e
gathered_still (item.Start call m args) out gathered c number y e h = e
gathered_still (item.Work call t key turns vars) out gathered c number y e h = e
gathered_still (item.Visit call t w turns vars) out gathered c number y e h = e
gathered_still (item.Done call o) out gathered c number y e h = e

below : (n i : ℕ) → n ≤ i → (n ≡ i → ⊥) → n + 1 ≤ i
below n i l ne = omega arith

taken_on : (b : Bool) (n i : ℕ) → n ≤ i → (b ≡ true → n ≡ i → ⊥) → (if b then n + 1 else n) ≤ i
taken_on true n i l differs = below n i l (differs refl)
taken_on false n i l differs = l

place_is : {State : Type 0} (cells : Port → Progress State) (own from to sender : Port) (index : ℕ) → own ≡ to → sender ≡ from → (cells to).took sender ≡ index → InChannel sender to index ≡ old_place own from cells
place_is cells own from to sender index e f g =
    ap (λ (i : ℕ). InChannel sender to i) (sym g)
    ∙ ap (λ (q : Port). InChannel sender q ((cells q).took sender)) (sym e)
    ∙ ap (λ (q : Port). InChannel q own ((cells own).took q)) f

-- what was ahead stays ahead, but for the item that was taken
ahead_still : {State : Type 0} (own from : Port) (x : Item) (ran : Ran State) (cells : Port → Progress State) (sender to : Port) (index : ℕ) → (cells to).took sender ≤ index → InChannel sender to index ≢ old_place own from cells
    → (stepped own from x ran cells to).took sender ≤ index
ahead_still own from x ran cells sender to index l ne =
    let P : Progress _ → Type 0 = λ q. q.took sender ≤ index in
    elim (port_cases own to) [
      | inl same ↦
          subst P (sym (stepped_own own from x ran cells to same))
          (taken_on (same_port sender from) ((cells to).took sender) index l (λ f g. ne (place_is cells own from to sender index same (same_port-true sender from f) g)))
      | inr other ↦ subst P (sym (stepped_other own from x ran cells to other)) l
    ]

-- Whatever stood and was not taken still stands.
pub still_stands : {State : Type 0} (own from : Port) (x : Item) (ran : Ran State) (cells : Port → Progress State) (place : Place) (y : Item) → Stands cells place y → place ≢ old_place own from cells → StaysParked own x ran.out place
    → Stands (stepped own from x ran cells) place y
still_stands own from x ran cells (InChannel sender to index) y h ne stays = (
  ahead_still own from x ran cells sender to index h.0 ne,
  elim (port_cases own sender) [
    | inl same ↦
        ap (λ (q : Progress _). slice_get (q.gave to) index) (stepped_own own from x ran cells sender same) ∙ still_there ((cells sender).gave to) (given_to ran.out to) index y h.1
    | inr other ↦ ap (λ (q : Progress _). slice_get (q.gave to) index) (stepped_other own from x ran cells sender other) ∙ h.1
  ],
)
still_stands own from x ran cells (Parked c number) y h ne stays =
    elim (port_cases own port.Join) [
      | inl same ↦
          ap (λ (q : Progress _). q.gathered c number) (stepped_own own from x ran cells port.Join same)
          ∙ gathered_still x ran.out (cells port.Join).gathered c number y h (stays same)
      | inr other ↦ ap (λ (q : Progress _). q.gathered c number) (stepped_other own from x ran cells port.Join other) ∙ h
    ]

-- ---- what comes

-- No cell took more than it was given.
abbrev pub AreBounded : {State : Type 0} → (Port → Progress State) → Type 0
AreBounded cells = (sender to : Port) → (cells to).took sender ≤ length ((cells sender).gave to)

-- where an item was taken the channel does not end
not_last : {State : Type 0} (cells : Port → Progress State) (own from to : Port) (x : Item) → slice_get ((cells from).gave own) ((cells own).took from) ≡ Some x → new_place own to cells ≢ old_place own from cells
not_last cells own from to x given e =
    let is_from : own ≡ from = cc in
    let is_to : to ≡ own = cc in
    let is_index : length ((cells own).gave to) ≡ (cells own).took from = cc in
    let l : (cells own).took from < length ((cells from).gave own) = slice_get_within ((cells from).gave own) ((cells own).took from) x given in
    let same : length ((cells own).gave to) ≡ length ((cells from).gave own) = ap (λ (q : Port). length ((cells own).gave q)) is_to ∙ ap (λ (q : Port). length ((cells q).gave own)) is_from in
    absurd (omega arith)

-- What a cell gives stands at the end of its channel.
pub given_stands : {State : Type 0} (own from : Port) (x : Item) (ran : Ran State) (cells : Port → Progress State) (to : Port) (y : Item) → AreBounded cells → slice_get ((cells from).gave own) ((cells own).took from) ≡ Some x
    → given_to ran.out to ≡ y ∷ [] → Stands (stepped own from x ran cells) (new_place own to cells) y
given_stands own from x ran cells to y bounded given gives = (
  ahead_still own from x ran cells own to (length ((cells own).gave to)) (bounded own to) (not_last cells own from to x given),
  ap (λ (q : Progress _). slice_get (q.gave to) (length ((cells own).gave to))) (stepped_own own from x ran cells own refl)
      ∙ ap (λ (ys : List Item). slice_get ((cells own).gave to ++ ys) (length ((cells own).gave to))) gives
      ∙ at_end ((cells own).gave to) y,
)

-- A part that waits is parked.
pub waits_parked : {State : Type 0} (from : Port) (x : Item) (ran : Ran State) (cells : Port → Progress State) (number : ℕ) → ran.out ≡ Wait → part_of port.Join x ≡ Some number
    → Stands (stepped port.Join from x ran cells) (Parked (call_of x) number) x
waits_parked from x ran cells number waits is_part =
    ap (λ (q : Progress _). q.gathered (call_of x) number) (stepped_own port.Join from x ran cells port.Join refl)
    ∙ ap (λ (o : Out). gathered_after x o (cells port.Join).gathered (call_of x) number) waits
    ∙ parked x (cells port.Join).gathered number is_part
  where
    parked : (x : Item) (gathered : ℕ → Parts) (number : ℕ) → part_of port.Join x ≡ Some number → gathered_after x Wait gathered (call_of x) number ≡ Some x
    parked (item.Part call t width instance turns vars value) gathered number e =
        let same : number ≡ instance = cc in
        ap (λ (b : Bool). if b then Some (item.Part call t width instance turns vars value) else gathered call number) (both call number instance same)
      where
        both : (call number instance : ℕ) → number ≡ instance → (call == call && number == instance) ≡ true
        both call number instance e = ap (λ (b : Bool). b && number == instance) (eq-eqb call call refl) ∙ ap (λ (b : Bool). true && b) (eq-eqb number instance e)
    parked (item.Start call m args) gathered number e = absurd cc
    parked (item.Work call t key turns vars) gathered number e = absurd cc
    parked (item.Visit call t w turns vars) gathered number e = absurd cc
    parked (item.Done call o) gathered number e = absurd cc

-- ---- bounds

same_length : (n : ℕ) → n ≤ n
same_length n = omega arith

reach : (a b c : ℕ) → a ≤ b → b ≤ c → a ≤ c
reach a b c l m = omega arith

gave_longer : {State : Type 0} (own from : Port) (x : Item) (ran : Ran State) (cells : Port → Progress State) (sender to : Port) → length ((cells sender).gave to) ≤ length ((stepped own from x ran cells sender).gave to)
gave_longer own from x ran cells sender to =
    let P : Progress _ → Type 0 = λ q. length ((cells sender).gave to) ≤ length (q.gave to) in
    elim (port_cases own sender) [
      | inl same ↦ subst P (sym (stepped_own own from x ran cells sender same)) (appended ((cells sender).gave to) (given_to ran.out to))
      | inr other ↦ subst P (sym (stepped_other own from x ran cells sender other)) (same_length (length ((cells sender).gave to)))
    ]

within : {State : Type 0} (own from : Port) (cells : Port → Progress State) (x : Item) → slice_get ((cells from).gave own) ((cells own).took from) ≡ Some x
    → (sender to : Port) → own ≡ to → sender ≡ from → (cells to).took sender < length ((cells sender).gave to)
within own from cells x given sender to e f =
    let l : (cells own).took from < length ((cells from).gave own) = slice_get_within ((cells from).gave own) ((cells own).took from) x given in
    let P : Port → Type 0 = λ p. (cells p).took from < length ((cells from).gave p) in
    let Q : Port → Type 0 = λ p. (cells to).took p < length ((cells p).gave to) in
    subst Q (sym f) (subst P e l)

bounded_at : (b : Bool) (n m : ℕ) → n ≤ m → (b ≡ true → n < m) → (if b then n + 1 else n) ≤ m
bounded_at true n m l less = let h : n < m = less refl in omega arith
bounded_at false n m l less = l

pub bounded_still : {State : Type 0} (own from : Port) (x : Item) (ran : Ran State) (cells : Port → Progress State) → slice_get ((cells from).gave own) ((cells own).took from) ≡ Some x
    → AreBounded cells → AreBounded (stepped own from x ran cells)
bounded_still own from x ran cells given bounded sender to =
    let longer = gave_longer own from x ran cells sender to in
    let P : Progress _ → Type 0 = λ q. q.took sender ≤ length ((stepped own from x ran cells sender).gave to) in
    elim (port_cases own to) [
      | inl same ↦
          subst P (sym (stepped_own own from x ran cells to same))
          (reach (if same_port sender from then (cells to).took sender + 1 else (cells to).took sender) (length ((cells sender).gave to)) (length ((stepped own from x ran cells sender).gave to))
          (bounded_at (same_port sender from) ((cells to).took sender) (length ((cells sender).gave to)) (bounded sender to)
          (λ f. within own from cells x given sender to same (same_port-true sender from f)))
          longer)
      | inr other ↦
          subst P (sym (stepped_other own from x ran cells to other))
          (reach ((cells to).took sender) (length ((cells sender).gave to)) (length ((stepped own from x ran cells sender).gave to)) (bounded sender to) longer)
    ]
