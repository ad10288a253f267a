-- One call changes: a cell took one of its items. Every other call stays in its places.
use Rattle.std.proofs.Common.{◌≡◌, ◌≢◌, ℕ, ◌≤◌, false, List, length, Option, Some, inl, inr, slice_get, ap, sym, ◌∙◌, subst, arith, true}
use Rattle.std.proofs.lemmas.Option.{same_Some}
use Rattle.sdg_base.specs.declared.val.Outcome.{Outcome}
use Rattle.sdg_base.specs.declared.port.Port.{Port}
use Rattle.sdg_base.specs.declared.port.Port.TheVariants as port
use Rattle.sdg_base.specs.declared.item.Item.{Item}
use Rattle.sdg_base.specs.Ports.{same_port}
use Rattle.sdg_base.proofs.Ports.{same_port-other}
use Rattle.tagged_agreement.specs.Machine.{Ran, call_of, part_of, Progress}
use Rattle.tagged_agreement.specs.History.{Setup, IsCell}
use Rattle.tagged_agreement.specs.Source.{CallState, Visiting, Program, Source, nth}
use Rattle.tagged_agreement.specs.Simulation.{Piece, port_of, Reading}
use Rattle.tagged_agreement.proofs.Lists.{number_cases}
use Rattle.tagged_agreement.proofs.Channels.{port_cases, stepped_own, Place, InChannel, Parked, receiver, Stands, old_place, stepped, stepped_other, Stayed, IsNew, AreBounded, stands_before, still_stands, bounded_still}
use Rattle.tagged_agreement.proofs.Invariant.{IsOpen, IsTagged, IsInChannel, HasPart, Present, Awaits, Fits, InPlace, Agreement}

itself : (n : ℕ) → n ≤ n
itself n = omega arith

-- ---- cells that are stepped

abbrev pub AreStepped : {State : Type 0} → Port → Port → Item → Ran State → (cells cells' : Port → Progress State) → Type 0
AreStepped own from x ran cells cells' = (q : Port) → cells' q ≡ stepped own from x ran cells q

pub as_stepped : {State : Type 0} (own from : Port) (x : Item) (ran : Ran State) (cells cells' : Port → Progress State) → AreStepped own from x ran cells cells' → (at : Place) (y : Item) → Stands cells' at y → Stands (stepped own from x ran cells) at y
as_stepped own from x ran cells cells' steps (InChannel sender to index) y h = (
  (let P : Progress _ → Type 0 = λ q. q.took sender ≤ index in subst P (steps to) h.0),
  ap (λ (q : Progress _). slice_get (q.gave to) index) (sym (steps sender)) ∙ h.1,
)
as_stepped own from x ran cells cells' steps (Parked c number) y h = ap (λ (q : Progress _). q.gathered c number) (sym (steps port.Join)) ∙ h

pub from_stepped : {State : Type 0} (own from : Port) (x : Item) (ran : Ran State) (cells cells' : Port → Progress State) → AreStepped own from x ran cells cells' → (at : Place) (y : Item) → Stands (stepped own from x ran cells) at y → Stands cells' at y
from_stepped own from x ran cells cells' steps (InChannel sender to index) y h = (
  (let P : Progress _ → Type 0 = λ q. q.took sender ≤ index in subst P (sym (steps to)) h.0),
  ap (λ (q : Progress _). slice_get (q.gave to) index) (steps sender) ∙ h.1,
)
from_stepped own from x ran cells cells' steps (Parked c number) y h = ap (λ (q : Progress _). q.gathered c number) (steps port.Join) ∙ h

not_the_sink : (widths : ℕ → ℕ) (q : Port) → IsCell widths q → same_port q port.Sink ≡ false
not_the_sink widths port.Caller h = absurd h
not_the_sink widths port.Sink h = absurd h
not_the_sink widths port.Front h = same_port-other port.Front port.Sink (λ e. absurd cc)
not_the_sink widths port.Join h = same_port-other port.Join port.Sink (λ e. absurd cc)
not_the_sink widths (port.Slot f n) h = same_port-other (port.Slot f n) port.Sink (λ e. absurd cc)
not_the_sink widths (port.Inst f n) h = same_port-other (port.Inst f n) port.Sink (λ e. absurd cc)

-- two items at one place are one
pub same_item : {State : Type 0} (cells : Port → Progress State) (at : Place) (x y : Item) → Stands cells at x → Stands cells at y → x ≡ y
same_item cells (InChannel from to index) x y h k = same_Some x y (sym h.1 ∙ k.1)
same_item cells (Parked c number) x y h k = same_Some x y (sym h ∙ k)

module _ {State Waiting Fields Contents : Type 0} (s : Setup State) (p : Program Waiting Fields) (r : Reading State Fields Contents) (Agrees : Item → Waiting → Type 0) where
  -- what came by an entry is of the same call, and in place
  pub record Came (widths : ℕ → ℕ) (place : ℕ → Option ℕ → Place) (c : ℕ) (state : CallState Waiting) (at : Place) (y : Item) : Type 0 where
    pub of_call : call_of y ≡ c
    pub tagged : IsTagged at y
    pub is_open : IsOpen widths at
    pub placed : place c (part_of (receiver at) y) ≡ at
    pub fits : Fits s p r Agrees (receiver at) y c state

  -- What is given for a change.
  pub record Change (cells cells' : Port → Progress State) (widths : ℕ → ℕ) (src src' : Source Waiting Fields) (place place' : ℕ → Option ℕ → Place) (own from : Port) (x : Item) : Type 0 where
    pub given : slice_get ((cells from).gave own) ((cells own).took from) ≡ Some x
    pub is_cell : IsCell widths own
    pub ran : Ran State
    pub steps : AreStepped own from x ran cells cells'
    pub values : (piece : Piece) → r.held (cells' (port_of s piece)).state piece ≡ r.value src'.fields piece
    pub as_wide : p.width src'.fields ≡ widths
    pub kind : r.is_kind own ran.state ≡ true
    pub whole : r.is_whole src'.fields ≡ true
    pub state : CallState Waiting
    pub is_state : nth src'.calls (call_of x) ≡ Some state
    pub other_states : (c : ℕ) → c ≢ call_of x → nth src'.calls c ≡ nth src.calls c
    pub as_many : length src'.calls ≡ length src.calls
    pub other_places : (c : ℕ) (part : Option ℕ) → c ≢ call_of x → place' c part ≡ place c part
    pub stayed : (at : Place) (y : Item) → Stayed own from x ran.out cells at y → call_of y ≡ call_of x
        → (place' (call_of x) (part_of (receiver at) y) ≡ at) × Fits s p r Agrees (receiver at) y (call_of x) state
    pub came : (at : Place) (y : Item) → IsNew own x ran.out cells at y → Came widths place' (call_of x) state at y
    pub present : (part : Option ℕ) → HasPart state part → Present cells' place' (call_of x) part
    pub awaits : (w : Waiting) (visited : List (Option Outcome)) → state ≡ Visiting w visited → Awaits place' (call_of x) visited

  came_in_place : (widths : ℕ → ℕ) (src : Source Waiting Fields) (place : ℕ → Option ℕ → Place) (c : ℕ) (state : CallState Waiting) (at : Place) (y : Item) → nth src.calls c ≡ Some state
      → Came widths place c state at y → InPlace s p r Agrees widths src place at y
  came_in_place widths src place c state at y is_state came =
      let P : ℕ → Type 0 = λ d. (place d (part_of (receiver at) y) ≡ at) × (nth src.calls d ≡ Some state) × Fits s p r Agrees (receiver at) y d state in
      let h : P (call_of y) = subst P (sym came.of_call) (came.placed, is_state, came.fits) in
      record { placed = h.0; tagged = came.tagged; is_open = came.is_open; state = state; is_state = h.1; fits = h.2 }

  items_after : (cells cells' : Port → Progress State) (widths : ℕ → ℕ) (src src' : Source Waiting Fields) (place place' : ℕ → Option ℕ → Place) (own from : Port) (x : Item)
      → Agreement s p r Agrees cells widths src place → Change cells cells' widths src src' place place' own from x
      → (at : Place) (y : Item) → Stands cells' at y → InPlace s p r Agrees widths src' place' at y
  items_after cells cells' widths src src' place place' own from x a ch at y h =
      elim (stands_before own from x ch.ran cells at y (as_stepped own from x ch.ran cells cells' ch.steps at y h)) [
        | inl stayed ↦
            let old = a.items at y stayed.stood in
            elim (number_cases (call_of y) (call_of x)) [
              | inl same ↦
                  let both = ch.stayed at y stayed same in
                  came_in_place widths src' place' (call_of x) ch.state at y ch.is_state (record { of_call = same; tagged = old.tagged; is_open = old.is_open; placed = both.0; fits = both.1 })
              | inr ne ↦ record {
                placed = ch.other_places (call_of y) (part_of (receiver at) y) ne ∙ old.placed;
                tagged = old.tagged;
                is_open = old.is_open;
                state = old.state;
                is_state = ch.other_states (call_of y) ne ∙ old.is_state;
                fits = old.fits;
              }
            ]
        | inr new ↦ came_in_place widths src' place' (call_of x) ch.state at y ch.is_state (ch.came at y new)
      ]

  -- what another call has parked stays
  parks : (own : Port) (x : Item) (out : _) (at : Place) (y : Item) → IsTagged at y → call_of y ≢ call_of x → Rattle.tagged_agreement.proofs.Channels.StaysParked own x out at
  parks own x out (InChannel sender to index) y tagged ne = tt
  parks own x out (Parked c number) y tagged ne = λ _. inl (λ e. ne (tagged.0 ∙ e))

  present_after : (cells cells' : Port → Progress State) (widths : ℕ → ℕ) (src src' : Source Waiting Fields) (place place' : ℕ → Option ℕ → Place) (own from : Port) (x : Item)
      → Agreement s p r Agrees cells widths src place → Change cells cells' widths src src' place place' own from x
      → (c : ℕ) (state : CallState Waiting) (part : Option ℕ) → nth src'.calls c ≡ Some state → HasPart state part → Present cells' place' c part
  present_after cells cells' widths src src' place place' own from x a ch c state part is_state has =
      elim (number_cases c (call_of x)) [
        | inl same ↦
            let e : state ≡ ch.state = same_Some state ch.state (sym is_state ∙ ap (nth src'.calls) same ∙ ch.is_state) in
            let P : ℕ → Type 0 = λ d. Present cells' place' d part in
            let Q : CallState Waiting → Type 0 = λ st. HasPart st part in
            subst P (sym same) (ch.present part (subst Q e has))
        | inr ne ↦
            let old = a.present c state part (sym (ch.other_states c ne) ∙ is_state) has in
            let at = place c part in
            let ne_call : call_of old.it ≢ call_of x = λ e. ne (sym old.of_call ∙ e) in
            let not_old : at ≢ old_place own from cells = λ e.
            let stands : Stands cells (old_place own from cells) old.it = let P : Place → Type 0 = λ q. Stands cells q old.it in subst P e old.stands in
            ne_call (ap call_of (same_item cells (old_place own from cells) old.it x stands (itself ((cells own).took from), ch.given))) in
            let still = still_stands own from x ch.ran cells at old.it old.stands not_old (parks own x ch.ran.out at old.it (a.items at old.it old.stands).tagged ne_call) in
            let here = from_stepped own from x ch.ran cells cells' ch.steps at old.it still in
            let P : Place → Type 0 = λ q. Stands cells' q old.it × (part_of (receiver q) old.it ≡ part) in
            let moved : P (place' c part) = subst P (sym (ch.other_places c part ne)) (here, old.of_part) in
            record { it = old.it; stands = moved.0; of_call = old.of_call; of_part = moved.1 }
      ]

  awaits_after : (cells cells' : Port → Progress State) (widths : ℕ → ℕ) (src src' : Source Waiting Fields) (place place' : ℕ → Option ℕ → Place) (own from : Port) (x : Item)
      → Agreement s p r Agrees cells widths src place → Change cells cells' widths src src' place place' own from x
      → (c : ℕ) (w : Waiting) (visited : List (Option Outcome)) → nth src'.calls c ≡ Some (Visiting w visited) → Awaits place' c visited
  awaits_after cells cells' widths src src' place place' own from x a ch c w visited is_state =
      elim (number_cases c (call_of x)) [
        | inl same ↦
            let e : ch.state ≡ Visiting w visited = same_Some ch.state (Visiting w visited) (sym ch.is_state ∙ ap (nth src'.calls) (sym same) ∙ is_state) in
            let P : ℕ → Type 0 = λ d. Awaits place' d visited in
            subst P (sym same) (ch.awaits w visited e)
        | inr ne ↦
            let old = a.awaits c w visited (sym (ch.other_states c ne) ∙ is_state) in
            let P : Place → Type 0 = λ q. IsInChannel q in
            record { number = old.number; below = old.below; ahead = subst P (sym (ch.other_places c (Some old.number) ne)) old.ahead }
      ]

  kinds_after : (cells cells' : Port → Progress State) (own from : Port) (x : Item) (ran : Ran State) → AreStepped own from x ran cells cells' → r.is_kind own ran.state ≡ true → ((q : Port) → r.is_kind q (cells q).state ≡ true)
      → (q : Port) → r.is_kind q (cells' q).state ≡ true
  kinds_after cells cells' own from x ran steps kind kinds q =
      elim (port_cases own q) [
        | inl same ↦
            ap (λ (now : Progress State). r.is_kind q now.state) (steps q ∙ stepped_own own from x ran cells q same)
            ∙ ap (λ (at : Port). r.is_kind at ran.state) (sym same)
            ∙ kind
        | inr other ↦ ap (λ (now : Progress State). r.is_kind q now.state) (steps q ∙ stepped_other own from x ran cells q other) ∙ kinds q
      ]

  pub change_agrees : (cells cells' : Port → Progress State) (widths : ℕ → ℕ) (src src' : Source Waiting Fields) (place place' : ℕ → Option ℕ → Place) (own from : Port) (x : Item)
      → Agreement s p r Agrees cells widths src place → Change cells cells' widths src src' place place' own from x
      → Agreement s p r Agrees cells' widths src' place'
  change_agrees cells cells' widths src src' place place' own from x a ch = record {
    values = ch.values;
    as_wide = ch.as_wide;
    some = a.some;
    kinds = kinds_after cells cells' own from x ch.ran ch.steps ch.kind a.kinds;
    whole = ch.whole;
    sink = λ sender. ap (λ (q : Progress _). q.took sender) (ch.steps port.Sink ∙ stepped_other own from x ch.ran cells port.Sink (not_the_sink widths own ch.is_cell)) ∙ a.sink sender;
    bounded = λ sender to.
        (let P : Progress _ → Type 0 = λ q. q.took sender ≤ length ((cells' sender).gave to) in subst P (sym (ch.steps to))
        (let Q : Progress _ → Type 0 = λ q. (stepped own from x ch.ran cells to).took sender ≤ length (q.gave to) in subst Q (sym (ch.steps sender))
        (bounded_still own from x ch.ran cells ch.given a.bounded sender to)));
    as_many = ch.as_many ∙ a.as_many;
    items = items_after cells cells' widths src src' place place' own from x a ch;
    present = present_after cells cells' widths src src' place place' own from x a ch;
    awaits = awaits_after cells cells' widths src src' place place' own from x a ch;
  }
