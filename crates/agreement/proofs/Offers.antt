-- Which items are offered, and which of them is taken next.
use Rattle.std.proofs.Common.{◌≡◌, ℕ, zero, suc, ◌+◌, ◌<◌, ◌≤◌, Bool, true, false, ◌==◌, List, [], ◌∷◌, map, length, Option, Some, None, ◌⊎◌, inl, inr, if◌then◌else◌, refl, ap, sym, ◌∙◌, subst, arith}
use Rattle.std.specs.Prelude.{nat_lt}
use Rattle.std.specs.List.{flat_map, filter_map}
use Rattle.sdg_base.specs.declared.port.Port.{Port}
use Rattle.sdg_base.specs.declared.port.Port.TheVariants as port
use Rattle.sdg_base.specs.declared.item.Item.{Item}
use Rattle.java_tree.specs.declared.tree.Class.{Class}
use Rattle.early_source.specs.Members.{fields}
use Rattle.placement.specs.declared.event.Event.TheVariants as event
use Rattle.placement.specs.declared.event.Word.TheVariants as word
use Rattle.cluster.specs.History.{Setup, call_of, IsCell}
use Rattle.cluster.specs.World.{World, last_step, next_item, with_entry, take_item, next_result, with_commit, commit_item, event_of, numbers_from, cells_of, Offer, offer, cell_offer, sink_offer, offers, lower, lowest_from, lowest, pick_of, take_event, after_offer, drained_for}
use Rattle.agreement.proofs.Invariant.{IsIn, IsSender}
use Rattle.agreement.proofs.Membership.{Among, among_left, among_right, among_either, among_map, among_flat, in_flat, in_filter, among_filter, among_numbers}

-- ---- the lowest of some offers

lower_cases_at : (b : Bool) (best o : Offer) → ((if b then Some o else Some best) ≡ Some best) ⊎ ((if b then Some o else Some best) ≡ Some o)
lower_cases_at true best o = inr refl
lower_cases_at false best o = inl refl

-- the best so far stays, or the offer takes its place
lower_cases : (best o : Offer) → (lower (Some best) o ≡ Some best) ⊎ (lower (Some best) o ≡ Some o)
lower_cases best o = lower_cases_at (nat_lt o.call best.call) best o

lowest_found : (best : Offer) (os : List Offer) → (r : Offer) × (lowest_from (Some best) os ≡ Some r) × ((r ≡ best) ⊎ Among r os)
lowest_found best [] = (best, refl, inl refl)
lowest_found best (o ∷ os) =
    elim (lower_cases best o) [
      | inl stays ↦ let r = lowest_found best os in
          (r.0, ap (λ (b : Option Offer). lowest_from b os) stays ∙ r.1, elim r.2 [ inl e ↦ inl e | inr m ↦ inr (inr m) ])
      | inr taken ↦ let r = lowest_found o os in
          (r.0, ap (λ (b : Option Offer). lowest_from b os) taken ∙ r.1, elim r.2 [ inl e ↦ inr (inl e) | inr m ↦ inr (inr m) ])
    ]

-- The lowest is one of them.
pub lowest_among : (os : List Offer) (o : Offer) → lowest os ≡ Some o → Among o os
lowest_among [] o e = absurd cc
lowest_among (x ∷ os) o e =
    let r = lowest_found x os in
    let same : r.0 ≡ o = let h : ◌≡◌ {A = Option Offer} (Some r.0) (Some o) = sym r.1 ∙ e in cc in
    elim r.2 [ inl is ↦ inl (sym same ∙ is) | inr m ↦ inr (let P : Offer → Type 0 = λ y. Among y os in subst P same m) ]

-- Where there is none, nothing is offered.
pub none_offered : (os : List Offer) (o : Offer) → lowest os ≡ None → Among o os → ⊥
none_offered [] o e m = m
none_offered (x ∷ os) o e m = let r = lowest_found x os in let h : ◌≡◌ {A = Option Offer} (Some r.0) None = sym r.1 ∙ e in absurd cc

-- ---- the cells of a cluster

pub front_is_cell : (s : Setup) → Among port.Front (cells_of s)
front_is_cell s = inl refl

pub in_cells : (s : Setup) (class : Class) (p : Port) → length s.graph.fields ≡ length (fields class) → IsIn class s.header.slots p → Among p (cells_of s)
in_cells s class port.Front e h = inl refl
in_cells s class port.Caller e h = absurd h
in_cells s class port.Sink e h = absurd h
in_cells s class port.Join e h = absurd h
in_cells s class (port.Inst f n) e h = absurd h
in_cells s class (port.Slot f at) e h =
    inr (inr (among_flat (λ field. map (λ n. port.Slot field n) (numbers_from 0 s.header.slots)) f (port.Slot f at) (numbers_from 0 (length s.graph.fields))
    (among_numbers 0 (length s.graph.fields) f (least f) (below f (length (fields class)) (length s.graph.fields) h.0 (sym e)))
    (among_map (λ n. port.Slot f n) at (numbers_from 0 s.header.slots) (among_numbers 0 s.header.slots at (least at) (plain at s.header.slots h.1)))))
  where
    least : (n : ℕ) → 0 ≤ n
    least n = omega arith

    below : (f a b : ℕ) → f < a → a ≡ b → f < 0 + b
    below f a b l e = omega arith

    plain : (f a : ℕ) → f < a → f < 0 + a
    plain f a l = omega arith

pub in_senders : (s : Setup) (class : Class) (p : Port) → length s.graph.fields ≡ length (fields class) → IsSender class s.header.slots p → Among p (port.Caller ∷ cells_of s)
in_senders s class port.Caller e h = inl refl
in_senders s class port.Sink e h = absurd h
in_senders s class port.Front e h = inr (in_cells s class port.Front e h)
in_senders s class port.Join e h = absurd h
in_senders s class (port.Slot f at) e h = inr (in_cells s class (port.Slot f at) e h)
in_senders s class (port.Inst f n) e h = absurd h

among_slots : (p : Port) (field : ℕ) (ns : List ℕ) → Among p (map (λ n. port.Slot field n) ns) → IsCell p
among_slots p field [] h = absurd h
among_slots p field (n ∷ ns) (inl e) = let P : Port → Type 0 = IsCell in subst P (sym e) tt
among_slots p field (n ∷ ns) (inr h) = among_slots p field ns h

pub cell_is_cell : (s : Setup) (p : Port) → Among p (cells_of s) → IsCell p
cell_is_cell s p (inl e) = let P : Port → Type 0 = IsCell in subst P (sym e) tt
cell_is_cell s p (inr (inl e)) = let P : Port → Type 0 = IsCell in subst P (sym e) tt
cell_is_cell s p (inr (inr h)) =
    let r = in_flat (λ field. map (λ n. port.Slot field n) (numbers_from 0 s.header.slots)) p (numbers_from 0 (length s.graph.fields)) h in
    among_slots p r.0 (numbers_from 0 s.header.slots) r.2

-- ---- what is offered

-- the next result of a cell
pub result_offered : (s : Setup) (w : World) (from : Port) (x : Item) → Among from (cells_of s) → next_result s w from ≡ Some x
    → Among (record { call = call_of x; to = port.Sink; from = from }) (offers s w)
result_offered s w from x m e = among_left _ (filter_map (sink_offer s w) (cells_of s)) _ (among_filter (sink_offer s w) from _ (cells_of s) m (ap (offer port.Sink from) e))

offer_at : (s : Setup) (w : World) (to from : Port) (x : Item) → (w.next_step == last_step) ≡ false → next_item s w to from ≡ Some x
    → cell_offer s w to from ≡ Some (record { call = call_of x; to = to; from = from })
offer_at s w to from x going e = ap (λ (b : Bool). if b then None else offer to from (next_item s w to from)) going ∙ ap (offer to from) e

-- the next item of a channel between cells
pub item_offered : (s : Setup) (w : World) (to from : Port) (x : Item) → (w.next_step == last_step) ≡ false → Among to (cells_of s) → Among from (port.Caller ∷ cells_of s) → next_item s w to from ≡ Some x
    → Among (record { call = call_of x; to = to; from = from }) (offers s w)
item_offered s w to from x going m n e =
    among_right _ (filter_map (sink_offer s w) (cells_of s)) _
    (among_flat (λ t. filter_map (cell_offer s w t) (port.Caller ∷ cells_of s)) to _ (cells_of s) m
    (among_filter (cell_offer s w to) from _ (port.Caller ∷ cells_of s) n (offer_at s w to from x going e)))

-- what an offer is of: a result that is committed next, or an item that a cell takes next
pub record OfResult (s : Setup) (w : World) (o : Offer) : Type 0 where
  pub x : Item
  pub is : next_result s w o.from ≡ Some x
  pub of_call : o.call ≡ call_of x
  pub to_sink : o.to ≡ port.Sink
  pub from_in : Among o.from (cells_of s)

pub record OfItem (s : Setup) (w : World) (o : Offer) : Type 0 where
  pub x : Item
  pub is : next_item s w o.to o.from ≡ Some x
  pub of_call : o.call ≡ call_of x
  pub going : (w.next_step == last_step) ≡ false
  pub is_cell : IsCell o.to
  pub to_in : Among o.to (cells_of s)
  pub from_in : Among o.from (port.Caller ∷ cells_of s)

offer_is : (to from : Port) (x : Option Item) (o : Offer) → offer to from x ≡ Some o → (y : Item) × (x ≡ Some y) × (o ≡ record { call = call_of y; to = to; from = from })
offer_is to from None o e = absurd cc
offer_is to from (Some x) o e = (x, refl, offer_same to from x o e)
  where
    offer_same : (to from : Port) (x : Item) (o : Offer) → offer to from (Some x) ≡ Some o → o ≡ record { call = call_of x; to = to; from = from }
    offer_same to from x o e = cc

open_offer : (b : Bool) (x : Option Offer) (o : Offer) → (if b then None else x) ≡ Some o → (b ≡ false) × (x ≡ Some o)
open_offer true x o e = absurd cc
open_offer false x o e = (refl, e)

pub offered_is : (s : Setup) (w : World) (o : Offer) → Among o (offers s w) → OfResult s w o ⊎ OfItem s w o
offered_is s w o m =
    elim (among_either o (filter_map (sink_offer s w) (cells_of s)) (flat_map (λ to. filter_map (cell_offer s w to) (port.Caller ∷ cells_of s)) (cells_of s)) m) [
      | inl r ↦
          let f = in_filter (sink_offer s w) o (cells_of s) r in
          let g = offer_is port.Sink f.0 (next_result s w f.0) o f.2 in
          let P : Offer → Type 0 = OfResult s w in
          inl (subst P (sym g.2) (record { x = g.0; is = g.1; of_call = refl; to_sink = refl; from_in = f.1 }))
      | inr r ↦
          let t = in_flat (λ to. filter_map (cell_offer s w to) (port.Caller ∷ cells_of s)) o (cells_of s) r in
          let f = in_filter (cell_offer s w t.0) o (port.Caller ∷ cells_of s) t.2 in
          let c = open_offer (w.next_step == last_step) (offer t.0 f.0 (next_item s w t.0 f.0)) o f.2 in
          let g = offer_is t.0 f.0 (next_item s w t.0 f.0) o c.1 in
          let P : Offer → Type 0 = OfItem s w in
          inr (subst P (sym g.2) (record { x = g.0; is = g.1; of_call = refl; going = c.0; is_cell = cell_is_cell s t.0 t.1; to_in = t.1; from_in = f.1 }))
    ]

-- ---- what becomes of it

pub commits_it : (s : Setup) (w : World) (o : Offer) (r : OfResult s w o) → after_offer s w (Some o) ≡ with_commit w o.from
commits_it s w o r =
    ap (λ (p : Port). (event_of s w (take_event o p)).0) r.to_sink ∙ ap (λ (x : Option Item). (commit_item w o.from x).0) r.is

takes_at : (s : Setup) (w : World) (o : Offer) (to : Port) → IsCell to → take_event o to ≡ event.Take to o.from (pick_of o.call)
takes_at s w o port.Caller h = absurd h
takes_at s w o port.Sink h = absurd h
takes_at s w o port.Front h = refl
takes_at s w o port.Join h = refl
takes_at s w o (port.Slot f n) h = refl
takes_at s w o (port.Inst f n) h = refl

pub takes_it : (s : Setup) (w : World) (o : Offer) (r : OfItem s w o) → after_offer s w (Some o) ≡ with_entry s w o.to o.from (pick_of o.call) r.x
takes_it s w o r =
    ap (λ e. (event_of s w e).0) (takes_at s w o o.to r.is_cell)
    ∙ ap (λ (b : Bool). (if b then (w, word.Held) else take_item s w o.to o.from (pick_of o.call) (next_item s w o.to o.from)).0) r.going
    ∙ ap (λ (x : Option Item). (take_item s w o.to o.from (pick_of o.call) x).0) r.is

-- Where nothing is offered, nothing happens any more.
pub idle : (s : Setup) (w : World) (n : ℕ) → lowest (offers s w) ≡ None → drained_for n s w ≡ w
idle s w zero e = refl
idle s w (suc n) e = ap (λ (o : Option Offer). drained_for n s (after_offer s w o)) e ∙ idle s w n e
