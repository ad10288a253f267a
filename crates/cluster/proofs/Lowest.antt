-- The lowest offer, found by going through the cells in port order.
use Rattle.std.proofs.Common.{◌≡◌, ◌≢◌, ℕ, zero, suc, ◌+◌, ◌-◌, ◌<◌, ◌≤◌, ◌==◌, min, Bool, true, false, if◌then◌else◌, List, [], ◌∷◌, ◌++◌, length, drop, take, get_or, sum_by, Option, Some, None, slice_get, refl, ap, ◌∙◌, sym, arith, length-drop}
use Rattle.std.specs.List.{filter_map, flat_map}
use Rattle.std.specs.Option.{option_map}
use Rattle.std.specs.Vec.{vec_len}
use Rattle.std.proofs.lemmas.Bool.{eq-eqb, eqb-true}
use Rattle.std.proofs.lemmas.List.{length-map}
use Rattle.std.proofs.lemmas.List.Sums.{sum_by-append}
use Rattle.std.proofs.lemmas.Option.{slice_get-get_or}
use Rattle.sdg_base.specs.declared.port.Port.{Port}
use Rattle.sdg_base.specs.declared.port.Port.TheVariants as port
use Rattle.sdg_base.specs.declared.item.Item.{Item}
use Rattle.channels.specs.Outboxes.{outbox_of}
use Rattle.cell_machine.specs.declared.cell.Cell.{Cell}
use Rattle.cluster.specs.declared.cells.PortCell.{PortCell}
use Rattle.cluster.specs.declared.cluster.Cluster.{Cluster}
use Rattle.cluster.specs.History.{Setup, call_of}
use Rattle.cluster.specs.World.{World, Offer, offer, lowest_from, lowest, offers, cell_offer, sink_offer, cells_of, cell, next_item, last_step}
use Rattle.cluster.specs.Beginning.{port_in}
use Rattle.cluster.specs.Standing.{StandsForCell, StandsFor, IsCellOf, place_of, dropped}
use Rattle.cluster.specs.Offering.{lower_of}
use Rattle.cluster.proofs.Places.{placed}
use Rattle.cluster.proofs.Offers.{lowest_from-append, lowest_from-cons_option, drop_at}
use Rattle.cluster.proofs.Reading.{Read, read, none_dropped}

some_same : {A : Type 0} (x y : A) → Some x ≡ Some y → x ≡ y
some_same x y e = cc

-- what a cell may take, from each port
abbrev pub taken_by : Setup → World → Port → List Offer
taken_by s w to = filter_map (cell_offer s w to) (port.Caller ∷ cells_of s)

-- ---- the cells by place

-- as many cells as the setup has
pub cells_long : (c : Cluster) (s : Setup) (w : World) → StandsFor c s w → length (cells_of s) ≡ vec_len c.cells
cells_long c s w stands = ap length (sym stands.ports) ∙ length-map c.cells.items port_in ∙ sym c.cells.ok.0

-- a cell stands at each place
pub port_there : (c : Cluster) (s : Setup) (w : World) (i : ℕ) → StandsFor c s w → i < vec_len c.cells → (p : Port) × (slice_get (cells_of s) i ≡ Some p)
port_there c s w i stands l =
    let long : length (cells_of s) ≡ vec_len c.cells = cells_long c s w stands in
    (get_or (cells_of s) i port.Front, slice_get-get_or (cells_of s) i port.Front (omega arith))

pub read_at : (c : Cluster) (s : Setup) (w : World) (i : ℕ) (p : Port) (held : PortCell) → StandsFor c s w → slice_get (cells_of s) i ≡ Some p → held ≡ get_or c.cells.items i held → Read c s w p held
read_at c s w i p held stands e at_i =
    let is = placed s i p e in
    let place : i ≡ place_of c.header.slots p = sym (is.0) ∙ sym (ap (λ h. place_of h.slots p) stands.header) in
    read c s w p i held stands is.1 place at_i

-- ---- one offer more

-- past the offer of one port
pub lowest-next : (f : Port → Option Offer) (xs : List Port) (i : ℕ) (p : Port) (best next all : Option Offer) → slice_get xs i ≡ Some p → next ≡ f p
    → lowest_from best (filter_map f (drop i xs)) ≡ all → lowest_from (lower_of best next) (filter_map f (drop (i + 1) xs)) ≡ all
lowest-next f xs i p best next all e is so_far =
    ap (λ o. lowest_from (lower_of best o) (filter_map f (drop (i + 1) xs))) is
    ∙ sym (lowest_from-cons_option best (f p) (filter_map f (drop (i + 1) xs)))
    ∙ ap (λ ys. lowest_from best (filter_map f ys)) (sym (drop_at xs i p e)) ∙ so_far

-- past the offers of one port
pub lowest-rest : (g : Port → List Offer) (xs : List Port) (i : ℕ) (p : Port) (best next all : Option Offer) → slice_get xs i ≡ Some p → next ≡ lowest_from best (g p)
    → lowest_from best (flat_map g (drop i xs)) ≡ all → lowest_from next (flat_map g (drop (i + 1) xs)) ≡ all
lowest-rest g xs i p best next all e is so_far =
    ap (λ o. lowest_from o (flat_map g (drop (i + 1) xs))) is
    ∙ sym (lowest_from-append best (g p) (flat_map g (drop (i + 1) xs)))
    ∙ ap (λ ys. lowest_from best (flat_map g ys)) (sym (drop_at xs i p e)) ∙ so_far

drop_past : {A : Type 0} (n : ℕ) (xs : List A) → length xs ≤ n → drop n xs ≡ []
drop_past n [] l = drop_none n
  where
    drop_none : {A : Type 0} (n : ℕ) → drop {A = A} n [] ≡ []
    drop_none zero = refl
    drop_none (suc n) = refl
drop_past zero (x ∷ xs) l = absurd (omega arith)
drop_past (suc n) (x ∷ xs) l = drop_past n xs (omega arith)

pub lowest-end : (f : Port → Option Offer) (xs : List Port) (i : ℕ) (best all : Option Offer) → length xs ≤ i → lowest_from best (filter_map f (drop i xs)) ≡ all → best ≡ all
lowest-end f xs i best all l so_far = ap (λ ys. lowest_from best (filter_map f ys)) (sym (drop_past i xs l)) ∙ so_far

pub lowest-rest_end : (g : Port → List Offer) (xs : List Port) (i : ℕ) (best all : Option Offer) → length xs ≤ i → lowest_from best (flat_map g (drop i xs)) ≡ all → best ≡ all
lowest-rest_end g xs i best all l so_far = ap (λ ys. lowest_from best (flat_map g ys)) (sym (drop_past i xs l)) ∙ so_far

-- the results, and then the items for cells
pub lowest-offers : (s : Setup) (w : World) (best : Option Offer) → best ≡ lowest_from None (filter_map (sink_offer s w) (cells_of s)) → lowest_from best (flat_map (taken_by s w) (cells_of s)) ≡ lowest (offers s w)
lowest-offers s w best is =
    ap (λ o. lowest_from o (flat_map (taken_by s w) (cells_of s))) is ∙ sym (lowest_from-append None (filter_map (sink_offer s w) (cells_of s)) (flat_map (taken_by s w) (cells_of s)))

-- ---- what is offered

pub cell_offer-last : (s : Setup) (w : World) (to from : Port) → w.next_step ≡ last_step → cell_offer s w to from ≡ None
cell_offer-last s w to from e = ap (λ (b : Bool). if b then None else offer to from (next_item s w to from)) (eq-eqb w.next_step last_step e)

not_same : (b : Bool) (n m : ℕ) → (b ≡ true → n ≡ m) → n ≢ m → b ≡ false
not_same true n m same other = absurd (other (same refl))
not_same false n m same other = refl

pub cell_offer-on : (s : Setup) (w : World) (to from : Port) → w.next_step ≢ last_step → cell_offer s w to from ≡ offer to from (next_item s w to from)
cell_offer-on s w to from ne =
    ap (λ (b : Bool). if b then None else offer to from (next_item s w to from)) (not_same (w.next_step == last_step) w.next_step last_step (eqb-true w.next_step last_step) ne)

-- the offer of an item
pub offer_of : (call : ℕ) (to from p q : Port) (x : Item) (next : Option Item) → call ≡ call_of x → p ≡ to → q ≡ from → next ≡ Some x
    → (let made : Offer = record { call = call; to = p; from = q } in Some made) ≡ offer to from next
offer_of call to from p q x next call_is to_is from_is next_is =
    let C : ℕ → Option Offer = λ n. Some (record { call = n; to = p; from = q }) in
    let T : Port → Option Offer = λ t. Some (record { call = call_of x; to = t; from = q }) in
    let F : Port → Option Offer = λ f. Some (record { call = call_of x; to = to; from = f }) in
    ap C call_is ∙ ap T to_is ∙ ap F from_is ∙ sym (ap (offer to from) next_is)

pub no_offer : (to from : Port) (next : Option Item) → next ≡ None → None ≡ offer to from next
no_offer to from next is = sym (ap (offer to from) is)

-- the offer of an item of which the call is known
pub offer_of_call : (call : ℕ) (to p : Port) (next : Option Item) → option_map call_of next ≡ Some call → p ≡ to
    → (let made : Offer = record { call = call; to = p; from = port.Caller } in Some made) ≡ offer to port.Caller next
offer_of_call call to p None is to_is = absurd cc
offer_of_call call to p (Some x) is to_is = offer_of call to port.Caller p port.Caller x (Some x) (sym (some_same (call_of x) call is)) to_is refl refl

pub no_offer_of_call : (to : Port) (next : Option Item) → option_map call_of next ≡ None → None ≡ offer to port.Caller next
no_offer_of_call to None is = refl
no_offer_of_call to (Some x) is = absurd cc

-- ---- what is kept

take_next : {A : Type 0} (xs : List A) (i : ℕ) (x : A) → slice_get xs i ≡ Some x → take (i + 1) xs ≡ take i xs ++ x ∷ []
take_next [] i x e = absurd cc
take_next (y ∷ xs) zero x e = ap (λ z. z ∷ []) (some_same y x e)
take_next (y ∷ xs) (suc i) x e = let same : suc i + 1 ≡ suc (i + 1) = omega arith in ap (λ n. take n (y ∷ xs)) same ∙ ap (λ ys. y ∷ ys) (take_next xs i x e)

pub sum_by-next : {A : Type 0} (f : A → ℕ) (xs : List A) (i : ℕ) (x : A) → slice_get xs i ≡ Some x → sum_by f (take (i + 1) xs) ≡ sum_by f (take i xs) + f x
sum_by-next f xs i x e =
    let one : sum_by f (x ∷ []) ≡ f x = omega arith in
    ap (sum_by f) (take_next xs i x e) ∙ sum_by-append f (take i xs) (x ∷ []) ∙ ap (λ n. sum_by f (take i xs) + n) one

pub min_first : (k x most : ℕ) → k ≡ x → k < most + 1 → k ≡ min (x + 0) most
min_first k x most a b = omega arith

pub min_next : (k n base sum next x most r : ℕ) → k ≡ min (base + sum) most → n ≡ x → next ≡ sum + x → r ≡ min (k + n) most → r ≡ min (base + next) most
min_next k n base sum next x most r a b c d = omega arith

pub min_next_of : (k n base sum next x most r : ℕ) → k ≡ min (base + sum) most → n ≡ min x most → next ≡ sum + x → r ≡ min (k + n) most → r ≡ min (base + next) most
min_next_of k n base sum next x most r a b c d = omega arith

pub take_past : {A : Type 0} (n : ℕ) (xs : List A) → length xs ≤ n → take n xs ≡ xs
take_past n [] l = take_none n
  where
    take_none : {A : Type 0} (n : ℕ) → take {A = A} n [] ≡ []
    take_none zero = refl
    take_none (suc n) = refl
take_past zero (x ∷ xs) l = absurd (omega arith)
take_past (suc n) (x ∷ xs) l = ap (λ ys. x ∷ ys) (take_past n xs (omega arith))

-- as many items are kept as were given and not dropped
pub length-kept : (held : Cell) (s : Setup) (w : World) (p to : Port) → StandsForCell held s w p → length (outbox_of held.outboxes to).kept ≡ length ((cell s w p).gave to) - dropped w p to
length-kept held s w p to stands =
    ap length (stands.shows.kept to ∙ ap (λ n. drop n ((cell s w p).gave to)) (stands.dropped to)) ∙ length-drop (dropped w p to) ((cell s w p).gave to)

pub length-kept_for : (held : Cell) (s : Setup) (w : World) (p to : Port) → StandsForCell held s w p → IsCellOf s.graph s.header to → length (outbox_of held.outboxes to).kept ≡ length ((cell s w p).gave to)
length-kept_for held s w p to stands is =
    let none : dropped w p to ≡ 0 = none_dropped w s.graph s.header p to is in
    let all : length (outbox_of held.outboxes to).kept ≡ length ((cell s w p).gave to) - dropped w p to = length-kept held s w p to stands in
    omega arith
