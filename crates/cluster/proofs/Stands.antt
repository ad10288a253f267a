-- What a cluster stands for after a cell took an item, and after a commit.
use Rattle.std.proofs.Common.{◌≡◌, ◌≢◌, ℕ, zero, suc, ◌+◌, ◌-◌, ◌<◌, ◌≤◌, ◌==◌, Bool, true, false, if◌then◌else◌, List, [], ◌∷◌, ◌++◌, length, map, drop, Option, Some, None, slice_get, slice_set, refl, ap, ◌∙◌, sym, subst, arith, length-drop}
use Rattle.std.specs.Option.{option_map}
use Rattle.std.proofs.lemmas.List.{map-append}
use Rattle.std.proofs.lemmas.Bool.{eqb-true, eq-eqb, false≢true, false_from_ne_true}
use Rattle.std.proofs.lemmas.Option.{slice_get-map, slice_get_within}
use Rattle.sdg_base.specs.declared.port.Port.{Port}
use Rattle.sdg_base.specs.declared.port.Port.TheVariants as port
use Rattle.sdg_base.specs.declared.item.Item.{Item}
use Rattle.sdg_base.specs.declared.item.Item.TheVariants as item
use Rattle.sdg_base.specs.declared.val.Outcome.{Outcome}
use Rattle.sdg_base.specs.Ports.{same_port}
use Rattle.channels.specs.declared.outbox.Outbox.{Outbox}
use Rattle.channels.specs.Outboxes.{outbox_of, SameButAt}
use Rattle.channels.specs.Sent.{trimmed, OutboxUnchanged}
use Rattle.early_task_code.specs.Progress.{Taken, Progress, progress_after}
use Rattle.cell_machine.specs.declared.cell.Cell.{Cell}
use Rattle.cell_machine.specs.Shows.{Shows}
use Rattle.cluster.specs.declared.cells.PortCell.{PortCell}
use Rattle.cluster.specs.declared.cluster.Cluster.{Cluster}
use Rattle.cluster.specs.declared.past.Committed.{Committed}
use Rattle.cluster.specs.History.{Setup, Took}
use Rattle.cluster.specs.World.{World, cell, cells_of, next_item, entry, with_entry, committed, next_result, with_commit, results_of, last_step}
use Rattle.cluster.specs.Standing.{StandsForCell, StandsFor, Holds, IsCellOf, place_of, past, dropped}
use Rattle.cluster.proofs.Lists.{set_same, set_other}
use Rattle.sdg_base.proofs.Ports.{same_port-refl, same_port-true}
use Rattle.cluster.proofs.Places.{placed, at_place, own_cell, any_cell}
use Rattle.cluster.proofs.Worlds.{cell-with_entry, reached-with_entry, results-with_entry, reached-with_commit, results-with_commit, committed-push}

-- ---- the cell of a port

some_of_map : {A B : Type 0} (f : A → B) (o : Option A) (y : B) → option_map f o ≡ Some y → (x : A) × (o ≡ Some x) × (f x ≡ y)
some_of_map f None y e = absurd cc
some_of_map f (Some x) y e = (x, refl, cc)

-- It stands at its place.
pub record StandsAt (c : Cluster) (s : Setup) (w : World) (p : Port) : Type 0 where
  pub held : PortCell
  pub there : slice_get c.cells.items (place_of s.header.slots p) ≡ Some held
  pub port_is : held.port ≡ p
  pub stands : StandsForCell held.cell s w p

pub stands_at : (c : Cluster) (s : Setup) (w : World) (p : Port) → StandsFor c s w → IsCellOf s.graph s.header p → StandsAt c s w p
stands_at c s w p stands is =
    let at = place_of s.header.slots p in
    let among : slice_get (map (λ (held : PortCell). held.port) c.cells.items) at ≡ Some p = ap (λ ports. slice_get ports at) stands.ports ∙ at_place s p is in
    let found = some_of_map (λ (held : PortCell). held.port) (slice_get c.cells.items at) p (sym (slice_get-map (λ (held : PortCell). held.port) c.cells.items at) ∙ among) in
    let P : Port → Type 0 = λ q. StandsForCell found.0.cell s w q in
    record { held = found.0; there = found.1; port_is = found.2; stands = subst P found.2 (stands.cells at found.0 found.1) }

-- Each cell stands at its place.
pub port_at : (c : Cluster) (s : Setup) (w : World) (at : ℕ) (held : PortCell) → StandsFor c s w → slice_get c.cells.items at ≡ Some held
    → slice_get (cells_of s) at ≡ Some held.port
port_at c s w at held stands e =
    ap (λ ports. slice_get ports at) (sym stands.ports) ∙ slice_get-map (λ (held : PortCell). held.port) c.cells.items at ∙ ap (option_map (λ (held : PortCell). held.port)) e

-- ---- one cell changes

map-set : {A B : Type 0} (f : A → B) (xs : List A) (i : ℕ) (x y : A) → slice_get xs i ≡ Some x → f y ≡ f x → map f (slice_set xs i y) ≡ map f xs
map-set f [] i x y e same = refl
map-set f (z ∷ xs) zero x y e same = let z_is : f x ≡ f z = cc in ap (λ b. b ∷ map f xs) (same ∙ z_is)
map-set f (z ∷ xs) (suc i) x y e same = ap (λ bs. f z ∷ bs) (map-set f xs i x y e same)

some_same : {A : Type 0} (x y : A) → Some x ≡ Some y → x ≡ y
some_same x y e = cc

-- what holds of the cell that changed, and of the others
one_changed : (P : PortCell → Type 0) (items : List PortCell) (at : ℕ) (old new : PortCell) → slice_get items at ≡ Some old → P new
    → ((i : ℕ) (h : PortCell) → slice_get items i ≡ Some h → i ≢ at → P h) → (i : ℕ) (h : PortCell) → slice_get (slice_set items at new) i ≡ Some h → P h
one_changed P items at old new there own others i h e = by_place (i == at) (eqb-true i at) (λ (t : (i == at) ≡ false) (same : i ≡ at). false≢true (sym t ∙ eq-eqb i at same))
  where
    by_place : (b : Bool) → (b ≡ true → i ≡ at) → (b ≡ false → i ≢ at) → P h
    by_place true same other =
        let here : slice_get (slice_set items at new) i ≡ Some new = ap (slice_get (slice_set items at new)) (same refl) ∙ set_same items at old new there in
        subst P (some_same new h (sym here ∙ e)) own
    by_place false same other = others i h (sym (set_other items at i new (other refl)) ∙ e) (other refl)

-- The ports of two places differ.
other_port : (c : Cluster) (s : Setup) (w : World) (p : Port) (i : ℕ) (h : PortCell) → StandsFor c s w → slice_get c.cells.items i ≡ Some h → i ≢ place_of s.header.slots p → same_port p h.port ≡ false
other_port c s w p i h stands e other =
    false_from_ne_true (same_port p h.port)
    (λ (t : same_port p h.port ≡ true).
    let place : place_of s.header.slots h.port ≡ i = (placed s i h.port (port_at c s w i h stands e)).0 in
    other (sym place ∙ ap (place_of s.header.slots) (sym (same_port-true p h.port t))))

-- ---- a take

-- the parts of a cluster that a take leaves
pub record LeavesRest (old new : Cluster) : Type 0 where
  pub calls : new.calls ≡ old.calls
  pub header : new.header ≡ old.header
  pub spent : new.spent ≡ old.spent

-- the cell after it took an item
pub record TookItem (s : Setup) (to from : Port) (x : Item) (old new : Cell) : Type 0 where
  pub shows : (p : Progress) (e : Taken) → e.from ≡ from → e.cell ≡ to → e.item ≡ x → Shows old p → Shows new (progress_after s.graph s.header.slots e p)
  pub trimmed : (t : Port) → trimmed (outbox_of new.outboxes t) ≡ trimmed (outbox_of old.outboxes t)

took_cell : (s : Setup) (w : World) (to from : Port) (pick : ℕ) (x : Item) (old new : Cell) → StandsForCell old s w to → TookItem s to from x old new
    → StandsForCell new s (with_entry s w to from pick x) to
took_cell s w to from pick x old new stands took =
    let e = entry s w to from pick x in
    let now : cell s (with_entry s w to from pick x) to ≡ progress_after s.graph s.header.slots e (cell s w to) =
    cell-with_entry s w to from pick x to ∙ ap (λ b. if b then progress_after s.graph s.header.slots e (cell s w to) else cell s w to) (same_port-refl to) in
    record {
      shows = subst (Shows new) (sym now) (took.shows (cell s w to) e refl refl refl stands.shows);
      dropped = λ t. took.trimmed t ∙ stands.dropped t ∙ dropped_same w (with_entry s w to from pick x) to t refl;
    }
  where
    dropped_same : (w v : World) (p t : Port) → v.commits ≡ w.commits → dropped w p t ≡ dropped v p t
    dropped_same w v p port.Sink e = ap (committed p) (sym e)
    dropped_same w v p port.Caller e = refl
    dropped_same w v p port.Front e = refl
    dropped_same w v p port.Join e = refl
    dropped_same w v p (port.Slot field at) e = refl
    dropped_same w v p (port.Inst field number) e = refl

other_cell : (s : Setup) (w : World) (to from : Port) (pick : ℕ) (x : Item) (held : Cell) (p : Port) → same_port to p ≡ false → StandsForCell held s w p
    → StandsForCell held s (with_entry s w to from pick x) p
other_cell s w to from pick x held p other stands =
    let e = entry s w to from pick x in
    let now : cell s (with_entry s w to from pick x) p ≡ cell s w p =
    cell-with_entry s w to from pick x p ∙ ap (λ b. if b then progress_after s.graph s.header.slots e (cell s w p) else cell s w p) other in
    record { shows = subst (Shows held) (sym now) stands.shows; dropped = stands.dropped }

pub holds_after_take : (old new : Cluster) (s : Setup) (w : World) (to from : Port) (pick : ℕ) (x : Item) (held after : PortCell)
    → Holds old s w → IsCellOf s.graph s.header to → w.next_step ≢ last_step → next_item s w to from ≡ Some x
    → slice_get old.cells.items (place_of s.header.slots to) ≡ Some held → new.cells.items ≡ slice_set old.cells.items (place_of s.header.slots to) after
    → after.port ≡ held.port → TookItem s to from x held.cell after.cell
    → LeavesRest old new → new.commits ≡ old.commits → new.next_step ≡ old.next_step + 1 → new.history ≡ old.history ++ past (Took (entry s w to from pick x)) ∷ []
    → Holds new s (with_entry s w to from pick x)
holds_after_take old new s w to from pick x held after holds is goes_on given there cells port_same took rest commits next history =
    let stands = holds.stands in
    let v = with_entry s w to from pick x in
    let at = place_of s.header.slots to in
    let here = stands_at old s w to stands is in
    let held_is : here.held ≡ held = some_same here.held held (sym here.there ∙ there) in
    let held_port : held.port ≡ to = ap (λ (h : PortCell). h.port) (sym held_is) ∙ here.port_is in
    let was : StandsForCell held.cell s w to = (let P : PortCell → Type 0 = λ h. StandsForCell h.cell s w to in subst P held_is here.stands) in
    let own : StandsForCell after.cell s v after.port = (let P : Port → Type 0 = λ p. StandsForCell after.cell s v p in subst P (sym (port_same ∙ held_port)) (took_cell s w to from pick x held.cell after.cell was took)) in
    record {
      ready = holds.ready;
      reached = reached-with_entry s w to from pick x (any_cell to (own_cell s to is)) goes_on given holds.reached;
      stands = record {
        calls = rest.calls ∙ stands.calls;
        header = rest.header ∙ stands.header;
        ports = ap (map (λ (h : PortCell). h.port)) cells ∙ map-set (λ (h : PortCell). h.port) old.cells.items at held after there port_same ∙ stands.ports;
        cells = λ i h e.
            one_changed (λ (h : PortCell). StandsForCell h.cell s v h.port) old.cells.items at held after there own
            (λ (i : ℕ) (h : PortCell) (e : slice_get old.cells.items i ≡ Some h) (other : i ≢ at). other_cell s w to from pick x h.cell h.port (other_port old s w to i h stands e other) (stands.cells i h e))
            i h (ap (λ items. slice_get items i) (sym cells) ∙ e);
        history = history ∙ ap (λ hs. hs ++ past (Took (entry s w to from pick x)) ∷ []) stands.history ∙ sym (map-append past w.hist (Took (entry s w to from pick x) ∷ []));
        commits = ap (map {B = Port × ℕ} (λ (c : Committed). (c.from, c.seq))) commits ∙ stands.commits;
        results = ap (map (λ (c : Committed). (c.shown.call, c.shown.outcome))) commits ∙ stands.results ∙ sym (results-with_entry s w to from pick x holds.reached);
        next_step = next ∙ ap (λ n. n + 1) stands.next_step;
        going = rest.spent ∙ stands.going;
      };
    }

-- ---- a commit

-- the cell after its next result was committed
pub record GaveResult (old new : Cell) : Type 0 where
  pub shows : (p : Progress) → Shows old p → Shows new p
  pub kept : (outbox_of new.outboxes port.Sink).kept ≡ drop 1 (outbox_of old.outboxes port.Sink).kept
  pub others : SameButAt port.Sink old.outboxes new.outboxes

-- one result fewer is kept
one_fewer : (old new : Cell) (p : Progress) (n : ℕ) → Shows old p → Shows new p → (outbox_of new.outboxes port.Sink).kept ≡ drop 1 (outbox_of old.outboxes port.Sink).kept
    → trimmed (outbox_of old.outboxes port.Sink) ≡ n → n < length (p.gave port.Sink) → trimmed (outbox_of new.outboxes port.Sink) ≡ n + 1
one_fewer old new p n was now kept at below =
    let b = outbox_of old.outboxes port.Sink in
    let c = outbox_of new.outboxes port.Sink in
    let last : b.last ≡ length (p.gave port.Sink) = was.sent port.Sink in
    let last_now : c.last ≡ length (p.gave port.Sink) = now.sent port.Sink in
    let long : length c.kept ≡ length b.kept - 1 = ap length kept ∙ length-drop 1 b.kept in
    let trimmed_is : b.last - length b.kept ≡ n = at in
    let within : length b.kept ≤ b.last = b.within in
    omega arith

gave_cell : (s : Setup) (w : World) (from : Port) (x : Item) (old new : Cell) → next_result s w from ≡ Some x → StandsForCell old s w from → GaveResult old new
    → StandsForCell new s (with_commit w from) from
gave_cell s w from x old new is stands gave =
    record { shows = gave.shows (cell s w from) stands.shows; dropped = after }
  where
    other : (t : Port) → t ≢ port.Sink → trimmed (outbox_of new.outboxes t) ≡ trimmed (outbox_of old.outboxes t)
    other t ne = let same = gave.others t ne in ap2_trimmed (outbox_of old.outboxes t) (outbox_of new.outboxes t) same
      where
        ap2_trimmed : (a b : Outbox) → OutboxUnchanged a b → trimmed b ≡ trimmed a
        ap2_trimmed a b u = ap (λ n. n - length b.kept) u.last ∙ ap (λ ks. a.last - length ks) u.kept

    after : (t : Port) → trimmed (outbox_of new.outboxes t) ≡ dropped (with_commit w from) from t
    after port.Sink =
        one_fewer old new (cell s w from) (committed from w.commits) stands.shows (gave.shows (cell s w from) stands.shows) gave.kept (stands.dropped port.Sink) (slice_get_within _ _ x is)
        ∙ sym (committed-push from from (committed from w.commits + 1) w.commits ∙ ap (λ b. if b then committed from w.commits + 1 else committed from w.commits) (same_port-refl from))
    after port.Caller = other port.Caller (λ e. cc) ∙ stands.dropped port.Caller
    after port.Front = other port.Front (λ e. cc) ∙ stands.dropped port.Front
    after port.Join = other port.Join (λ e. cc) ∙ stands.dropped port.Join
    after (port.Slot field at) = other (port.Slot field at) (λ e. cc) ∙ stands.dropped (port.Slot field at)
    after (port.Inst field number) = other (port.Inst field number) (λ e. cc) ∙ stands.dropped (port.Inst field number)

other_gave : (s : Setup) (w : World) (from : Port) (held : Cell) (p : Port) → same_port from p ≡ false → StandsForCell held s w p → StandsForCell held s (with_commit w from) p
other_gave s w from held p other stands = record { shows = stands.shows; dropped = after }
  where
    after : (t : Port) → trimmed (outbox_of held.outboxes t) ≡ dropped (with_commit w from) p t
    after port.Sink =
        stands.dropped port.Sink
        ∙ sym (committed-push p from (committed from w.commits + 1) w.commits ∙ ap (λ b. if b then committed p w.commits + 1 else committed p w.commits) other)
    after port.Caller = stands.dropped port.Caller
    after port.Front = stands.dropped port.Front
    after port.Join = stands.dropped port.Join
    after (port.Slot field at) = stands.dropped (port.Slot field at)
    after (port.Inst field number) = stands.dropped (port.Inst field number)

pub holds_after_commit : (old new : Cluster) (s : Setup) (w : World) (from : Port) (call : ℕ) (outcome : Outcome) (held after : PortCell) (made : Committed)
    → Holds old s w → IsCellOf s.graph s.header from → next_result s w from ≡ Some (item.Done call outcome)
    → slice_get old.cells.items (place_of s.header.slots from) ≡ Some held → new.cells.items ≡ slice_set old.cells.items (place_of s.header.slots from) after
    → after.port ≡ held.port → GaveResult held.cell after.cell
    → LeavesRest old new → new.history ≡ old.history → new.next_step ≡ old.next_step → new.commits ≡ old.commits ++ made ∷ []
    → made.from ≡ from → made.seq ≡ committed from w.commits + 1 → made.shown.call ≡ call → made.shown.outcome ≡ outcome
    → Holds new s (with_commit w from)
holds_after_commit old new s w from call outcome held after made holds is given there cells port_same gave rest history next commits made_from made_seq made_call made_outcome =
    let stands = holds.stands in
    let v = with_commit w from in
    let at = place_of s.header.slots from in
    let here = stands_at old s w from stands is in
    let held_is : here.held ≡ held = some_same here.held held (sym here.there ∙ there) in
    let held_port : held.port ≡ from = ap (λ (h : PortCell). h.port) (sym held_is) ∙ here.port_is in
    let was : StandsForCell held.cell s w from = (let P : PortCell → Type 0 = λ h. StandsForCell h.cell s w from in subst P held_is here.stands) in
    let own : StandsForCell after.cell s v after.port = (let P : Port → Type 0 = λ p. StandsForCell after.cell s v p in subst P (sym (port_same ∙ held_port)) (gave_cell s w from (item.Done call outcome) held.cell after.cell given was gave)) in
    record {
      ready = holds.ready;
      reached = reached-with_commit s w from (item.Done call outcome) given holds.reached;
      stands = record {
        calls = rest.calls ∙ stands.calls;
        header = rest.header ∙ stands.header;
        ports = ap (map (λ (h : PortCell). h.port)) cells ∙ map-set (λ (h : PortCell). h.port) old.cells.items at held after there port_same ∙ stands.ports;
        cells = λ i h e.
            one_changed (λ (h : PortCell). StandsForCell h.cell s v h.port) old.cells.items at held after there own
            (λ (i : ℕ) (h : PortCell) (e : slice_get old.cells.items i ≡ Some h) (other : i ≢ at). other_gave s w from h.cell h.port (other_port old s w from i h stands e other) (stands.cells i h e))
            i h (ap (λ items. slice_get items i) (sym cells) ∙ e);
        history = history ∙ stands.history;
        commits =
            ap (map {B = Port × ℕ} (λ (c : Committed). (c.from, c.seq))) commits
            ∙ map-append {B = Port × ℕ} (λ (c : Committed). (c.from, c.seq)) old.commits (made ∷ [])
            ∙ ap (λ cs. cs ++ (made.from, made.seq) ∷ []) stands.commits
            ∙ ap (λ (c : Port × ℕ). w.commits ++ c ∷ []) (pair_is made.from from made.seq (committed from w.commits + 1) made_from made_seq);
        results =
            ap (map (λ (c : Committed). (c.shown.call, c.shown.outcome))) commits
            ∙ map-append {B = ℕ × Outcome} (λ (c : Committed). (c.shown.call, c.shown.outcome)) old.commits (made ∷ [])
            ∙ ap (λ cs. cs ++ (made.shown.call, made.shown.outcome) ∷ []) stands.results
            ∙ ap (λ (c : ℕ × Outcome). results_of s w ++ c ∷ []) (pair_is made.shown.call call made.shown.outcome outcome made_call made_outcome)
            ∙ sym (results-with_commit s w from call outcome given);
        next_step = next ∙ stands.next_step;
        going = rest.spent ∙ stands.going;
      };
    }
  where
    pair_is : {A B : Type 0} (a b : A) (c d : B) → a ≡ b → c ≡ d → (let pair : A × B = (a, c) in pair) ≡ (b, d)
    pair_is a b c d e f = cc
