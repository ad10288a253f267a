-- What the parts of a cluster that stands for a world read as.
use Rattle.std.proofs.Common.{◌≡◌, ◌≢◌, ℕ, zero, suc, ◌+◌, ◌-◌, ◌<◌, ◌≤◌, List, [], ◌∷◌, length, drop, get_or, Option, Some, None, IsSome, slice_get, Fits, w64, refl, ap, ◌∙◌, sym, subst, arith}
use Rattle.std.proofs.lemmas.Option.{slice_get_within, slice_get_read}
use Rattle.std.specs.Vec.{vec_len}
use Rattle.sdg_base.specs.declared.port.Port.{Port}
use Rattle.sdg_base.specs.declared.port.Port.TheVariants as port
use Rattle.sdg_base.specs.declared.item.Item.{Item}
use Rattle.sdg_base.specs.declared.item.Item.TheVariants as item
use Rattle.sdg_base.specs.declared.item.Line.TheVariants as line
use Rattle.sdg_base.specs.declared.item.Note.TheVariants as note
use Rattle.sdg_base.specs.declared.call.Call.{Call}
use Rattle.sdg_base.specs.declared.call.Step.{Step}
use Rattle.early_tables.specs.States.{State}
use Rattle.placement.specs.declared.event.Header.{Header}
use Rattle.channels.specs.Marks.{mark_of}
use Rattle.channels.specs.Outboxes.{outbox_of}
use Rattle.channels.specs.Sent.{trimmed}
use Rattle.early_task_code.specs.declared.graph.Graph.{Graph}
use Rattle.early_task_code.specs.Machine.{runs}
use Rattle.early_task_code.specs.Progress.{Progress}
use Rattle.early_task_code.specs.Safe.{IsStateOf, IsSafe}
use Rattle.cell_machine.specs.declared.cell.Cell.{Cell}
use Rattle.cell_machine.specs.Held.{state_held}
use Rattle.cluster.specs.declared.cells.PortCell.{PortCell}
use Rattle.cluster.specs.declared.cluster.Cluster.{Cluster}
use Rattle.cluster.specs.declared.past.Past.{Past}
use Rattle.cluster.specs.History.{Setup, Took, shown_entry, starts_from, given_at_start, at_start, call_of}
use Rattle.cluster.specs.World.{World, cell, cells_of, committed, next_item, next_result, entry, last_step}
use Rattle.cluster.specs.Results.{IsEnd}
use Rattle.cluster.specs.Standing.{StandsForCell, StandsFor, IsReady, IsReached, Holds, IsCellOf, IsSenderOf, place_of, past, dropped}
use Rattle.cluster.proofs.Lists.{all_at}
use Rattle.cluster.proofs.Places.{placed, at_place, own_cell, any_cell}
use Rattle.cluster.proofs.Along.{IsOwn}
use Rattle.cluster.proofs.Worlds.{known}
use Rattle.cluster.proofs.Stands.{stands_at}

-- ---- the cell of a port

same_place : (c : Cluster) (s : Setup) (w : World) (p : Port) → StandsFor c s w → place_of c.header.slots p ≡ place_of s.header.slots p
same_place c s w p stands = ap (λ (h : Header). place_of h.slots p) stands.header

pub within_cells : (c : Cluster) (s : Setup) (w : World) (p : Port) (i : ℕ) → StandsFor c s w → IsCellOf s.graph s.header p → i ≡ place_of c.header.slots p → i < vec_len c.cells
within_cells c s w p i stands is e =
    let at = stands_at c s w p stands is in
    let l : place_of s.header.slots p < length c.cells.items = slice_get_within c.cells.items (place_of s.header.slots p) at.held at.there in
    let same : i ≡ place_of s.header.slots p = e ∙ same_place c s w p stands in
    let long : c.cells.len ≡ length c.cells.items = c.cells.ok.0 in
    omega arith

-- the cell that is read at the place of a port
pub record Read (c : Cluster) (s : Setup) (w : World) (p : Port) (held : PortCell) : Type 0 where
  pub there : slice_get c.cells.items (place_of s.header.slots p) ≡ Some held
  pub port_is : held.port ≡ p
  pub stands : StandsForCell held.cell s w p

some_same : {A : Type 0} (x y : A) → Some x ≡ Some y → x ≡ y
some_same x y e = cc

pub read : (c : Cluster) (s : Setup) (w : World) (p : Port) (i : ℕ) (held : PortCell) → StandsFor c s w → IsCellOf s.graph s.header p → i ≡ place_of c.header.slots p
    → held ≡ get_or c.cells.items i held → Read c s w p held
read c s w p i held stands is e at_i =
    let at = stands_at c s w p stands is in
    let l : i < vec_len c.cells = within_cells c s w p i stands is e in
    let place : i ≡ place_of s.header.slots p = e ∙ same_place c s w p stands in
    let there : slice_get c.cells.items (place_of s.header.slots p) ≡ Some held =
    ap (slice_get c.cells.items) (sym place) ∙ slice_get_read c.cells.items c.cells.len i held c.cells.ok.0 l at_i in
    let same : at.held ≡ held = some_same at.held held (sym at.there ∙ there) in
    let P : PortCell → Type 0 = λ h. StandsForCell h.cell s w p in
    record { there = there; port_is = ap (λ (h : PortCell). h.port) (sym same) ∙ at.port_is; stands = subst P same at.stands }

-- A port that is a cell is one in whatever world the cluster stands for.
pub same_cell : (c : Cluster) (s t : Setup) (w v : World) (p : Port) → StandsFor c s w → StandsFor c t v → IsCellOf s.graph s.header p → IsCellOf t.graph t.header p
same_cell c s t w v p stands also is =
    let cells : cells_of s ≡ cells_of t = sym stands.ports ∙ also.ports in
    (placed t (place_of s.header.slots p) p (ap (λ ports. slice_get ports (place_of s.header.slots p)) (sym cells) ∙ at_place s p is)).1

pub sender_cell : (graph : Graph) (header : Header) (p : Port) → IsSenderOf graph header p → p ≢ port.Caller → IsCellOf graph header p
sender_cell graph header port.Caller is other = absurd (other refl)
sender_cell graph header port.Sink is other = is
sender_cell graph header port.Front is other = tt
sender_cell graph header port.Join is other = tt
sender_cell graph header (port.Slot field at) is other = is
sender_cell graph header (port.Inst field number) is other = is

-- ---- the next item

get_drop : {A : Type 0} (n i : ℕ) (xs : List A) → slice_get (drop n xs) i ≡ slice_get xs (n + i)
get_drop zero i [] = refl
get_drop (suc n) i [] = refl
get_drop zero i (x ∷ xs) = let same : i ≡ 0 + i = omega arith in ap (slice_get (x ∷ xs)) same
get_drop (suc n) i (x ∷ xs) = let same : suc (n + i) ≡ suc n + i = omega arith in get_drop n i xs ∙ ap (slice_get (x ∷ xs)) same

-- what is kept for a port, from the first that was not dropped
kept_from : (held : Cell) (s : Setup) (w : World) (p to : Port) (i : ℕ) → StandsForCell held s w p
    → slice_get (outbox_of held.outboxes to).kept i ≡ slice_get ((cell s w p).gave to) (dropped w p to + i)
kept_from held s w p to i stands =
    ap (λ items. slice_get items i) (stands.shows.kept to ∙ ap (λ n. drop n ((cell s w p).gave to)) (stands.dropped to)) ∙ get_drop (dropped w p to) i ((cell s w p).gave to)

pub none_dropped : (w : World) (graph : Graph) (header : Header) (p to : Port) → IsCellOf graph header to → dropped w p to ≡ 0
none_dropped w graph header p port.Caller is = absurd is
none_dropped w graph header p port.Sink is = absurd is
none_dropped w graph header p port.Front is = refl
none_dropped w graph header p port.Join is = refl
none_dropped w graph header p (port.Slot field at) is = refl
none_dropped w graph header p (port.Inst field number) is = absurd is

-- the next item of a cell
pub kept_next : (s : Setup) (w : World) (to from : Port) (taker sender : Cell) (taken : ℕ) → IsCellOf s.graph s.header to → StandsForCell taker s w to → StandsForCell sender s w from
    → taken ≡ mark_of taker.marks from → slice_get (outbox_of sender.outboxes to).kept taken ≡ next_item s w to from
kept_next s w to from taker sender taken is takes sends e =
    let number : dropped w from to + taken ≡ (cell s w to).took from = ap (λ n. n + taken) (none_dropped w s.graph s.header from to is) ∙ (let same : 0 + taken ≡ taken = omega arith in same) ∙ e ∙ takes.shows.took from in
    kept_from sender s w from to taken sends ∙ ap (slice_get ((cell s w from).gave to)) number

-- the next call
pub start_next : (c : Cluster) (s : Setup) (w : World) (to from : Port) (taker : Cell) (taken : ℕ) → Holds c s w → StandsForCell taker s w to → from ≡ port.Caller
    → taken ≡ mark_of taker.marks from → slice_get (given_at_start c.calls port.Caller to) taken ≡ next_item s w to from
start_next c s w to from taker taken holds takes is e =
    let quiet : cell s w port.Caller ≡ at_start s.calls port.Caller = (known s w holds.ready holds.reached).quiet port.Caller (λ h. h) in
    let given : given_at_start c.calls port.Caller to ≡ (cell s w from).gave to =
    ap (λ (calls : List Call). given_at_start calls port.Caller to) holds.stands.calls ∙ ap (λ (p : Progress). p.gave to) (sym quiet) ∙ ap (λ p. (cell s w p).gave to) (sym is) in
    ap (λ items. slice_get items taken) given ∙ ap (slice_get ((cell s w from).gave to)) (e ∙ takes.shows.took from)

-- the next result
pub kept_result : (s : Setup) (w : World) (from : Port) (held : Cell) → StandsForCell held s w from → slice_get (outbox_of held.outboxes port.Sink).kept 0 ≡ next_result s w from
kept_result s w from held stands = kept_from held s w from port.Sink 0 stands ∙ ap (slice_get ((cell s w from).gave port.Sink)) (let same : committed from w.commits + 0 ≡ committed from w.commits = omega arith in same)

-- A result ends a call.
pub result_ends : (s : Setup) (w : World) (from : Port) (x : Item) → IsReady s → IsReached s w → next_result s w from ≡ Some x → IsEnd x
result_ends s w from x ready reached is = all_at IsEnd ((cell s w from).gave port.Sink) (committed from w.commits) x ((known s w ready reached).ends from) is

-- ---- a take goes right

right_of : (graph : Graph) (slots : ℕ) (p : Port) (x : Item) (state : State) → IsOwn p → IsStateOf p state → IsSafe graph slots p x → IsSome (runs graph slots p x state)
right_of graph slots port.Caller x state own kind safe = absurd own
right_of graph slots port.Sink x state own kind safe = absurd own
right_of graph slots port.Front x state own kind safe = subst IsSome (sym (safe 1 state kind).1) refl
right_of graph slots port.Join x state own kind safe = subst IsSome (sym (safe 1 state kind).1) refl
right_of graph slots (port.Slot field at) x state own kind safe = subst IsSome (sym (safe 1 state kind).1) refl
right_of graph slots (port.Inst field number) x state own kind safe = absurd own

pub take_right : (c : Cluster) (s : Setup) (w : World) (graph : Graph) (to from : Port) (x : Item) (held : Cell) → s.graph ≡ graph → Holds c s w → IsCellOf s.graph s.header to
    → next_item s w to from ≡ Some x → StandsForCell held s w to → IsSome (runs graph c.header.slots to x (state_held held.state))
take_right c s w graph to from x held of_graph holds is given stands =
    let a = known s w holds.ready holds.reached in
    let own = own_cell s to is in
    let safe = all_at (IsSafe s.graph s.header.slots to) ((cell s w from).gave to) ((cell s w to).took from) x (a.safe from to) given in
    let base = right_of s.graph s.header.slots to x (cell s w to).state own (a.holds to own) safe in
    let G : Graph → Type 0 = λ g. IsSome (runs g c.header.slots to x (state_held held.state)) in
    let H : Header → Type 0 = λ h. IsSome (runs s.graph h.slots to x (state_held held.state)) in
    let S : State → Type 0 = λ state. IsSome (runs s.graph s.header.slots to x state) in
    subst G of_graph (subst H (sym holds.stands.header) (subst S (sym stands.shows.state) base))

-- the numbers of a cell are below the end of their range
pub record Room (held : Cell) (s : Setup) (w : World) (p : Port) : Type 0 where
  pub position : held.position < last_step
  pub mark : (from : Port) → mark_of held.marks from < last_step
  pub sent : (to : Port) → (outbox_of held.outboxes to).last < last_step

pub room : (s : Setup) (w : World) (p : Port) (held : Cell) → IsReady s → IsReached s w → IsCellOf s.graph s.header p → StandsForCell held s w p → Room held s w p
room s w p held ready reached is stands =
    let a = known s w ready reached in
    let counted : (cell s w p).position ≤ length w.hist = a.counted p in
    let steps : w.next_step ≡ length w.hist + 1 = reached.next_step in
    let range : w.next_step ≤ last_step = reached.in_range in
    record {
      position = (let at : held.position ≡ (cell s w p).position = stands.shows.position in omega arith);
      mark = λ from. (let at : mark_of held.marks from ≡ (cell s w p).took from = stands.shows.took from in let few : (cell s w p).took from ≤ (cell s w p).position = a.taken p from in omega arith);
      sent = λ to. (let at : (outbox_of held.outboxes to).last ≡ length ((cell s w p).gave to) = stands.shows.sent to in let few : length ((cell s w p).gave to) ≤ (cell s w p).position = a.few p (any_cell p (own_cell s p is)) to in omega arith);
    }

-- the number of the next result
pub next_result_fits : (s : Setup) (w : World) (p : Port) (held : Cell) (x : Item) → IsReady s → IsReached s w → IsCellOf s.graph s.header p → StandsForCell held s w p → next_result s w p ≡ Some x
    → trimmed (outbox_of held.outboxes port.Sink) < last_step
next_result_fits s w p held x ready reached is stands given =
    let at : trimmed (outbox_of held.outboxes port.Sink) ≡ committed p w.commits = stands.dropped port.Sink in
    let below : committed p w.commits < length ((cell s w p).gave port.Sink) = slice_get_within ((cell s w p).gave port.Sink) (committed p w.commits) x given in
    let last : (outbox_of held.outboxes port.Sink).last ≡ length ((cell s w p).gave port.Sink) = stands.shows.sent port.Sink in
    let end : (outbox_of held.outboxes port.Sink).last < last_step = (room s w p held ready reached is stands).sent port.Sink in
    below_end at below last end
  where
    below_end : {t c l g most : ℕ} → t ≡ c → c < g → l ≡ g → l < most → t < most
    below_end a b c d = omega arith

pub next_fits : (n t : ℕ) → n ≡ t → t < last_step → Fits w64 (n + 1)
next_fits n t e l = omega arith

pub one_more : (n t : ℕ) → n ≡ t → n + 1 - t ≡ 1
one_more n t e = omega arith

-- ---- the note of an entry

pub past_of : (s : Setup) (w : World) (to from : Port) (pick seq step : ℕ) (x : Item) (sh : Option Step) → seq ≡ (cell s w to).took from + 1 → step ≡ w.next_step → sh ≡ slice_get (shown_entry to (call_of x)) 0
    → (let made : Past = record { line = line.Cell to; note = note.Take (record { from = from; seq = seq; pick = pick; growths = 0; step = step }); shown = sh } in made) ≡ past (Took (entry s w to from pick x))
past_of s w to from pick seq step x sh seq_is step_is sh_is =
    let A : ℕ → Past = λ n. record { line = line.Cell to; note = note.Take (record { from = from; seq = n; pick = pick; growths = 0; step = step }); shown = sh } in
    let B : ℕ → Past = λ n. record { line = line.Cell to; note = note.Take (record { from = from; seq = (cell s w to).took from + 1; pick = pick; growths = 0; step = n }); shown = sh } in
    let C : Option Step → Past = λ o. record { line = line.Cell to; note = note.Take (record { from = from; seq = (cell s w to).took from + 1; pick = pick; growths = 0; step = w.next_step }); shown = o } in
    ap A seq_is ∙ ap B step_is ∙ ap C sh_is

-- ---- the calls

start_at : (n i : ℕ) (calls : List Call) (call : Call) → slice_get calls i ≡ Some call → slice_get (starts_from n calls) i ≡ Some (item.Start (n + i) call.method call.args)
start_at n i [] call e = absurd cc
start_at n zero (first ∷ calls) call e =
    let P : Call → Type 0 = λ d. Some (item.Start n first.method first.args) ≡ Some (item.Start (n + 0) d.method d.args) in
    let same : n ≡ n + 0 = omega arith in
    subst P (some_same first call e) (ap (λ k. Some (item.Start k first.method first.args)) same)
start_at n (suc i) (first ∷ calls) call e = let same : n + 1 + i ≡ n + suc i = omega arith in start_at (n + 1) i calls call e ∙ ap (λ k. Some (item.Start k call.method call.args)) same

no_start_at : (n i : ℕ) (calls : List Call) → slice_get calls i ≡ None → slice_get (starts_from n calls) i ≡ None
no_start_at n i [] e = refl
no_start_at n zero (first ∷ calls) e = absurd cc
no_start_at n (suc i) (first ∷ calls) e = no_start_at (n + 1) i calls e

pub start_given : (calls : List Call) (to : Port) (i : ℕ) (call : Call) → to ≡ port.Front → slice_get calls i ≡ Some call
    → slice_get (given_at_start calls port.Caller to) i ≡ Some (item.Start (i + 1) call.method call.args)
start_given calls to i call is e =
    let same : 1 + i ≡ i + 1 = omega arith in
    ap (λ p. slice_get (given_at_start calls port.Caller p) i) is ∙ start_at 1 i calls call e ∙ ap (λ k. Some (item.Start k call.method call.args)) same

pub no_start_given : (calls : List Call) (to : Port) (i : ℕ) → to ≡ port.Front → slice_get calls i ≡ None → slice_get (given_at_start calls port.Caller to) i ≡ None
no_start_given calls to i is e = ap (λ p. slice_get (given_at_start calls port.Caller p) i) is ∙ no_start_at 1 i calls e
