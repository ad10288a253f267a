-- After a run an item is kept for each step of its history.
use Rattle.std.proofs.Common.{◌≡◌, ◌≢◌, ℕ, zero, suc, ◌+◌, ◌-◌, ◌^◌, ◌<◌, ◌≤◌, Bool, true, false, ◌==◌, List, [], ◌∷◌, length, map, Some, None, inl, inr, slice_get, if◌then◌else◌, refl, ap, sym, ◌∙◌, subst, arith, length-append}
use Rattle.std.specs.Prelude.{sum_by}
use Rattle.std.specs.List.{flat_map}
use Rattle.std.proofs.lemmas.List.Sums.{sum_by-cons}
use Rattle.sdg_base.specs.declared.call.Call.{Call}
use Rattle.sdg_base.specs.declared.port.Port.{Port}
use Rattle.sdg_base.specs.declared.port.Port.TheVariants as port
use Rattle.sdg_base.specs.declared.item.Item.{Item}
use Rattle.sdg_base.specs.Ports.{same_port}
use Rattle.sdg_base.proofs.Ports.{same_port-refl, same_port-other}
use Rattle.java_tree.specs.declared.tree.Class.{Class}
use Rattle.early_source.specs.Members.{fields}
use Rattle.early_source.specs.Source.{CallState, Source, start, nth}
use Rattle.placement.specs.declared.event.Event.{Event}
use Rattle.early_task_code.specs.Progress.{Taken, Progress}
use Rattle.cluster.specs.History.{Setup, Happening, Took, at_start, starts_from, starts, given_at_start, after_entry, after_happening, after_all, Follows, IsHistoryFrom, call_of, shown, shown_entry, steps_of}
use Rattle.cluster.specs.World.{World, first_world, cell, last_step, committed, after_events, numbers_from, cells_of, offers, lowest, most_events, world_of, kept_by, kept}
use Rattle.cluster.specs.Standing.{IsCellOf, place_of}
use Rattle.cluster.proofs.Places.{placed, at_place}
use Rattle.agreement.specs.Simulation.{Simulation}
use Rattle.agreement.specs.Results.{AreEnoughSteps}
use Rattle.agreement.specs.Kept.{KeepsItsSteps}
use Rattle.agreement.proofs.Invariant.{Spot, IsIn, IsSender, Agreement}
use Rattle.agreement.proofs.Moves.{moved_place, new_spot, now_after}
use Rattle.agreement.proofs.Histories.{AllFit, first_place, start_agrees, flight_of, entry_advances, entry_moves}
use Rattle.agreement.proofs.Membership.{Among, in_flat}
use Rattle.agreement.proofs.Offers.{none_offered, result_offered}
use Rattle.agreement.proofs.Standings.{Standing}
use Rattle.agreement.proofs.Completion.{nth_within, there, Completed}
use Rattle.agreement.proofs.Outcomes.{AreForCells, run_completes}
use Rattle.agreement.proofs.Again.{nothing_to_take, goes_on, InSteps, first_in_steps, events_in_steps, drained_in_steps}

-- ---- sums

-- sums over what is the same are the same
same_sum : {A : Type 0} (f g : A → ℕ) (xs : List A) → ((x : A) → Among x xs → f x ≡ g x) → sum_by f xs ≡ sum_by g xs
same_sum f g [] same = refl
same_sum f g (x ∷ xs) same =
    both (sum_by f (x ∷ xs)) (sum_by g (x ∷ xs)) (f x) (g x) (sum_by f xs) (sum_by g xs) (sum_by-cons f x xs) (sum_by-cons g x xs) (same x (inl refl)) (same_sum f g xs (λ y m. same y (inr m)))
  where
    both : (s t a b c d : ℕ) → s ≡ a + c → t ≡ b + d → a ≡ b → c ≡ d → s ≡ t
    both s t a b c d e f same rest = omega arith

no_sum : {A : Type 0} (f : A → ℕ) (xs : List A) → ((x : A) → Among x xs → f x ≡ 0) → sum_by f xs ≡ 0
no_sum f [] none = refl
no_sum f (x ∷ xs) none = both (sum_by f (x ∷ xs)) (f x) (sum_by f xs) (sum_by-cons f x xs) (none x (inl refl)) (no_sum f xs (λ y m. none y (inr m)))
  where
    both : (s a c : ℕ) → s ≡ a + c → a ≡ 0 → c ≡ 0 → s ≡ 0
    both s a c e first rest = omega arith

among_at : {A : Type 0} (x : A) (xs : List A) → Among x xs → (i : ℕ) × (slice_get xs i ≡ Some x)
among_at x [] m = absurd m
among_at x (y ∷ xs) (inl e) = (0, ap (λ z. Some z) (sym e))
among_at x (y ∷ xs) (inr m) = let r = among_at x xs m in (suc r.0, r.1)

-- Where one is raised by one and all others stay, so is the sum.
raised : {A : Type 0} (f g : A → ℕ) (xs : List A) (i : ℕ) (x : A) → slice_get xs i ≡ Some x → g x ≡ f x + 1 → ((j : ℕ) (y : A) → j ≢ i → slice_get xs j ≡ Some y → g y ≡ f y)
    → sum_by g xs ≡ sum_by f xs + 1
raised f g [] i x at more same = absurd cc
raised {A} f g (z ∷ xs) zero x at more same =
    let is : z ≡ x = cc in
    let P : A → Type 0 = λ y. g y ≡ f y + 1 in
    first (sum_by g (z ∷ xs)) (sum_by f (z ∷ xs)) (g z) (f z) (sum_by g xs) (sum_by f xs) (sum_by-cons g z xs) (sum_by-cons f z xs) (subst P (sym is) more)
    (same_sum g f xs (λ y m. let r = among_at y xs m in same (suc r.0) y (λ e. absurd cc) r.1))
  where
    first : (s t a b c d : ℕ) → s ≡ a + c → t ≡ b + d → a ≡ b + 1 → c ≡ d → s ≡ t + 1
    first s t a b c d e f more rest = omega arith
raised f g (z ∷ xs) (suc i) x at more same =
    later (sum_by g (z ∷ xs)) (sum_by f (z ∷ xs)) (g z) (f z) (sum_by g xs) (sum_by f xs) (sum_by-cons g z xs) (sum_by-cons f z xs) (same 0 z (λ e. absurd cc) refl)
    (raised f g xs i x at more (λ j y ne e. same (suc j) y (λ s. ne (let same : j ≡ i = cc in same)) e))
  where
    later : (s t a b c d : ℕ) → s ≡ a + c → t ≡ b + d → a ≡ b → c ≡ d + 1 → s ≡ t + 1
    later s t a b c d e f first more = omega arith

-- what stands at one place alone
abbrev StandOnce : {A : Type 0} → List A → Type 0
StandOnce {A} xs = (i j : ℕ) (x : A) → slice_get xs i ≡ Some x → slice_get xs j ≡ Some x → i ≡ j

raised_once : {A : Type 0} (f g : A → ℕ) (xs : List A) (x : A) → StandOnce xs → ((i : ℕ) × (slice_get xs i ≡ Some x)) → g x ≡ f x + 1 → ((y : A) → y ≢ x → g y ≡ f y)
    → sum_by g xs ≡ sum_by f xs + 1
raised_once {A} f g xs x once at more same =
    raised f g xs at.0 x at.1 more (λ j y ne e. same y (λ is. ne (once j at.0 x (let P : A → Type 0 = λ z. slice_get xs j ≡ Some z in subst P is e) at.1)))

-- ---- cells and senders

cells_once : (s : Setup) → StandOnce (cells_of s)
cells_once s i j p at also = sym (placed s i p at).0 ∙ (placed s j p also).0

no_caller : (s : Setup) (i : ℕ) → slice_get (cells_of s) i ≡ Some port.Caller → ⊥
no_caller s i at = (placed s i port.Caller at).1

senders_once : (s : Setup) → StandOnce (port.Caller ∷ cells_of s)
senders_once s zero zero p at also = refl
senders_once s zero (suc j) p at also = let is : port.Caller ≡ p = cc in absurd (no_caller s j (also ∙ ap (λ (q : Port). Some q) (sym is)))
senders_once s (suc i) zero p at also = let is : port.Caller ≡ p = cc in absurd (no_caller s i (at ∙ ap (λ (q : Port). Some q) (sym is)))
senders_once s (suc i) (suc j) p at also = ap suc (cells_once s i j p at also)

cell_of : (s : Setup) (class : Class) (p : Port) → length s.graph.fields ≡ length (fields class) → IsIn class s.header.slots p → IsCellOf s.graph s.header p
cell_of s class port.Caller as_many is = absurd is
cell_of s class port.Sink as_many is = absurd is
cell_of s class port.Front as_many is = tt
cell_of s class port.Join as_many is = absurd is
cell_of s class (port.Slot field at) as_many is = (below field (length (fields class)) (length s.graph.fields) as_many is.0, is.1)
  where
    below : (f n m : ℕ) → m ≡ n → f < n → f < m
    below f n m e l = omega arith
cell_of s class (port.Inst field at) as_many is = absurd is

cell_at : (s : Setup) (class : Class) (p : Port) → length s.graph.fields ≡ length (fields class) → IsIn class s.header.slots p → (i : ℕ) × (slice_get (cells_of s) i ≡ Some p)
cell_at s class p as_many is = (place_of s.header.slots p, at_place s p (cell_of s class p as_many is))

sender_at : (s : Setup) (class : Class) (p : Port) → length s.graph.fields ≡ length (fields class) → IsSender class s.header.slots p → (i : ℕ) × (slice_get (port.Caller ∷ cells_of s) i ≡ Some p)
sender_at s class port.Caller as_many is = (0, refl)
sender_at s class port.Sink as_many is = absurd is
sender_at s class port.Front as_many is = let r = cell_at s class port.Front as_many is in (suc r.0, r.1)
sender_at s class port.Join as_many is = absurd is
sender_at s class (port.Slot field at) as_many is = let r = cell_at s class (port.Slot field at) as_many is in (suc r.0, r.1)
sender_at s class (port.Inst field at) as_many is = absurd is

-- ---- how much was taken

-- how many items of a port cells took
abbrev taken_of : Setup → (Port → Progress) → Port → ℕ
taken_of s cells from = sum_by (λ to. (cells to).took from) (cells_of s)

abbrev taken : Setup → (Port → Progress) → ℕ
taken s cells = sum_by (taken_of s cells) (port.Caller ∷ cells_of s)

one_if : (b : Bool) (n : ℕ) → b ≡ true → (if b then n + 1 else n) ≡ n + 1
one_if true n e = refl
one_if false n e = absurd cc

none_if : (b : Bool) (n : ℕ) → b ≡ false → (if b then n + 1 else n) ≡ n
none_if true n e = absurd cc
none_if false n e = refl

after_own : (s : Setup) (e : Taken) (cells : Port → Progress) → (after_entry s e cells e.cell).took e.from ≡ (cells e.cell).took e.from + 1
after_own s e cells = own_if (same_port e.cell e.cell) (same_port-refl e.cell) _ _ ∙ one_if (same_port e.from e.from) ((cells e.cell).took e.from) (same_port-refl e.from)
  where
    own_if : (b : Bool) → b ≡ true → (x y : Progress) → (if b then x else y).took e.from ≡ x.took e.from
    own_if true is x y = refl
    own_if false is x y = absurd cc

after_other : (s : Setup) (e : Taken) (cells : Port → Progress) (to from : Port) → to ≢ e.cell → (after_entry s e cells to).took from ≡ (cells to).took from
after_other s e cells to from other = other_if (same_port e.cell to) (same_port-other e.cell to (λ is. other (sym is))) _ _
  where
    other_if : (b : Bool) → b ≡ false → (x y : Progress) → (if b then x else y).took from ≡ y.took from
    other_if true is x y = absurd cc
    other_if false is x y = refl

after_elsewhere : (s : Setup) (e : Taken) (cells : Port → Progress) (to from : Port) → from ≢ e.from → (after_entry s e cells to).took from ≡ (cells to).took from
after_elsewhere s e cells to from other = either_if (same_port e.cell to) _ (cells to) (none_if (same_port from e.from) ((cells to).took from) (same_port-other from e.from other))
  where
    either_if : (b : Bool) (x y : Progress) → x.took from ≡ y.took from → (if b then x else y).took from ≡ y.took from
    either_if true x y same = same
    either_if false x y same = refl

-- An entry is one more that was taken.
one_taken : (s : Setup) (e : Taken) (cells : Port → Progress) → ((i : ℕ) × (slice_get (cells_of s) i ≡ Some e.cell)) → ((i : ℕ) × (slice_get (port.Caller ∷ cells_of s) i ≡ Some e.from))
    → taken s (λ q. after_entry s e cells q) ≡ taken s cells + 1
one_taken s e cells cell_in from_in =
    raised_once (taken_of s cells) (taken_of s (λ q. after_entry s e cells q)) (port.Caller ∷ cells_of s) e.from (senders_once s) from_in
    (raised_once (λ to. (cells to).took e.from) (λ to. (after_entry s e cells to).took e.from) (cells_of s) e.cell (cells_once s) cell_in (after_own s e cells) (λ to other. after_other s e cells to e.from other))
    (λ from other. same_sum (λ to. (after_entry s e cells to).took from) (λ to. (cells to).took from) (cells_of s) (λ to m. after_elsewhere s e cells to from other))

-- ---- along a history

one_step : (class : Class) (slots : ℕ) (p : Port) (c : ℕ) → IsIn class slots p → length (shown_entry p c) ≡ 1
one_step class slots port.Caller c is = absurd is
one_step class slots port.Sink c is = absurd is
one_step class slots port.Front c is = refl
one_step class slots port.Join c is = absurd is
one_step class slots (port.Slot field at) c is = refl
one_step class slots (port.Inst field at) c is = absurd is

-- the call of a number that states have
call_with : (calls : List Call) (states : List CallState) (c : ℕ) (state : CallState) → length states ≡ length calls → nth states c ≡ Some state → (call : Call) × (nth calls c ≡ Some call)
call_with calls states zero state as_many is = absurd cc
call_with calls states (suc n) state as_many is = there calls n (below n (length states) (length calls) (nth_within states (suc n) state is).1 as_many)
  where
    below : (n a b : ℕ) → suc n < 1 + a → a ≡ b → n < b
    below n a b l e = omega arith

-- an item that an entry takes was given by a sender
from_sender : (s : Setup) (class : Class) (Agrees : Port → Item → CallState → Type 0) (cells : Port → Progress) (now : Source) (place : ℕ → Spot) (e : Taken)
    → Agreement class s.calls s.header.slots Agrees cells now place → Follows cells e → IsSender class s.header.slots e.from
from_sender s class Agrees cells now place e a follows =
    let f = flight_of class s.calls s.header.slots Agrees cells now place e a follows in
    let call = call_with s.calls now.calls (call_of e.item) f.state a.as_many f.is_state in
    let P : Spot → Type 0 = λ spot. IsSender class s.header.slots spot.from in
    subst P f.placed (a.present (call_of e.item) call.0 call.1).sender

-- Along a history as many items are taken as steps are shown.
steps_taken : (s : Setup) (class : Class) (Fits : Call → Type 0) (Agrees : Port → Item → CallState → Type 0) (cells : Port → Progress) (now : Source) (place : ℕ → Spot) (hist : List Happening)
    → 1 ≤ s.header.slots → Simulation class s.graph s.header.slots Fits Agrees → AllFit Fits s.calls
    → Agreement class s.calls s.header.slots Agrees cells now place → IsHistoryFrom s cells hist
    → taken s (λ q. after_all s cells hist q) ≡ taken s cells + length (steps_of hist)
steps_taken s class Fits Agrees cells now place [] some sim fit a h = plus_none (taken s cells)
  where
    plus_none : (n : ℕ) → n ≡ n + 0
    plus_none n = omega arith
steps_taken s class Fits Agrees cells now place (Took e ∷ hist) some sim fit a h =
    let v = entry_advances s class Fits Agrees cells now place e some sim fit a h.0 in
    let old = (flight_of class s.calls s.header.slots Agrees cells now place e a h.0).state in
    let next : Port → Progress = λ q. after_happening s (Took e) cells q in
    let rest = steps_taken s class Fits Agrees next (now_after now (call_of e.item) v.new v.after) (moved_place (call_of e.item) (new_spot e.cell v.to cells) place) hist some sim fit
    (entry_moves s class Agrees cells now place e old h.0 a v) h.1 in
    one_further (taken s (λ q. after_all s next hist q)) (taken s next) (taken s cells) (length (steps_of hist)) (length (shown (Took e))) _ rest
    (one_taken s e cells (cell_at s class e.cell sim.as_many v.own_in) (sender_at s class e.from sim.as_many (from_sender s class Agrees cells now place e a h.0)))
    (one_step class s.header.slots e.cell (call_of e.item) v.own_in)
    (length-append (shown (Took e)) (steps_of hist))
  where
    one_further : (end next first k n m : ℕ) → end ≡ next + k → next ≡ first + 1 → n ≡ 1 → m ≡ n + k → end ≡ first + m
    one_further end next first k n m e f g h = omega arith

-- nothing was taken at the start
none_taken : (s : Setup) → taken s (λ p. at_start s.calls p) ≡ 0
none_taken s = no_sum (taken_of s (λ p. at_start s.calls p)) (port.Caller ∷ cells_of s) (λ from m. no_sum (λ to. (at_start s.calls to).took from) (cells_of s) (λ to n. refl))

-- After a history as many items were taken as it has steps.
all_taken : (s : Setup) (class : Class) (Fits : Call → Type 0) (Agrees : Port → Item → CallState → Type 0) (w : World) → 1 ≤ s.header.slots → Simulation class s.graph s.header.slots Fits Agrees → AllFit Fits s.calls
    → Standing s class Agrees w → taken s (λ p. cell s w p) ≡ length (steps_of w.hist)
all_taken s class Fits Agrees w some sim fit st =
    from_none (taken s (λ p. cell s w p)) (taken s (λ p. at_start s.calls p)) (length (steps_of w.hist))
    (steps_taken s class Fits Agrees (at_start s.calls) (start class s.calls) first_place w.hist some sim fit (start_agrees class s.calls s.graph s.header.slots Fits Agrees sim fit) st.history)
    (none_taken s)
  where
    from_none : (end first k : ℕ) → end ≡ first + k → first ≡ 0 → end ≡ k
    from_none end first k e none = omega arith

-- ---- what is kept

-- a list has no more than a number at which it has nothing
at_its_end : {A : Type 0} (xs : List A) (n : ℕ) → n ≤ length xs → ((x : A) → slice_get xs n ≡ Some x → ⊥) → n ≡ length xs
at_its_end [] zero l none = refl
at_its_end [] (suc n) l none = absurd (omega arith)
at_its_end (x ∷ xs) zero l none = absurd (none x refl)
at_its_end (x ∷ xs) (suc n) l none = ap suc (at_its_end xs n (omega arith) none)

-- all that cells were given was taken, and each result was committed
pub record AllIsTaken (s : Setup) (w : World) : Type 0 where
  pub by_cells : (to from : Port) → Among to (cells_of s) → Among from (port.Caller ∷ cells_of s) → (cell s w to).took from ≡ length ((cell s w from).gave to)
  pub by_sink : (from : Port) → Among from (cells_of s) → committed from w.commits ≡ length ((cell s w from).gave port.Sink)

all_is_taken : (s : Setup) (class : Class) (Agrees : Port → Item → CallState → Type 0) (w : World) → Standing s class Agrees w → lowest (offers s w) ≡ None → (w.next_step == last_step) ≡ false → AllIsTaken s w
all_is_taken s class Agrees w st none going = record {
  by_cells = λ to from m n. at_its_end ((cell s w from).gave to) ((cell s w to).took from) (st.agreement.bounded from to) (λ x e. nothing_to_take s w none going to from x m n e);
  by_sink = λ from m. at_its_end ((cell s w from).gave port.Sink) (committed from w.commits) (st.within from) (λ x e. none_offered (offers s w) _ none (result_offered s w from x m e));
}

-- the caller gives to the cell that begins calls alone
nothing_for_slots : (calls : List Call) (field : ℕ) (ns : List ℕ) (p : Port) → Among p (map (λ n. port.Slot field n) ns) → length (given_at_start calls port.Caller p) ≡ 0
nothing_for_slots calls field [] p m = absurd m
nothing_for_slots calls field (n ∷ ns) p (inl e) = ap (λ (q : Port). length (given_at_start calls port.Caller q)) e
nothing_for_slots calls field (n ∷ ns) p (inr m) = nothing_for_slots calls field ns p m

abbrev other_cells : Setup → List Port
other_cells s = port.Join ∷ flat_map (λ field. map (λ at. port.Slot field at) (numbers_from 0 s.header.slots)) (numbers_from 0 (length s.graph.fields))

nothing_for_others : (s : Setup) (p : Port) → Among p (other_cells s) → length (given_at_start s.calls port.Caller p) ≡ 0
nothing_for_others s p (inl e) = ap (λ (q : Port). length (given_at_start s.calls port.Caller q)) e
nothing_for_others s p (inr m) =
    let r = in_flat (λ field. map (λ at. port.Slot field at) (numbers_from 0 s.header.slots)) p (numbers_from 0 (length s.graph.fields)) m in
    nothing_for_slots s.calls r.0 (numbers_from 0 s.header.slots) p r.2

length-starts : (n : ℕ) (calls : List Call) → length (starts_from n calls) ≡ length calls
length-starts n [] = refl
length-starts n (call ∷ calls) = ap suc (length-starts (n + 1) calls)

-- the caller gave its calls
caller_gave : (s : Setup) → sum_by (λ to. length (given_at_start s.calls port.Caller to)) (cells_of s) ≡ length s.calls
caller_gave s =
    alone (sum_by (λ to. length (given_at_start s.calls port.Caller to)) (cells_of s)) (length (starts s.calls)) (length s.calls)
    (sum_by (λ to. length (given_at_start s.calls port.Caller to)) (other_cells s))
    (sum_by-cons (λ to. length (given_at_start s.calls port.Caller to)) port.Front (other_cells s)) (length-starts 1 s.calls)
    (no_sum (λ to. length (given_at_start s.calls port.Caller to)) (other_cells s) (nothing_for_others s))
  where
    alone : (sum a n rest : ℕ) → sum ≡ a + rest → a ≡ n → rest ≡ 0 → sum ≡ n
    alone sum a n rest e f g = omega arith

taken_of_caller : (s : Setup) (class : Class) (Agrees : Port → Item → CallState → Type 0) (w : World) → Standing s class Agrees w → AllIsTaken s w → taken_of s (λ p. cell s w p) port.Caller ≡ length s.calls
taken_of_caller s class Agrees w st t =
    same_sum (λ to. (cell s w to).took port.Caller) (λ to. length (given_at_start s.calls port.Caller to)) (cells_of s)
    (λ to m. t.by_cells to port.Caller m (inl refl) ∙ ap (λ (gave : Port → List Item). length (gave to)) st.agreement.caller)
    ∙ caller_gave s

-- what is kept of a cell is what cells took of it
kept_taken : (s : Setup) (w : World) (from : Port) → AllIsTaken s w → Among from (cells_of s) → kept_by s w from ≡ taken_of s (λ p. cell s w p) from
kept_taken s w from t m =
    all_of (sum_by (λ to. length ((cell s w from).gave to)) (cells_of s)) (taken_of s (λ p. cell s w p) from) (length ((cell s w from).gave port.Sink)) (committed from w.commits)
    (same_sum (λ to. (cell s w to).took from) (λ to. length ((cell s w from).gave to)) (cells_of s) (λ to n. t.by_cells to from n (inr m))) (t.by_sink from m)
  where
    all_of : (a b n k : ℕ) → b ≡ a → k ≡ n → a + (n - k) ≡ b
    all_of a b n k e f = omega arith

all_kept : (s : Setup) (class : Class) (Agrees : Port → Item → CallState → Type 0) (w : World) → Standing s class Agrees w → AllIsTaken s w → kept s w ≡ taken s (λ p. cell s w p)
all_kept s class Agrees w st t =
    both (length s.calls) (sum_by (kept_by s w) (cells_of s)) (taken s (λ p. cell s w p)) (taken_of s (λ p. cell s w p) port.Caller) (sum_by (taken_of s (λ p. cell s w p)) (cells_of s))
    (sum_by-cons (taken_of s (λ p. cell s w p)) port.Caller (cells_of s)) (taken_of_caller s class Agrees w st t)
    (same_sum (kept_by s w) (taken_of s (λ p. cell s w p)) (cells_of s) (λ from m. kept_taken s w from t m))
  where
    both : (n k sum a b : ℕ) → sum ≡ a + b → a ≡ n → k ≡ b → n + k ≡ sum
    both n k sum a b e f g = omega arith

-- ---- whole runs

step_at_most : (p : Port) (c : ℕ) → length (shown_entry p c) ≤ 1
step_at_most port.Caller c = omega arith
step_at_most port.Sink c = omega arith
step_at_most port.Front c = omega arith
step_at_most port.Join c = omega arith
step_at_most (port.Slot field at) c = omega arith
step_at_most (port.Inst field at) c = omega arith

-- a history has no more steps than entries
few_steps : (hist : List Happening) → length (steps_of hist) ≤ length hist
few_steps [] = omega arith
few_steps (Took e ∷ hist) = one_more (length (shown (Took e))) (length (steps_of hist)) (length hist) _ (length-append (shown (Took e)) (steps_of hist)) (step_at_most e.cell (call_of e.item)) (few_steps hist)
  where
    one_more : (a b n s : ℕ) → s ≡ a + b → a ≤ 1 → b ≤ n → s ≤ suc n
    one_more a b n s e l m = omega arith

-- A run that went to completion keeps an item for each step.
keeps_from : (s : Setup) (class : Class) (Fits : Call → Type 0) (Agrees : Port → Item → CallState → Type 0) (w : World) (most : ℕ) → 1 ≤ s.header.slots → Simulation class s.graph s.header.slots Fits Agrees → AllFit Fits s.calls
    → Completed s class Agrees w → InSteps w most → most < last_step → KeepsItsSteps s w × (kept s w < 2 ^ 64)
keeps_from s class Fits Agrees w most some sim fit completed steps l =
    let going : (w.next_step == last_step) ≡ false = goes_on w.next_step (reach w.next_step most steps.few l) in
    let t = all_is_taken s class Agrees w completed.standing completed.nothing_left going in
    let keeps : KeepsItsSteps s w = all_kept s class Agrees w completed.standing t ∙ all_taken s class Fits Agrees w some sim fit completed.standing in
    (keeps, below (kept s w) (length (steps_of w.hist)) (length w.hist) w.next_step most keeps (few_steps w.hist) steps.next_step steps.few l)
  where
    reach : (a b : ℕ) → a ≤ b → b < last_step → a < last_step
    reach a b l m = omega arith

    below : (k n h next most : ℕ) → k ≡ n → n ≤ h → next ≡ 1 + h → next ≤ most → most < last_step → k < 2 ^ 64
    below k n h next most e m f g l = omega arith

pub keeps_its_steps : (s : Setup) (class : Class) (Fits : Call → Type 0) (Agrees : Port → Item → CallState → Type 0) (events : List Event) → 1 ≤ s.header.slots → Simulation class s.graph s.header.slots Fits Agrees → AllFit Fits s.calls
    → AreForCells events → AreEnoughSteps s events → KeepsItsSteps s (world_of s events) × (kept s (world_of s events) < 2 ^ 64)
keeps_its_steps s class Fits Agrees events some sim fit h enough =
    keeps_from s class Fits Agrees (world_of s events) (1 + length events + most_events s) some sim fit
    (run_completes s class Fits Agrees events some sim fit h enough)
    (drained_in_steps s (after_events s first_world events) (1 + length events) (most_events s) (events_in_steps s first_world 1 events first_in_steps))
    (plain (length events) (most_events s) enough)
  where
    plain : (k m : ℕ) → k + 1 + m < last_step → 1 + k + m < last_step
    plain k m l = omega arith
