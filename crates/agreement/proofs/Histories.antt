-- Along a history the source is stepped by what is shown, and agrees with the cells.
use Rattle.std.proofs.Common.{◌≡◌, ℕ, zero, suc, ◌+◌, ◌≤◌, ℤ, List, [], ◌∷◌, ◌++◌, map, length, Option, Some, slice_get, refl, ap, sym, ◌∙◌, subst, arith}
use Rattle.sdg_base.specs.declared.call.Call.{Call}
use Rattle.sdg_base.specs.declared.call.Step.{Step}
use Rattle.sdg_base.specs.declared.port.Port.{Port}
use Rattle.sdg_base.specs.declared.port.Port.TheVariants as port
use Rattle.sdg_base.specs.declared.item.Item.{Item}
use Rattle.sdg_base.specs.declared.item.Item.TheVariants as item
use Rattle.java_tree.specs.declared.tree.Class.{Class}
use Rattle.early_tables.specs.Contents.{entry_at}
use Rattle.early_source.specs.Members.{fields}
use Rattle.early_source.specs.Source.{CallState, Fresh, Source, start, nth, step_from, steps_from}
use Rattle.early_task_code.specs.declared.graph.Graph.{Graph}
use Rattle.early_task_code.specs.Progress.{Taken, Progress}
use Rattle.cluster.specs.History.{Setup, Happening, Took, at_start, starts_from, given_at_start, after_entry, after_happening, after_all, Follows, IsHistoryFrom, IsHistory, call_of, shown, steps_of}
use Rattle.agreement.specs.Simulation.{Simulation, entries_in, field_names}
use Rattle.agreement.proofs.Invariant.{Spot, InFlight, Present, Agreement}
use Rattle.agreement.proofs.Channels.{one, entry_steps}
use Rattle.agreement.proofs.Moves.{moved_place, new_spot, old_spot, now_after, move_agrees}
use Rattle.agreement.proofs.Advances.{Advances, advance}

pub itself : (n : ℕ) → n ≤ n
itself n = omega arith

-- every call of the list fits
abbrev pub AllFit : (Call → Type 0) → List Call → Type 0
AllFit Fits calls = (c : ℕ) (call : Call) → nth calls c ≡ Some call → Fits call

-- ---- lists of steps

pub steps_from-append : (class : Class) (calls : List Call) (o : Option Source) (xs ys : List Step) → steps_from class calls o (xs ++ ys) ≡ steps_from class calls (steps_from class calls o xs) ys
steps_from-append class calls o [] ys = refl
steps_from-append class calls o (x ∷ xs) ys = steps_from-append class calls (step_from class calls o x) xs ys

pub steps_of-append : (xs ys : List Happening) → steps_of (xs ++ ys) ≡ steps_of xs ++ steps_of ys
steps_of-append [] ys = refl
steps_of-append (h ∷ xs) ys = ap (λ (steps : List Step). shown h ++ steps) (steps_of-append xs ys) ∙ sym (append_of (shown h) (steps_of xs) (steps_of ys))
  where
    append_of : (a b c : List Step) → (a ++ b) ++ c ≡ a ++ (b ++ c)
    append_of [] b c = refl
    append_of (x ∷ a) b c = ap (λ (steps : List Step). x ∷ steps) (append_of a b c)

-- ---- one entry

-- the item that an entry takes, in flight before it
abbrev pub flight_of : (class : Class) (calls : List Call) (slots : ℕ) (Agrees : Port → Item → CallState → Type 0) (cells : Port → Progress) (now : Source) (place : ℕ → Spot) (e : Taken) → Agreement class calls slots Agrees cells now place → Follows cells e
    → InFlight calls Agrees now place (old_spot e.cell e.from cells) e.item
flight_of class calls slots Agrees cells now place e a follows = a.flight (old_spot e.cell e.from cells) e.item (itself ((cells e.cell).took e.from)) follows.given

pub entry_advances : (s : Setup) (class : Class) (Fits : Call → Type 0) (Agrees : Port → Item → CallState → Type 0) (cells : Port → Progress) (now : Source) (place : ℕ → Spot) (e : Taken)
    → 1 ≤ s.header.slots → Simulation class s.graph s.header.slots Fits Agrees → AllFit Fits s.calls
    → (a : Agreement class s.calls s.header.slots Agrees cells now place) → (follows : Follows cells e)
    → Advances class s.graph s.calls s.header.slots Agrees cells now e.cell e.from e.item (flight_of class s.calls s.header.slots Agrees cells now place e a follows).state
entry_advances s class Fits Agrees cells now place e some sim fit a follows =
    let f = flight_of class s.calls s.header.slots Agrees cells now place e a follows in
    advance class s.graph s.calls s.header.slots Fits Agrees cells now place e.cell e.from e.item f.state some sim fit a follows.is_cell f.is_state f.agrees f.start (sim.fitting e.cell e.item f.state f.agrees)

pub entry_moves : (s : Setup) (class : Class) (Agrees : Port → Item → CallState → Type 0) (cells : Port → Progress) (now : Source) (place : ℕ → Spot) (e : Taken) (old : CallState)
    → Follows cells e
    → Agreement class s.calls s.header.slots Agrees cells now place
    → (v : Advances class s.graph s.calls s.header.slots Agrees cells now e.cell e.from e.item old)
    → Agreement class s.calls s.header.slots Agrees (λ q. after_entry s e cells q) (now_after now (call_of e.item) v.new v.after) (moved_place (call_of e.item) (new_spot e.cell v.to cells) place)
entry_moves s class Agrees cells now place e old follows a v =
    let steps = entry_steps s e (one v.to v.out v.state) cells v.runs_so in
    move_agrees class s.calls s.header.slots Agrees cells (λ q. after_entry s e cells q) now place e.cell e.from e.item a (record {
      given = follows.given;
      to = v.to;
      out = v.out;
      state = v.state;
      steps = steps;
      of_call = v.of_call;
      new = v.new;
      agrees = v.agrees;
      start = v.start;
      own_in = v.own_in;
      to_in = v.to_in;
      after = v.after;
      same_fields = v.same_fields;
      tables = v.tables (λ q. after_entry s e cells q) steps;
      front = v.front (λ q. after_entry s e cells q) steps;
    })

-- ---- a whole history

pub record Agreed (s : Setup) (class : Class) (Agrees : Port → Item → CallState → Type 0) (cells : Port → Progress) (now : Source) (hist : List Happening) : Type 0 where
  pub next : Source
  pub place : ℕ → Spot
  pub legal : steps_from class s.calls (Some now) (steps_of hist) ≡ Some next
  pub agreement : Agreement class s.calls s.header.slots Agrees (λ q. after_all s cells hist q) next place

pub history_agrees : (s : Setup) (class : Class) (Fits : Call → Type 0) (Agrees : Port → Item → CallState → Type 0) (cells : Port → Progress) (now : Source) (place : ℕ → Spot) (hist : List Happening)
    → 1 ≤ s.header.slots → Simulation class s.graph s.header.slots Fits Agrees → AllFit Fits s.calls
    → Agreement class s.calls s.header.slots Agrees cells now place → IsHistoryFrom s cells hist
    → Agreed s class Agrees cells now hist
history_agrees s class Fits Agrees cells now place [] some sim fit a h = record { next = now; place = place; legal = refl; agreement = a }
history_agrees s class Fits Agrees cells now place (Took e ∷ hist) some sim fit a h =
    let v = entry_advances s class Fits Agrees cells now place e some sim fit a h.0 in
    let old = (flight_of class s.calls s.header.slots Agrees cells now place e a h.0).state in
    let later = now_after now (call_of e.item) v.new v.after in
    let rest = history_agrees s class Fits Agrees (λ q. after_happening s (Took e) cells q) later (moved_place (call_of e.item) (new_spot e.cell v.to cells) place) hist some sim fit
    (entry_moves s class Agrees cells now place e old h.0 a v) h.1 in
    record {
      next = rest.next;
      place = rest.place;
      legal =
          steps_from-append class s.calls (Some now) (shown (Took e)) (steps_of hist)
          ∙ ap (λ (o : Option Source). steps_from class s.calls o (steps_of hist)) v.legal
          ∙ rest.legal;
      agreement = rest.agreement;
    }

-- ---- at the start

abbrev before : ℕ → ℕ
before zero = zero
before (suc n) = n

plus_zero : (n : ℕ) → n ≡ n + 0
plus_zero n = omega arith

over : (n i : ℕ) → n + 1 + i ≡ n + suc i
over n i = omega arith

found : (n : ℕ) (call : Call) (x : Item) → ◌≡◌ {A = Option Item} (Some (item.Start n call.method call.args)) (Some x) → x ≡ item.Start (n + 0) call.method call.args
found n call x e = let same : x ≡ item.Start n call.method call.args = cc in same ∙ ap (λ (m : ℕ). item.Start m call.method call.args) (plus_zero n)

-- each call is fresh, and stands in the channel from the caller
abbrev pub first_place : ℕ → Spot
first_place c = record { from = port.Caller; to = port.Front; index = before c }

-- the items of the calls, by number
starts_at : (calls : List Call) (n i : ℕ) (call : Call) → slice_get calls i ≡ Some call → slice_get (starts_from n calls) i ≡ Some (item.Start (n + i) call.method call.args)
starts_at [] n i call e = absurd cc
starts_at (x ∷ calls) n zero call e =
    let same : x ≡ call = cc in
    ap (λ (c : Call). Some (item.Start n c.method c.args)) same ∙ ap (λ (m : ℕ). Some (item.Start m call.method call.args)) (plus_zero n)
starts_at (x ∷ calls) n (suc i) call e = starts_at calls (n + 1) i call e ∙ ap (λ (m : ℕ). Some (item.Start m call.method call.args)) (over n i)

pub starts_are : (calls : List Call) (n i : ℕ) (x : Item) → slice_get (starts_from n calls) i ≡ Some x → (call : Call) × (slice_get calls i ≡ Some call) × (x ≡ item.Start (n + i) call.method call.args)
starts_are [] n i x e = absurd cc
starts_are (call ∷ calls) n zero x e = (call, refl, found n call x e)
starts_are (call ∷ calls) n (suc i) x e =
    let r = starts_are calls (n + 1) i x e in
    (r.0, r.1, r.2 ∙ ap (λ (m : ℕ). item.Start m r.0.method r.0.args) (over n i))

fresh_at : (calls : List Call) (i : ℕ) (call : Call) → slice_get calls i ≡ Some call → slice_get (map (λ _. Fresh) calls) i ≡ Some Fresh
fresh_at [] i call e = absurd cc
fresh_at (x ∷ calls) zero call e = refl
fresh_at (x ∷ calls) (suc i) call e = fresh_at calls i call e

length-map_of : {A B : Type 0} (f : A → B) (xs : List A) → length (map f xs) ≡ length xs
length-map_of f [] = refl
length-map_of f (x ∷ xs) = ap suc (length-map_of f xs)

-- the tables at the start are of the class's fields
names_of_empty : (names : List (List ℕ)) → field_names (map (λ name. let t : List ℕ × List (ℤ × ℤ) = (name, []) in t) names) ≡ names
names_of_empty [] = refl
names_of_empty (x ∷ names) = ap (λ (rest : List (List ℕ)). x ∷ rest) (names_of_empty names)

-- no table has an entry at the start
no_entries : (names : List (List ℕ)) (field : ℕ) → entries_in (slice_get (map (λ name. let t : List ℕ × List (ℤ × ℤ) = (name, []) in t) names) field) ≡ []
no_entries [] field = refl
no_entries (x ∷ names) zero = refl
no_entries (x ∷ names) (suc field) = no_entries names field

none_below : (n : ℕ) → 0 ≤ n
none_below n = omega arith

one_more : (i : ℕ) → 1 + i ≡ suc i
one_more i = omega arith

flight_at_start : (class : Class) (calls : List Call) (graph : Graph) (slots : ℕ) (Fits : Call → Type 0) (Agrees : Port → Item → CallState → Type 0) → Simulation class graph slots Fits Agrees → AllFit Fits calls
    → (from to : Port) (i : ℕ) (x : Item) → slice_get (given_at_start calls from to) i ≡ Some x
    → InFlight calls Agrees (start class calls) first_place (record { from = from; to = to; index = i }) x
flight_at_start class calls graph slots Fits Agrees sim fit port.Caller port.Front i x e =
    let r = starts_are calls 1 i x e in
    let call = r.0 in
    let is : x ≡ item.Start (suc i) call.method call.args = r.2 ∙ ap (λ (m : ℕ). item.Start m call.method call.args) (one_more i) in
    let P : Item → Type 0 = λ y. InFlight calls Agrees (start class calls) first_place (record { from = port.Caller; to = port.Front; index = i }) y in
    subst P (sym is) (record {
      placed = refl;
      state = Fresh;
      is_state = fresh_at calls i call r.1;
      agrees = sim.fresh (suc i) call (fit (suc i) call r.1);
      start = (call, r.1, refl);
    })
flight_at_start class calls graph slots Fits Agrees sim fit port.Caller port.Caller i x e = absurd cc
flight_at_start class calls graph slots Fits Agrees sim fit port.Caller port.Sink i x e = absurd cc
flight_at_start class calls graph slots Fits Agrees sim fit port.Caller port.Join i x e = absurd cc
flight_at_start class calls graph slots Fits Agrees sim fit port.Caller (port.Slot f s) i x e = absurd cc
flight_at_start class calls graph slots Fits Agrees sim fit port.Caller (port.Inst f s) i x e = absurd cc
flight_at_start class calls graph slots Fits Agrees sim fit port.Sink to i x e = absurd cc
flight_at_start class calls graph slots Fits Agrees sim fit port.Front to i x e = absurd cc
flight_at_start class calls graph slots Fits Agrees sim fit port.Join to i x e = absurd cc
flight_at_start class calls graph slots Fits Agrees sim fit (port.Slot f s) to i x e = absurd cc
flight_at_start class calls graph slots Fits Agrees sim fit (port.Inst f s) to i x e = absurd cc

present_at_start : (class : Class) (slots : ℕ) (calls : List Call) (c : ℕ) (call : Call) → nth calls c ≡ Some call → Present class slots (at_start calls) (first_place c) c
present_at_start class slots calls zero call e = absurd cc
present_at_start class slots calls (suc i) call e = record {
  it = item.Start (1 + i) call.method call.args;
  is_item = starts_at calls 1 i call e;
  of_call = one_more i;
  ahead = none_below i;
  sender = tt;
  receiver = tt;
}

pub start_agrees : (class : Class) (calls : List Call) (graph : Graph) (slots : ℕ) (Fits : Call → Type 0) (Agrees : Port → Item → CallState → Type 0) → Simulation class graph slots Fits Agrees → AllFit Fits calls
    → Agreement class calls slots Agrees (at_start calls) (start class calls) first_place
start_agrees class calls graph slots Fits Agrees sim fit = record {
  tables = λ field key. record { entries = []; held = refl; same = ap (entry_at key) (sym (no_entries (fields class) field)) };
  front = refl;
  caller = refl;
  sink = λ from. refl;
  bounded = λ from to. none_below (length (given_at_start calls from to));
  same_fields = names_of_empty (fields class);
  as_many = length-map_of (λ _. Fresh) calls;
  flight = λ spot x _ at. flight_at_start class calls graph slots Fits Agrees sim fit spot.from spot.to spot.index x at;
  present = present_at_start class slots calls;
}

-- Every history is legal for the source, which agrees with the cells at its end.
pub histories_agree : (s : Setup) (class : Class) (Fits : Call → Type 0) (Agrees : Port → Item → CallState → Type 0) (hist : List Happening)
    → 1 ≤ s.header.slots → Simulation class s.graph s.header.slots Fits Agrees → AllFit Fits s.calls → IsHistory s hist
    → Agreed s class Agrees (at_start s.calls) (start class s.calls) hist
histories_agree s class Fits Agrees hist some sim fit h =
    history_agrees s class Fits Agrees (at_start s.calls) (start class s.calls) first_place hist some sim fit (start_agrees class s.calls s.graph s.header.slots Fits Agrees sim fit) h
