-- One call moves: a cell took its item and gave one item, and the source moved the call. Everything else stays in its place.
use Rattle.std.proofs.Common.{◌≡◌, ◌≢◌, ℕ, zero, suc, ◌<◌, ◌≤◌, ℤ, Bool, true, false, ◌==◌, List, length, Some, ◌⊎◌, inl, inr, slice_get, if◌then◌else◌, refl, ap, sym, ◌∙◌, subst, arith}
use Rattle.std.proofs.lemmas.Bool.{eqb-true, eq-eqb, false_from_ne_true}
use Rattle.std.proofs.lemmas.Option.{same_Some, slice_get_within}
use Rattle.sdg_base.specs.declared.call.Call.{Call}
use Rattle.sdg_base.specs.declared.port.Port.{Port}
use Rattle.sdg_base.specs.declared.port.Port.TheVariants as port
use Rattle.sdg_base.specs.declared.item.Item.{Item}
use Rattle.sdg_base.specs.Ports.{same_port}
use Rattle.java_tree.specs.declared.tree.Class.{Class}
use Rattle.early_tables.specs.States.{State, Nothing}
use Rattle.early_source.specs.Variables.{Tables}
use Rattle.early_source.specs.Members.{fields}
use Rattle.early_source.specs.Source.{CallState, Source, nth, with_state}
use Rattle.early_task_code.specs.Progress.{Progress}
use Rattle.cluster.specs.History.{call_of}
use Rattle.agreement.specs.Simulation.{field_names}
use Rattle.cluster.proofs.Lists.{set_same, set_other, set_as_many}
use Rattle.sdg_base.proofs.Ports.{same_port-other}
use Rattle.agreement.proofs.Invariant.{Spot, item_at, IsAhead, IsIn, IsSender, IsReceiver, IsStart, InFlight, Present, SameEntry, Agreement}
use Rattle.agreement.proofs.Channels.{one, stepped, stepped_other, bool_cases, given_cases, given_stays, output_is, ahead_before, ahead_still, bounded_still}

-- ---- states by call

pub nth_same : (states : List CallState) (c : ℕ) (old new : CallState) → nth states c ≡ Some old → nth (with_state c new states) c ≡ Some new
nth_same states zero old new e = absurd cc
nth_same states (suc n) old new e = set_same states n old new e

pub nth_other : (states : List CallState) (c q : ℕ) (new : CallState) → q ≢ c → nth (with_state c new states) q ≡ nth states q
nth_other states zero q new ne = refl
nth_other states (suc n) zero new ne = refl
nth_other states (suc n) (suc m) new ne = set_other states n m new (λ e. ne (ap suc e))

pub with_as_many : (states : List CallState) (c : ℕ) (new : CallState) → length (with_state c new states) ≡ length states
with_as_many states zero new = refl
with_as_many states (suc n) new = set_as_many states n new

-- ---- places by call

-- a call stands elsewhere, and each other call where it stood
abbrev pub moved_place : ℕ → Spot → (ℕ → Spot) → ℕ → Spot
moved_place c spot place q = if q == c then spot else place q

pub moved_here : (c q : ℕ) (spot : Spot) (place : ℕ → Spot) → q ≡ c → moved_place c spot place q ≡ spot
moved_here c q spot place e = ap (λ (b : Bool). if b then spot else place q) (eq-eqb q c e)

pub not_moved : (c q : ℕ) (spot : Spot) (place : ℕ → Spot) → q ≢ c → moved_place c spot place q ≡ place q
not_moved c q spot place ne = ap (λ (b : Bool). if b then spot else place q) (false_from_ne_true (q == c) (λ e. ne (eqb-true q c e)))

apart : (p q : ℕ) → (p == q) ≡ false → p ≡ q → ⊥
apart p q e same = let yes : (p == q) ≡ true = eq-eqb p q same in absurd cc

pub number_cases : (p q : ℕ) → (p ≡ q) ⊎ (p ≢ q)
number_cases p q = elim (bool_cases (p == q)) [ inl e ↦ inl (eqb-true p q e) | inr e ↦ inr (λ same. absurd (apart p q e same)) ]

-- ---- the move

-- where the output stands
abbrev pub new_spot : Port → Port → (Port → Progress) → Spot
new_spot own to cells = record { from = own; to = to; index = length ((cells own).gave to) }

-- where the item stood
abbrev pub old_spot : Port → Port → (Port → Progress) → Spot
old_spot own from cells = record { from = from; to = own; index = (cells own).took from }

abbrev pub now_after : Source → ℕ → CallState → Tables → Source
now_after now c new after = record { tables = after; calls = with_state c new now.calls }

-- What is given for a move.
pub record Move (class : Class) (calls : List Call) (slots : ℕ) (Agrees : Port → Item → CallState → Type 0) (cells cells' : Port → Progress) (now : Source) (place : ℕ → Spot) (own from : Port) (x : Item) : Type 0 where
  pub given : item_at cells (old_spot own from cells) ≡ Some x
  pub own_in : IsIn class slots own
  pub to : Port
  pub to_in : IsReceiver class slots own to
  pub out : Item
  pub state : State
  pub steps : (p : Port) → cells' p ≡ stepped own from (one to out state) cells p
  pub of_call : call_of out ≡ call_of x
  pub new : CallState
  pub agrees : Agrees to out new
  pub start : IsStart calls to out
  pub after : Tables
  pub same_fields : field_names after ≡ fields class
  pub tables : (field : ℕ) (key : ℤ) → SameEntry cells' slots (now_after now (call_of x) new after) field key
  pub front : (cells' port.Front).state ≡ Nothing

-- two calls at one place
stood : (place : ℕ → Spot) (c d : ℕ) (s t : Spot) → c ≡ d → place c ≡ s → place d ≡ t → t ≡ s
stood place c d s t same e f = sym f ∙ ap place (sym same) ∙ e

-- what stands at the place of the item that was taken is that item
same_item : (cells : Port → Progress) (own from : Port) (x : Item) (spot : Spot) (y : Item) → item_at cells (old_spot own from cells) ≡ Some x → item_at cells spot ≡ Some y
    → own ≡ spot.to → from ≡ spot.from → (cells own).took from ≡ spot.index → y ≡ x
same_item cells own from x spot y e f to_is from_is index_is =
    let g : item_at cells (old_spot own from cells) ≡ item_at cells spot =
    ap (λ (p : Port). slice_get ((cells p).gave own) ((cells own).took from)) from_is
    ∙ ap (λ (p : Port). slice_get ((cells spot.from).gave p) ((cells own).took from)) to_is
    ∙ ap (slice_get ((cells spot.from).gave spot.to)) index_is in
    same_Some y x (sym f ∙ sym g ∙ e)

-- An item stands where one was taken, so the channel does not end there.
not_last : (own from to : Port) (x : Item) → (cells : Port → Progress) → item_at cells (old_spot own from cells) ≡ Some x
    → own ≡ to → from ≡ own → (cells own).took from ≡ length ((cells own).gave to) → ⊥
not_last own from to x cells given to_is from_is index_is =
    let l : (cells own).took from < length ((cells from).gave own) = slice_get_within ((cells from).gave own) ((cells own).took from) x given in
    let e : length ((cells from).gave own) ≡ length ((cells own).gave to) =
    ap (λ (p : Port). length ((cells p).gave own)) from_is ∙ ap (λ (p : Port). length ((cells own).gave p)) to_is in
    absurd (omega arith)

in_sends : (class : Class) (slots : ℕ) (p : Port) → IsIn class slots p → IsSender class slots p
in_sends class slots port.Caller h = tt
in_sends class slots port.Sink h = h
in_sends class slots port.Front h = h
in_sends class slots port.Join h = h
in_sends class slots (port.Slot f s) h = h
in_sends class slots (port.Inst f s) h = h

not_the_sink : (class : Class) (slots : ℕ) (p : Port) → IsIn class slots p → same_port p port.Sink ≡ false
not_the_sink class slots port.Caller h = absurd h
not_the_sink class slots port.Sink h = absurd h
not_the_sink class slots port.Front h = same_port-other port.Front port.Sink (λ e. absurd cc)
not_the_sink class slots port.Join h = absurd h
not_the_sink class slots (port.Slot f s) h = same_port-other (port.Slot f s) port.Sink (λ e. absurd cc)
not_the_sink class slots (port.Inst f s) h = absurd h

not_the_caller : (class : Class) (slots : ℕ) (p : Port) → IsIn class slots p → same_port p port.Caller ≡ false
not_the_caller class slots port.Caller h = absurd h
not_the_caller class slots port.Sink h = absurd h
not_the_caller class slots port.Front h = same_port-other port.Front port.Caller (λ e. absurd cc)
not_the_caller class slots port.Join h = absurd h
not_the_caller class slots (port.Slot f s) h = same_port-other (port.Slot f s) port.Caller (λ e. absurd cc)
not_the_caller class slots (port.Inst f s) h = absurd h

-- the items ahead, after the move
flight_after : (class : Class) (calls : List Call) (slots : ℕ) (Agrees : Port → Item → CallState → Type 0) (cells cells' : Port → Progress) (now : Source) (place : ℕ → Spot) (own from : Port) (x : Item)
    → Agreement class calls slots Agrees cells now place
    → (m : Move class calls slots Agrees cells cells' now place own from x)
    → (spot : Spot) (y : Item) → IsAhead cells' spot → item_at cells' spot ≡ Some y
    → InFlight calls Agrees (now_after now (call_of x) m.new m.after) (moved_place (call_of x) (new_spot own m.to cells) place) spot y
flight_after class calls slots Agrees cells cells' now place own from x a m spot y ahead at =
    let ran = one m.to m.out m.state in
    let c = call_of x in
    let here = new_spot own m.to cells in
    let ahead' : IsAhead (stepped own from ran cells) spot = let P : Progress → Type 0 = λ q. q.took spot.from ≤ spot.index in subst P (m.steps spot.to) ahead in
    let at' : item_at (stepped own from ran cells) spot ≡ Some y = ap (λ (q : Progress). slice_get (q.gave spot.to) spot.index) (sym (m.steps spot.from)) ∙ at in
    let was = a.flight (old_spot own from cells) x (omega arith) m.given in
    let before = ahead_before own from ran cells spot ahead' in
    elim (given_cases own from m.to m.out m.state cells spot y at') [
      | inl old ↦
          let f = a.flight spot y before.0 old in
          let ne : call_of y ≢ c = λ same. let e : old_spot own from cells ≡ spot = stood place (call_of y) c spot (old_spot own from cells) same f.placed was.placed in
          before.1 (ap (λ (s : Spot). s.to) e) (ap (λ (s : Spot). s.from) e) (ap (λ (s : Spot). s.index) e) in
          record {
            placed = not_moved c (call_of y) here place ne ∙ f.placed;
            state = f.state;
            is_state = nth_other now.calls c (call_of y) m.new ne ∙ f.is_state;
            agrees = f.agrees;
            start = f.start;
          }
      | inr new ↦
          let calls_same : call_of y ≡ c = ap call_of new.1 ∙ m.of_call in
          record {
            placed = moved_here c (call_of y) here place calls_same ∙ sym new.0;
            state = m.new;
            is_state = ap (nth (with_state c m.new now.calls)) calls_same ∙ nth_same now.calls c was.state m.new was.is_state;
            agrees = (let P : Spot → Type 0 = λ s. Agrees s.to y m.new in subst P (sym new.0) (let Q : Item → Type 0 = λ z. Agrees m.to z m.new in subst Q (sym new.1) m.agrees));
            start = (let P : Spot → Type 0 = λ s. IsStart calls s.to y in subst P (sym new.0) (let Q : Item → Type 0 = λ z. IsStart calls m.to z in subst Q (sym new.1) m.start));
          }
    ]

-- the calls that stand somewhere, after the move
present_after : (class : Class) (calls : List Call) (slots : ℕ) (Agrees : Port → Item → CallState → Type 0) (cells cells' : Port → Progress) (now : Source) (place : ℕ → Spot) (own from : Port) (x : Item)
    → Agreement class calls slots Agrees cells now place
    → (m : Move class calls slots Agrees cells cells' now place own from x)
    → (q : ℕ) (call : Call) → nth calls q ≡ Some call
    → Present class slots cells' (moved_place (call_of x) (new_spot own m.to cells) place q) q
present_after class calls slots Agrees cells cells' now place own from x a m q call is_call =
    let ran = one m.to m.out m.state in
    let c = call_of x in
    let here = new_spot own m.to cells in
    let P : Spot → Type 0 = λ spot. Present class slots cells' spot q in
    elim (number_cases q c) [
      | inl same ↦ subst P (sym (moved_here c q here place same)) (record {
        it = m.out;
        is_item = ap (λ (p : Progress). slice_get (p.gave m.to) (length ((cells own).gave m.to))) (m.steps own) ∙ output_is own from m.to m.out m.state cells;
        of_call = m.of_call ∙ sym same;
        ahead = (let Q : Progress → Type 0 = λ p. p.took own ≤ here.index in
            subst Q (sym (m.steps m.to)) (ahead_still own from ran cells here (a.bounded own m.to)
            (λ e f g. not_last own from m.to x cells m.given e f g)));
        sender = in_sends class slots own m.own_in;
        receiver = m.to_in;
      })
      | inr ne ↦
          let old = a.present q call is_call in
          let spot = place q in
          subst P (sym (not_moved c q here place ne)) (record {
            it = old.it;
            is_item = ap (λ (p : Progress). slice_get (p.gave spot.to) spot.index) (m.steps spot.from) ∙ given_stays own from ran cells spot old.it old.is_item;
            of_call = old.of_call;
            ahead = (let Q : Progress → Type 0 = λ p. p.took spot.from ≤ spot.index in
                subst Q (sym (m.steps spot.to)) (ahead_still own from ran cells spot old.ahead
                (λ e f g. ne (sym old.of_call ∙ ap call_of (same_item cells own from x spot old.it m.given old.is_item e f g)))));
            sender = old.sender;
            receiver = old.receiver;
          })
    ]

pub move_agrees : (class : Class) (calls : List Call) (slots : ℕ) (Agrees : Port → Item → CallState → Type 0) (cells cells' : Port → Progress) (now : Source) (place : ℕ → Spot) (own from : Port) (x : Item)
    → Agreement class calls slots Agrees cells now place
    → (m : Move class calls slots Agrees cells cells' now place own from x)
    → Agreement class calls slots Agrees cells' (now_after now (call_of x) m.new m.after) (moved_place (call_of x) (new_spot own m.to cells) place)
move_agrees class calls slots Agrees cells cells' now place own from x a m = record {
  tables = m.tables;
  front = m.front;
  caller = ap (λ (p : Progress). p.gave) (m.steps port.Caller ∙ stepped_other own from (one m.to m.out m.state) cells port.Caller (not_the_caller class slots own m.own_in)) ∙ a.caller;
  sink = λ sender. ap (λ (p : Progress). p.took sender) (m.steps port.Sink ∙ stepped_other own from (one m.to m.out m.state) cells port.Sink (not_the_sink class slots own m.own_in)) ∙ a.sink sender;
  bounded = λ sender receiver.
      (let P : Progress → Type 0 = λ p. p.took sender ≤ length ((cells' sender).gave receiver) in subst P (sym (m.steps receiver))
      (let Q : Progress → Type 0 = λ p. (stepped own from (one m.to m.out m.state) cells receiver).took sender ≤ length (p.gave receiver) in subst Q (sym (m.steps sender))
      (bounded_still own from (one m.to m.out m.state) cells x m.given a.bounded sender receiver)));
  same_fields = m.same_fields;
  as_many = with_as_many now.calls (call_of x) m.new ∙ a.as_many;
  flight = flight_after class calls slots Agrees cells cells' now place own from x a m;
  present = present_after class calls slots Agrees cells cells' now place own from x a m;
}
