-- The laws of histories, from the agreement at their ends.
use Rattle.std.proofs.Common.{◌≡◌, ℕ, zero, suc, ◌<◌, ◌≤◌, ◌&&◌, nat_lt, Bool, true, false, List, [], ◌∷◌, ◌++◌, length, Option, Some, None, inl, inr, slice_get, if◌then◌else◌, refl, ap, sym, ◌∙◌, subst, arith}
use Rattle.std.proofs.lemmas.Option.{same_Some, slice_get_within}
use Rattle.sdg_base.specs.declared.val.Outcome.{Outcome}
use Rattle.sdg_base.specs.declared.call.Call.{Call}
use Rattle.sdg_base.specs.declared.port.Port.{Port}
use Rattle.sdg_base.specs.declared.port.Port.TheVariants as port
use Rattle.sdg_base.specs.declared.item.Item.{Item}
use Rattle.sdg_base.specs.declared.item.Item.TheVariants as item
use Rattle.tagged_agreement.specs.Machine.{call_of, part_of}
use Rattle.tagged_agreement.specs.History.{Setup, Happening, Now, at_start, after, after_all, now_of, IsCell, most_wide, HappensAfter, IsHistoryFrom, IsHistory}
use Rattle.tagged_agreement.specs.Source.{CallState, Fresh, At, Visiting, Ended, Program, Source, start, nth, visit_at, visits, outcome_in}
use Rattle.tagged_agreement.specs.Simulation.{Piece, OfKey, OfInstance, port_of, Reading, Simulates}
use Rattle.tagged_agreement.specs.Laws.{HistoriesGrow, AreLinked, IsGiven, IsOutcome, Explained, EveryHistoryIsExplained, EveryCallEndsOnce, NothingIsLeft, HasResult, EveryCallEnds, HistoriesAreShort, MayVisit, VisitsAreOfTheNoted}
use Rattle.tagged_agreement.proofs.Lists.{there}
use Rattle.tagged_agreement.proofs.Channels.{Place, InChannel, Parked, receiver, Stands}
use Rattle.tagged_agreement.proofs.Invariant.{IsReceiver, IsInChannel, Fits, InPlace}
use Rattle.tagged_agreement.proofs.Histories.{Agreed, histories_agree, histories_are_short as short}

-- ---- histories that grow

grows_from : {State : Type 0} (s : Setup State) (now : Now State) (hist : List Happening) (h : Happening) → IsHistoryFrom s now hist → HappensAfter s (after_all s hist now) h → IsHistoryFrom s now (hist ++ h ∷ [])
grows_from s now [] h is next = (next, tt)
grows_from s now (first ∷ hist) h is next = (is.0, grows_from s (after s first now) hist h is.1 next)

pub histories_grow : (State : Type 0) → HistoriesGrow State
histories_grow State s hist h is next = grows_from s (at_start s) hist h is next

at_least : (n m : ℕ) → n ≡ 0 → n ≤ m
at_least n m e = omega arith

not_below : (n : ℕ) (o : Option Item) (x : Item) → o ≡ None → o ≡ Some x → ⊥
not_below n o x e f = absurd cc

module _ {State Waiting Fields Contents : Type 0} (s : Setup State) (p : Program Waiting Fields) (r : Reading State Fields Contents) (Agrees : Item → Waiting → Type 0) where
  -- what the sink is given stands there for ever, since the sink takes nothing
  given_in_place : (hist : List Happening) (g : Agreed s p r Agrees (at_start s) (start p s.calls) hist) (from : Port) (index : ℕ) (x : Item) → IsGiven s hist from index x
      → InPlace s p r Agrees (now_of s hist).widths g.next g.place (InChannel from port.Sink index) x
  given_in_place hist g from index x given =
      g.agreement.items (InChannel from port.Sink index) x (at_least (((now_of s hist).cells port.Sink).took from) index (g.agreement.sink from), given)

  -- what is for the sink is the end of a call that ended so
  at_sink : (x : Item) (c : ℕ) (state : CallState Waiting) → Fits s p r Agrees port.Sink x c state → (how : Outcome) × (state ≡ Ended how) × (x ≡ item.Done c how)
  at_sink x c Fresh h = absurd (let e = h.0 in cc)
  at_sink x c (At w) h = absurd (not_a_piece h.piece h.at)
    where
      not_a_piece : (piece : Piece) → port.Sink ≡ port_of s piece → ⊥
      not_a_piece (OfKey f k) e = absurd cc
      not_a_piece (OfInstance f n) e = absurd cc
  at_sink x c (Visiting w visited) (inl v) = absurd (let e = v.at in cc)
  at_sink x c (Visiting w visited) (inr v) = absurd (let e = v.at in cc)
  at_sink x c (Ended how) h = (how, refl, h.1)

  is_outcome : (hist : List Happening) (g : Agreed s p r Agrees (at_start s) (start p s.calls) hist) (from : Port) (index : ℕ) (x : Item) → IsGiven s hist from index x → IsOutcome g.next x
  is_outcome hist g from index x given =
      let it = given_in_place hist g from index x given in
      let end = at_sink x (call_of x) it.state it.fits in
      record { call = call_of x; how = end.0; is_end = end.2; outcome = ap outcome_in (it.is_state ∙ ap Some end.1) }

  pub explained : (hist : List Happening) → Simulates s p r Agrees → IsHistory s hist → Explained s p hist
  explained hist sim h =
      let g = histories_agree s p r Agrees hist sim h in
      record { end = g.next; legal = g.legal; gives = λ from index x given. is_outcome hist g from index x given }

  pub ends_once : (hist : List Happening) → Simulates s p r Agrees → IsHistory s hist
      → (one other : Port) (i j : ℕ) (x y : Item) → IsGiven s hist one i x → IsGiven s hist other j y → call_of x ≡ call_of y → (one ≡ other) × (i ≡ j) × (x ≡ y)
  ends_once hist sim h one other i j x y given also same =
      let g = histories_agree s p r Agrees hist sim h in
      let it = given_in_place hist g one i x given in
      let that = given_in_place hist g other j y also in
      let x_is = (at_sink x (call_of x) it.state it.fits).2 in
      let y_is = (at_sink y (call_of y) that.state that.fits).2 in
      let places : InChannel one port.Sink i ≡ InChannel other port.Sink j =
      sym it.placed ∙ ap (g.place (call_of x)) (ap (part_of port.Sink) x_is) ∙ ap (λ (c : ℕ). g.place c None) same ∙ sym (ap (g.place (call_of y)) (ap (part_of port.Sink) y_is)) ∙ that.placed in
      let from_is : one ≡ other = cc in
      let index_is : i ≡ j = cc in
      let moved : IsGiven s hist other j x = ap (λ (q : Port). slice_get (((now_of s hist).cells q).gave port.Sink) j) (sym from_is) ∙ ap (slice_get (((now_of s hist).cells one).gave port.Sink)) (sym index_is) ∙ given in
      (from_is, index_is, same_Some x y (sym moved ∙ also))

  -- ---- completeness

  -- a channel of a cell that has something ahead has something to take
  something_left : (now : Now State) (from to : Port) (index : ℕ) (x : Item) → NothingIsLeft now → IsCell now.widths to → Stands now.cells (InChannel from to index) x → ⊥
  something_left now from to index x none is_cell h =
      let l = slice_get_within ((now.cells from).gave to) index x h.1 in
      let t = there ((now.cells from).gave to) ((now.cells to).took from) (below ((now.cells to).took from) index (length ((now.cells from).gave to)) h.0 l) in
      let no = none from to is_cell in
      not_below 0 (slice_get ((now.cells from).gave to) ((now.cells to).took from)) t.0 no t.1
    where
      below : (a b c : ℕ) → a ≤ b → b < c → a < c
      below a b c l m = omega arith

  -- so what is ahead is for the sink
  only_sink : (now : Now State) (from to : Port) (index : ℕ) (x : Item) → NothingIsLeft now → IsReceiver now.widths to → Stands now.cells (InChannel from to index) x → to ≡ port.Sink
  only_sink now from port.Sink index x none is h = refl
  only_sink now from port.Caller index x none is h = absurd is
  only_sink now from port.Front index x none is h = absurd (something_left now from port.Front index x none is h)
  only_sink now from port.Join index x none is h = absurd (something_left now from port.Join index x none is h)
  only_sink now from (port.Slot f a) index x none is h = absurd (something_left now from (port.Slot f a) index x none is h)
  only_sink now from (port.Inst f n) index x none is h = absurd (something_left now from (port.Inst f n) index x none is h)

  -- a call as a whole stands nowhere but before the sink
  result_at : (hist : List Happening) (g : Agreed s p r Agrees (at_start s) (start p s.calls) hist) → NothingIsLeft (now_of s hist) → (c : ℕ) (at : Place) (x : Item)
      → Stands (now_of s hist).cells at x → call_of x ≡ c → part_of (receiver at) x ≡ None → HasResult s hist c
  result_at hist g none c (Parked q n) x stands of_call of_part = absurd (let it = (g.agreement.items (Parked q n) x stands).tagged.1 in let both : Some n ≡ None = sym it ∙ of_part in cc)
  result_at hist g none c (InChannel from to index) x stands of_call of_part =
      let to_is = only_sink (now_of s hist) from to index x none (g.agreement.items (InChannel from to index) x stands).is_open.1 stands in
      let P : Port → Type 0 = λ q. Stands (now_of s hist).cells (InChannel from q index) x in
      let here : P port.Sink = subst P to_is stands in
      let it = given_in_place hist g from index x here.1 in
      let end = at_sink x (call_of x) it.state it.fits in
      record { from = from; index = index; how = end.0; given = here.1 ∙ ap Some (end.2 ∙ ap (λ (d : ℕ). item.Done d end.0) of_call) }

  -- a call that visits waits for something that a cell could take
  visits_on : (hist : List Happening) (g : Agreed s p r Agrees (at_start s) (start p s.calls) hist) → NothingIsLeft (now_of s hist) → (c : ℕ) (w : Waiting) (visited : List (Option Outcome)) → nth g.next.calls c ≡ Some (Visiting w visited) → ⊥
  visits_on hist g none c w visited is_state =
      let m = g.agreement.awaits c w visited is_state in
      let it = g.agreement.present c (Visiting w visited) (Some m.number) is_state (m.number, refl, m.below) in
      go (g.place c (Some m.number)) m.ahead it.it it.stands it.of_call
    where
      go : (at : Place) → IsInChannel at → (x : Item) → Stands (now_of s hist).cells at x → call_of x ≡ c → ⊥
      go (Parked q n) ahead x stands of_call = absurd ahead
      go (InChannel from to index) ahead x stands of_call =
          let to_is = only_sink (now_of s hist) from to index x none (g.agreement.items (InChannel from to index) x stands).is_open.1 stands in
          let P : Port → Type 0 = λ q. Stands (now_of s hist).cells (InChannel from q index) x in
          let here : P port.Sink = subst P to_is stands in
          let found = given_in_place hist g from index x here.1 in
          let end = at_sink x (call_of x) found.state found.fits in
          let both : ◌≡◌ {A = Option (CallState Waiting)} (Some (Visiting w visited)) (Some (Ended end.0)) = sym is_state ∙ ap (nth g.next.calls) (sym of_call) ∙ found.is_state ∙ ap Some end.1 in
          absurd cc

  by_state : (hist : List Happening) (g : Agreed s p r Agrees (at_start s) (start p s.calls) hist) → NothingIsLeft (now_of s hist) → (c : ℕ) (state : CallState Waiting) → nth g.next.calls c ≡ Some state → HasResult s hist c
  by_state hist g none c Fresh is = let it = g.agreement.present c Fresh None is refl in result_at hist g none c (g.place c None) it.it it.stands it.of_call it.of_part
  by_state hist g none c (At w) is = let it = g.agreement.present c (At w) None is refl in result_at hist g none c (g.place c None) it.it it.stands it.of_call it.of_part
  by_state hist g none c (Ended how) is = let it = g.agreement.present c (Ended how) None is refl in result_at hist g none c (g.place c None) it.it it.stands it.of_call it.of_part
  by_state hist g none c (Visiting w visited) is = absurd (visits_on hist g none c w visited is)

  -- as many states as calls
  state_there : (calls : List Call) (states : List (CallState Waiting)) (c : ℕ) (call : Call) → length states ≡ length calls → nth calls c ≡ Some call → (state : CallState Waiting) × (nth states c ≡ Some state)
  state_there calls states zero call same e = absurd cc
  state_there calls states (suc i) call same e = let l = slice_get_within calls i call e in there states i (omega arith)

  pub call_ends : (hist : List Happening) → Simulates s p r Agrees → IsHistory s hist → NothingIsLeft (now_of s hist) → (c : ℕ) (call : Call) → nth s.calls c ≡ Some call → HasResult s hist c
  call_ends hist sim h none c call is_call =
      let g = histories_agree s p r Agrees hist sim h in
      let st = state_there s.calls g.next.calls c call g.agreement.as_many is_call in
      by_state hist g none c st.0 st.1

pub every_history_is_explained : (State Waiting Fields Contents Link : Type 0) → EveryHistoryIsExplained State Waiting Fields Contents Link
every_history_is_explained State Waiting Fields Contents Link s p r l hist sim h = explained s p r (AreLinked l) hist sim h

pub every_call_ends_once : (State Waiting Fields Contents Link : Type 0) → EveryCallEndsOnce State Waiting Fields Contents Link
every_call_ends_once State Waiting Fields Contents Link s p r l hist sim h one other i j x y given also same = ends_once s p r (AreLinked l) hist sim h one other i j x y given also same

pub every_call_ends : (State Waiting Fields Contents Link : Type 0) → EveryCallEnds State Waiting Fields Contents Link
every_call_ends State Waiting Fields Contents Link s p r l hist sim h none c call is_call = call_ends s p r (AreLinked l) hist sim h none c call is_call

pub histories_are_short : (State Waiting Fields Contents Link : Type 0) → HistoriesAreShort State Waiting Fields Contents Link
histories_are_short State Waiting Fields Contents Link s p r l left most hist sim falls wide h = short s p r (AreLinked l) left most hist sim falls wide h

-- ---- visits

may_visit : {Waiting Fields : Type 0} (p : Program Waiting Fields) (now next : Source Waiting Fields) (c number : ℕ) (o : Option (CallState Waiting)) → nth now.calls c ≡ o → visits p now c number o ≡ Some next → MayVisit now c number
may_visit p now next c number None is e = absurd cc
may_visit p now next c number (Some Fresh) is e = absurd cc
may_visit p now next c number (Some (At w)) is e = absurd cc
may_visit p now next c number (Some (Ended how)) is e = absurd cc
may_visit p now next c number (Some (Visiting w visited)) is e = go (slice_get visited number) refl e
  where
    go : (o : Option (Option Outcome)) → slice_get visited number ≡ o → visit_at p now c number w visited o ≡ Some next → MayVisit now c number
    go None at e = absurd cc
    go (Some (Some how)) at e = absurd cc
    go (Some None) at e = record { waiting = w; visited = visited; visits = is; below = slice_get_within visited number None at; unmade = at }

calls_stay : {Waiting Fields : Type 0} (b : Bool) (now grown next : Source Waiting Fields) → grown.calls ≡ now.calls → (if b then Some grown else None) ≡ Some next → next.calls ≡ now.calls
calls_stay true now grown next same e = let is : grown ≡ next = same_Some grown next e in ap (λ (q : Source _ _). q.calls) (sym is) ∙ same
calls_stay false now grown next same e = absurd cc

pub visits_are_of_the_noted : (Waiting Fields : Type 0) → VisitsAreOfTheNoted Waiting Fields
visits_are_of_the_noted Waiting Fields = record {
  visit = λ p calls now next c number e. may_visit p now next c number (nth now.calls c) refl e;
  growth = λ p calls now next field e. calls_stay (p.is_partial field && nat_lt (p.width now.fields field) most_wide) now (record { fields = p.grown field now.fields; calls = now.calls }) next refl e;
}
