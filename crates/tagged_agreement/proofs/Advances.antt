-- An item that a cell takes, and the step of the source that goes with it.
use Rattle.std.proofs.Common.{◌≡◌, ◌≢◌, int_eq, ℕ, zero, suc, ◌<◌, ◌≤◌, ℤ, Bool, true, false, List, [], ◌∷◌, length, Option, Some, None, ◌⊎◌, inl, inr, slice_get, slice_set, if◌then◌else◌, refl, ap, sym, ◌∙◌, subst, arith, ◌+◌}
use Rattle.std.proofs.lemmas.Bool.Decides.{Decides-int_eq}
use Rattle.std.proofs.lemmas.Option.{same_Some, slice_get_within}
use Rattle.sdg_base.specs.declared.val.Outcome.{Outcome}
use Rattle.sdg_base.specs.declared.call.Step.{Step}
use Rattle.sdg_base.specs.declared.call.Step.TheVariants as step
use Rattle.sdg_base.specs.declared.port.Port.{Port}
use Rattle.sdg_base.specs.declared.port.Port.TheVariants as port
use Rattle.sdg_base.specs.declared.item.Item.{Item}
use Rattle.sdg_base.specs.declared.item.Item.TheVariants as item
use Rattle.sdg_base.specs.Ports.{same_port}
use Rattle.sdg_base.proofs.Ports.{same_port-other}
use Rattle.tagged_agreement.specs.Machine.{Out, Send, Broadcast, ToJoin, Result, Wait, Ignore, Ran, Parts, call_of, part_of, parts_for, Progress, gathered_after}
use Rattle.tagged_agreement.specs.History.{Setup, IsCell, shown_entry, shown_join, most_wide}
use Rattle.tagged_agreement.specs.Source.{Site, Keyed, Local, Global, CallState, Fresh, At, Visiting, Ended, Program, Source, nth, state_of, with_call, moved, all_there, cons_some, begins, may_block, goes_on, visit_at, visits, join_with, joins, steps_after}
use Rattle.tagged_agreement.specs.Simulation.{Piece, OfKey, OfInstance, port_of, instance_of, IsOn, Reading, IsWork, IsVisit, IsPart, Answers, ChangesAt, Gathers, AreWide, Simulates}
use Rattle.tagged_agreement.proofs.Lists.{bool_cases, number_cases, nth_same, nth_other}
use Rattle.tagged_agreement.proofs.Channels.{Place, Parked, receiver, old_place, new_place, stepped_own, stepped_other, port_cases, differ, IsLast, IsKept, Stayed, waits_parked, Stands, stepped}
use Rattle.tagged_agreement.proofs.Invariant.{VisitAt, PartAt, Fits, Agreement}
use Rattle.tagged_agreement.proofs.Changes.{AreStepped, from_stepped}
use Rattle.tagged_agreement.specs.Laws.{Falls}
use Rattle.tagged_agreement.proofs.Weights.{weight, weight_in, total, total_falls, begin_falls, block_falls, join_falls, visit_falls, wait_falls, gathered_apart, gathered_beside}
use Rattle.tagged_agreement.proofs.Moves.{IsIdle, is_below, work_is, visit_is, all_moved, move_agrees, not_idle}
use Rattle.tagged_agreement.proofs.Parts.{part_is, part_moved, fits_still, visit_agrees, wait_agrees}

itself : (n : ℕ) → n ≤ n
itself n = omega arith

-- ---- pieces

key_cases : (k key : ℤ) → (k ≡ key) ⊎ (k ≢ key)
key_cases k key = elim (bool_cases (int_eq k key)) [ inl e ↦ inl ((Decides-int_eq k key).0 e) | inr e ↦ inr (λ same. absurd (clash e ((Decides-int_eq k key).1 same))) ]
  where
    clash : int_eq k key ≡ false → int_eq k key ≡ true → ⊥
    clash e h = absurd cc

both_cases : {A B C : Type 0} (F : A → B → C) (first : C → A) (second : C → B) (a c : A) (b d : B) → first (F a b) ≡ a → first (F c d) ≡ c → second (F a b) ≡ b → second (F c d) ≡ d
    → (a ≡ c) ⊎ (a ≢ c) → (b ≡ d) ⊎ (b ≢ d) → (F a b ≡ F c d) ⊎ (F a b ≢ F c d)
both_cases F first second a c b d fa fc sb sd (inl e) (inl f) = inl (ap (λ x. F x b) e ∙ ap (F c) f)
both_cases F first second a c b d fa fc sb sd (inr ne) f = inr (λ same. ne (sym fa ∙ ap first same ∙ fc))
both_cases F first second a c b d fa fc sb sd (inl e) (inr ne) = inr (λ same. ne (sym sb ∙ ap second same ∙ sd))

abbrev field_of : Piece → ℕ
field_of (OfKey field key) = field
field_of (OfInstance field number) = field

abbrev key_of : ℤ → Piece → ℤ
key_of default (OfKey field key) = key
key_of default (OfInstance field number) = default

abbrev number_in : Piece → ℕ
number_in (OfKey field key) = 0
number_in (OfInstance field number) = number

piece_cases : (q piece : Piece) → (q ≡ piece) ⊎ (q ≢ piece)
piece_cases (OfKey f k) (OfKey g l) = both_cases OfKey field_of (key_of k) f g k l refl refl refl refl (number_cases f g) (key_cases k l)
piece_cases (OfInstance f n) (OfInstance g m) = both_cases OfInstance field_of number_in f g n m refl refl refl refl (number_cases f g) (number_cases n m)
piece_cases (OfKey f k) (OfInstance g m) = inr (λ e. absurd cc)
piece_cases (OfInstance f n) (OfKey g l) = inr (λ e. absurd cc)

apart_from_front : {State : Type 0} (s : Setup State) (piece : Piece) → same_port port.Front (port_of s piece) ≡ false
apart_from_front s (OfKey f k) = same_port-other port.Front (port.Slot f (s.slot_of k)) (λ e. absurd cc)
apart_from_front s (OfInstance f n) = same_port-other port.Front (port.Inst f n) (λ e. absurd cc)

apart_from_join : {State : Type 0} (s : Setup State) (piece : Piece) → same_port port.Join (port_of s piece) ≡ false
apart_from_join s (OfKey f k) = same_port-other port.Join (port.Slot f (s.slot_of k)) (λ e. absurd cc)
apart_from_join s (OfInstance f n) = same_port-other port.Join (port.Inst f n) (λ e. absurd cc)

-- ---- what is shown

shown_block : {State : Type 0} (s : Setup State) (piece : Piece) (c : ℕ) (x : Item) (out : Out) → IsWork c x → shown_entry (port_of s piece) x out ≡ step.Block (call_of x) (instance_of piece) ∷ []
shown_block s (OfKey f k) c x out h = refl
shown_block s (OfInstance f n) c (item.Work call t key turns vars) out h = refl
shown_block s (OfInstance f n) c (item.Start call m args) out h = absurd h
shown_block s (OfInstance f n) c (item.Visit call t w turns vars) out h = absurd h
shown_block s (OfInstance f n) c (item.Part call t w m turns vars value) out h = absurd h
shown_block s (OfInstance f n) c (item.Done call o) out h = absurd h

shown_visit : (field n c width : ℕ) (x : Item) (out : Out) → IsVisit c width x → shown_entry (port.Inst field n) x out ≡ step.Visit (call_of x) n ∷ []
shown_visit field n c width (item.Visit call t w turns vars) out h = refl
shown_visit field n c width (item.Work call t key turns vars) out h = absurd h
shown_visit field n c width (item.Start call m args) out h = absurd h
shown_visit field n c width (item.Part call t w m turns vars value) out h = absurd h
shown_visit field n c width (item.Done call o) out h = absurd h

shown_last : (c : ℕ) (out : Out) → (IsIdle out → ⊥) → shown_join c out ≡ step.Join c ∷ []
shown_last c (Send to x) h = refl
shown_last c (Broadcast f w x) h = refl
shown_last c (ToJoin x) h = refl
shown_last c (Result x) h = refl
shown_last c Wait h = absurd (h tt)
shown_last c Ignore h = absurd (h tt)

allowed : {State : Type 0} (s : Setup State) (widths : ℕ → ℕ) (site : Site) (piece : Piece) → IsOn site piece → IsCell widths (port_of s piece) → may_block widths (instance_of piece) site ≡ true
allowed s widths (Keyed field key) (OfKey f k) on is_cell = refl
allowed s widths (Local field) (OfInstance f n) on is_cell = is_below n (widths field) (let P : ℕ → Type 0 = λ g. n < widths g in subst P on is_cell)
allowed s widths (Keyed field key) (OfInstance f n) on is_cell = absurd on
allowed s widths (Local field) (OfKey f k) on is_cell = absurd on
allowed s widths (Global field) piece on is_cell = absurd on

-- ---- parts at the join

parts_are : (c width number : ℕ) (outcome : Outcome) (x : Item) (gathered : ℕ → Parts) → IsPart c width number outcome x → parts_for x gathered ≡ gathered (call_of x)
parts_are c width number outcome (item.Part call t w n turns vars value) gathered h = refl
parts_are c width number outcome (item.Work call t key turns vars) gathered h = absurd h
parts_are c width number outcome (item.Start call m args) gathered h = absurd h
parts_are c width number outcome (item.Visit call t w turns vars) gathered h = absurd h
parts_are c width number outcome (item.Done call o) gathered h = absurd h

is_last : (c width number : ℕ) (outcome : Outcome) (x : Item) (out : Out) → IsPart c width number outcome x → (IsIdle out → ⊥) → IsLast x out
is_last c width number outcome (item.Part call t w n turns vars value) (Send to x) h ne = tt
is_last c width number outcome (item.Part call t w n turns vars value) (Broadcast f m x) h ne = tt
is_last c width number outcome (item.Part call t w n turns vars value) (ToJoin x) h ne = tt
is_last c width number outcome (item.Part call t w n turns vars value) (Result x) h ne = tt
is_last c width number outcome (item.Part call t w n turns vars value) Wait h ne = absurd (ne tt)
is_last c width number outcome (item.Part call t w n turns vars value) Ignore h ne = absurd (ne tt)
is_last c width number outcome (item.Work call t key turns vars) out h ne = absurd h
is_last c width number outcome (item.Start call m args) out h ne = absurd h
is_last c width number outcome (item.Visit call t w turns vars) out h ne = absurd h
is_last c width number outcome (item.Done call o) out h ne = absurd h

-- all the other parts below a width are there, or one is not
abbrev AllOthers : Parts → ℕ → ℕ → Type 0
AllOthers parts n width = (k : ℕ) → k < width → k ≢ n → (y : Item) × (parts k ≡ Some y)

record OneMissing (parts : Parts) (n width : ℕ) : Type 0 where
  number : ℕ
  below : number < width
  other : number ≢ n
  missing : parts number ≡ None

all_or_missing : (parts : Parts) (n width : ℕ) → AllOthers parts n width ⊎ OneMissing parts n width
all_or_missing parts n zero = inl (λ k l ne. absurd (omega arith))
all_or_missing parts n (suc width) =
    elim (all_or_missing parts n width) [
      | inr m ↦ inr (record { number = m.number; below = more m.number width m.below; other = m.other; missing = m.missing })
      | inl all ↦ elim (number_cases width n) [
        | inl same ↦ inl (λ k l ne. all k (less k width l (λ e. ne (e ∙ same))) ne)
        | inr ne ↦ at_last ne all (parts width) refl
      ]
    ]
  where
    more : (a b : ℕ) → a < b → a < suc b
    more a b l = omega arith

    less : (a b : ℕ) → a < suc b → (a ≡ b → ⊥) → a < b
    less a b l ne = omega arith

    at_last : width ≢ n → AllOthers parts n width → (o : Option Item) → parts width ≡ o → AllOthers parts n (suc width) ⊎ OneMissing parts n (suc width)
    at_last ne all None is = inr (record { number = width; below = omega arith; other = ne; missing = is })
    at_last ne all (Some y) is = inl (λ k l k_ne. elim (number_cases k width) [ inl same ↦ (y, ap parts same ∙ is) | inr other ↦ all k (less k width l other) k_ne ])

all_made : (visited : List (Option Outcome)) → ((k : ℕ) → k < length visited → (o : Outcome) × (slice_get visited k ≡ Some (Some o))) → (outcomes : List Outcome) × (all_there visited ≡ Some outcomes)
all_made [] made = ([], refl)
all_made (o ∷ visited) made =
    let first = made 0 (some (length visited)) in
    let rest = all_made visited (λ k l. made (suc k) (more k (length visited) l)) in
    let e : o ≡ Some first.0 = cc in
    (first.0 ∷ rest.0, ap (λ (q : Option Outcome). cons_some q (all_there visited)) e ∙ ap (cons_some (Some first.0)) rest.1)
  where
    some : (n : ℕ) → 0 < suc n
    some n = omega arith

    more : (k n : ℕ) → k < n → suc k < suc n
    more k n l = omega arith

module _ {State Waiting Fields Contents : Type 0} (s : Setup State) (p : Program Waiting Fields) (r : Reading State Fields Contents) (Agrees : Item → Waiting → Type 0) where
  -- what is known where a cell takes an item
  pub record Taking (cells cells' : Port → Progress State) (widths : ℕ → ℕ) (own from : Port) (x : Item) : Type 0 where
    pub given : slice_get ((cells from).gave own) ((cells own).took from) ≡ Some x
    pub is_cell : IsCell widths own
    pub ran : Ran State
    pub steps : AreStepped own from x ran cells cells'
    pub pick : ℕ
    pub runs_so : ran ≡ s.machine.runs own x (parts_for x (cells own).gathered) (cells own).state pick widths

  -- more than the entries that are to come
  abbrev pub remaining : (Waiting → ℕ) → ℕ → (Port → Progress State) → Source Waiting Fields → ℕ
  remaining left most cells src = total (λ c. weight_in left most ((cells port.Join).gathered c) (nth src.calls c)) (length s.calls)

  -- each entry takes one of them at least
  abbrev pub IsLess : (cells cells' : Port → Progress State) (widths : ℕ → ℕ) (src next : Source Waiting Fields) → ℕ → Type 0
  IsLess cells cells' widths src next n =
      (left : Waiting → ℕ) (most : ℕ) → Falls p left most → ((field : ℕ) → widths field ≤ most_wide) → remaining left most cells' next + n ≤ remaining left most cells src

  -- what the source comes to by the steps that are shown, in agreement
  pub record Advanced (cells cells' : Port → Progress State) (widths widths' : ℕ → ℕ) (src : Source Waiting Fields) (steps : List Step) (n : ℕ) : Type 0 where
    pub next : Source Waiting Fields
    pub place : ℕ → Option ℕ → Place
    pub agreement : Agreement s p r Agrees cells' widths' next place
    pub legal : steps_after p s.calls (Some src) steps ≡ Some next
    pub less : IsLess cells cells' widths src next n

  -- ---- values

  values_kept : (cells cells' : Port → Progress State) (own from : Port) (x : Item) (ran : Ran State) (fields : Fields) → AreStepped own from x ran cells cells'
      → ((piece : Piece) → same_port own (port_of s piece) ≡ false) → ((piece : Piece) → r.held (cells (port_of s piece)).state piece ≡ r.value fields piece)
      → (piece : Piece) → r.held (cells' (port_of s piece)).state piece ≡ r.value fields piece
  values_kept cells cells' own from x ran fields steps other values piece =
      ap (λ (q : Progress State). r.held q.state piece) (steps (port_of s piece) ∙ stepped_other own from x ran cells (port_of s piece) (other piece)) ∙ values piece

  values_changed : (cells cells' : Port → Progress State) (own from : Port) (x : Item) (ran : Ran State) (fields fields' : Fields) (piece : Piece) → AreStepped own from x ran cells cells' → own ≡ port_of s piece
      → ((q : Piece) → r.held (cells (port_of s q)).state q ≡ r.value fields q) → ChangesAt s p r piece (cells own).state ran.state fields fields'
      → (q : Piece) → r.held (cells' (port_of s q)).state q ≡ r.value fields' q
  values_changed cells cells' own from x ran fields fields' piece steps at values ch q =
      elim (port_cases own (port_of s q)) [
        | inl same ↦
            ap (λ (now : Progress State). r.held now.state q) (steps (port_of s q) ∙ stepped_own own from x ran cells (port_of s q) same)
            ∙ elim (piece_cases q piece) [
              | inl is ↦ ap (r.held ran.state) is ∙ ch.same ∙ ap (r.value fields') (sym is)
              | inr ne ↦
                  ch.cell_others q (sym same ∙ at) ne
                  ∙ ap (λ (o : Port). r.held (cells o).state q) same
                  ∙ values q
                  ∙ sym (ch.field_others q ne)
            ]
        | inr other ↦
            ap (λ (now : Progress State). r.held now.state q) (steps (port_of s q) ∙ stepped_other own from x ran cells (port_of s q) other)
            ∙ values q
            ∙ sym (ch.field_others q (λ e. differ own (port_of s q) other (at ∙ ap (port_of s) (sym e))))
      ]

  same_widths : (f g : ℕ → ℕ) → ((n : ℕ) → f n ≡ g n) → f ≡ g
  same_widths f g e = λ i n. e n i

  -- ---- calls as a whole

  -- of a call as a whole nothing else stands anywhere
  alone : (cells : Port → Progress State) (widths : ℕ → ℕ) (src : Source Waiting Fields) (place : ℕ → Option ℕ → Place) (own from : Port) (x : Item) (out : Out) (state : CallState Waiting)
      → Agreement s p r Agrees cells widths src place → slice_get ((cells from).gave own) ((cells own).took from) ≡ Some x → nth src.calls (call_of x) ≡ Some state
      → ((to : Port) (y : Item) (c : ℕ) → Fits s p r Agrees to y c state → part_of to y ≡ None)
      → (at : Place) (y : Item) → Stayed own from x out cells at y → call_of y ≡ call_of x → ⊥
  alone cells widths src place own from x out state a given is_state whole at y st same =
      let old = a.items at y st.stood in
      let taken = a.items (old_place own from cells) x (itself ((cells own).took from), given) in
      let y_is : part_of (receiver at) y ≡ None = whole (receiver at) y (call_of y)
      (let e : old.state ≡ state = same_Some old.state state (sym old.is_state ∙ ap (nth src.calls) same ∙ is_state) in subst (λ (q : CallState Waiting). Fits s p r Agrees (receiver at) y (call_of y) q) e old.fits) in
      let x_is : part_of own x ≡ None = whole own x (call_of x)
      (let e : taken.state ≡ state = same_Some taken.state state (sym taken.is_state ∙ is_state) in subst (λ (q : CallState Waiting). Fits s p r Agrees own x (call_of x) q) e taken.fits) in
      st.not_taken (sym old.placed ∙ ap (λ (c : ℕ). place c (part_of (receiver at) y)) same ∙ ap (place (call_of x)) (y_is ∙ sym x_is) ∙ taken.placed)

  fresh_whole : (to : Port) (y : Item) (c : ℕ) → Fits s p r Agrees to y c Fresh → part_of to y ≡ None
  fresh_whole to y c h = ap (part_of to) h.1.2

  at_whole : (w : Waiting) (to : Port) (y : Item) (c : ℕ) → Fits s p r Agrees to y c (At w) → part_of to y ≡ None
  at_whole w to y c h = (work_is c to y h.work).1

  -- ---- what is to come

  numbered : (states : List (CallState Waiting)) (c : ℕ) (state : CallState Waiting) → nth states c ≡ Some state → (1 ≤ c) × (c ≤ length states)
  numbered states zero state e = absurd cc
  numbered states (suc i) state e = let l = slice_get_within states i state e in (omega arith, omega arith)

  gathered_of_others : (cells cells' : Port → Progress State) (own from : Port) (x : Item) (ran : Ran State) (c : ℕ) → AreStepped own from x ran cells cells' → c ≢ call_of x → (cells' port.Join).gathered c ≡ (cells port.Join).gathered c
  gathered_of_others cells cells' own from x ran c steps ne =
      ap (λ (q : Progress State). q.gathered c) (steps port.Join)
      ∙ elim (port_cases own port.Join) [
        | inl same ↦ ap (λ (q : Progress State). q.gathered c) (stepped_own own from x ran cells port.Join same) ∙ (λ i k. gathered_apart x ran.out (cells port.Join).gathered c k ne i)
        | inr other ↦ ap (λ (q : Progress State). q.gathered c) (stepped_other own from x ran cells port.Join other)
      ]

  less_by : (cells cells' : Port → Progress State) (widths : ℕ → ℕ) (src next : Source Waiting Fields) (place : ℕ → Option ℕ → Place) (own from : Port) (x : Item) (ran : Ran State) (old new : CallState Waiting)
      → Agreement s p r Agrees cells widths src place → AreStepped own from x ran cells cells' → nth src.calls (call_of x) ≡ Some old → nth next.calls (call_of x) ≡ Some new
      → ((c : ℕ) → c ≢ call_of x → nth next.calls c ≡ nth src.calls c) → (left : Waiting → ℕ) (most : ℕ)
      → weight left most ((cells' port.Join).gathered (call_of x)) new < weight left most ((cells port.Join).gathered (call_of x)) old
      → remaining left most cells' next + 1 ≤ remaining left most cells src
  less_by cells cells' widths src next place own from x ran old new a steps was is others left most l =
      let f : ℕ → ℕ = λ c. weight_in left most ((cells' port.Join).gathered c) (nth next.calls c) in
      let g : ℕ → ℕ = λ c. weight_in left most ((cells port.Join).gathered c) (nth src.calls c) in
      let bounds = numbered src.calls (call_of x) old was in
      let high : call_of x ≤ length s.calls = subst (λ (n : ℕ). call_of x ≤ n) a.as_many bounds.1 in
      let here : f (call_of x) < g (call_of x) =
      subst (λ (o : Option (CallState Waiting)). weight_in left most ((cells' port.Join).gathered (call_of x)) o < g (call_of x)) (sym is)
      (subst (λ (o : Option (CallState Waiting)). weight left most ((cells' port.Join).gathered (call_of x)) new < weight_in left most ((cells port.Join).gathered (call_of x)) o) (sym was) l) in
      fewer (total f (length s.calls)) (total g (length s.calls))
      (total_falls f g (call_of x) (length s.calls) bounds.0 high here
      (λ c ne. ap (λ (parts : Parts). weight_in left most parts (nth next.calls c)) (gathered_of_others cells cells' own from x ran c steps ne) ∙ ap (weight_in left most ((cells port.Join).gathered c)) (others c ne)))
    where
      fewer : (a b : ℕ) → a < b → a + 1 ≤ b
      fewer a b l = omega arith

  -- ---- a call begins

  advance_begin : (cells cells' : Port → Progress State) (widths : ℕ → ℕ) (src : Source Waiting Fields) (place : ℕ → Option ℕ → Place) (own from : Port) (x : Item)
      → Simulates s p r Agrees → (a : Agreement s p r Agrees cells widths src place) → (t : Taking cells cells' widths own from x) → nth src.calls (call_of x) ≡ Some Fresh → Fits s p r Agrees own x (call_of x) Fresh
      → Advanced cells cells' widths widths src (shown_entry own x t.ran.out) 1
  advance_begin cells cells' widths src place own from x sim a t was fits =
      let c = call_of x in
      let call = fits.1.0 in
      let next = p.begun call in
      let ran_is : t.ran ≡ s.machine.runs port.Front (item.Start c call.method call.args) (parts_for x (cells own).gathered) (cells own).state t.pick widths =
      t.runs_so ∙ ap (λ (q : Port). s.machine.runs q x (parts_for x (cells own).gathered) (cells own).state t.pick widths) fits.0
      ∙ ap (λ (y : Item). s.machine.runs port.Front y (parts_for x (cells own).gathered) (cells own).state t.pick widths) fits.1.2 in
      let kind_before : r.is_kind port.Front (cells own).state ≡ true = subst (λ (q : Port). r.is_kind q (cells own).state ≡ true) fits.0 (a.kinds own) in
      let b = sim.begins c call (parts_for x (cells own).gathered) (cells own).state t.pick widths a.some kind_before fits.1.1 in
      let answers : Answers s p Agrees c widths t.ran.out next = subst (λ (q : Ran State). Answers s p Agrees c widths q.out next) (sym ran_is) b.answers in
      let kind : r.is_kind own t.ran.state ≡ true = subst (λ (q : Port). r.is_kind q t.ran.state ≡ true) (sym fits.0) (subst (λ (q : Ran State). r.is_kind port.Front q.state ≡ true) (sym ran_is) b.kind) in
      let other : (piece : Piece) → same_port own (port_of s piece) ≡ false = λ piece. ap (λ (q : Port). same_port q (port_of s piece)) fits.0 ∙ apart_from_front s piece in
      record {
        next = with_call src c (state_of p widths next) src.fields;
        place = all_moved own t.ran.out cells c place;
        agreement = move_agrees s p r Agrees cells cells' widths src place own from x next src.fields a (record {
          given = t.given;
          is_cell = t.is_cell;
          ran = t.ran;
          steps = t.steps;
          values = values_kept cells cells' own from x t.ran src.fields t.steps other a.values;
          as_wide = a.as_wide;
          kind = kind;
          whole = a.whole;
          old = Fresh;
          was = was;
          answers = answers;
          gone = alone cells widths src place own from x t.ran.out Fresh a t.given was fresh_whole;
        });
        legal =
            ap (λ (q : Port). steps_after p s.calls (Some src) (shown_entry q x t.ran.out)) fits.0
            ∙ ap (λ (o : Option (CallState Waiting)). begins p src c o (nth s.calls c)) was
            ∙ ap (begins p src c (Some Fresh)) fits.1.1
            ∙ ap (λ (u : ℕ → ℕ). Some (with_call src c (state_of p u next) src.fields)) a.as_wide;
        less = λ left most falls wide.
            less_by cells cells' widths src (with_call src c (state_of p widths next) src.fields) place own from x t.ran Fresh (state_of p widths next) a t.steps was
            (nth_same src.calls c Fresh (state_of p widths next) was) (λ q ne. nth_other src.calls c q (state_of p widths next) ne) left most
            (begin_falls p left most falls widths ((cells port.Join).gathered c) ((cells' port.Join).gathered c) call wide);
      }

  -- ---- a call runs a block

  advance_block : (cells cells' : Port → Progress State) (widths : ℕ → ℕ) (src : Source Waiting Fields) (place : ℕ → Option ℕ → Place) (own from : Port) (x : Item) (w : Waiting)
      → Simulates s p r Agrees → (a : Agreement s p r Agrees cells widths src place) → (t : Taking cells cells' widths own from x) → nth src.calls (call_of x) ≡ Some (At w) → Fits s p r Agrees own x (call_of x) (At w)
      → Advanced cells cells' widths widths src (shown_entry own x t.ran.out) 1
  advance_block cells cells' widths src place own from x w sim a t was fits =
      let c = call_of x in
      let piece = fits.piece in
      let inst = instance_of piece in
      let parts = parts_for x (cells own).gathered in
      let next = (p.block w inst src.fields).0 in
      let fields = (p.block w inst src.fields).1 in
      let held : r.held (cells own).state piece ≡ r.value src.fields piece = ap (λ (q : Port). r.held (cells q).state piece) fits.at ∙ a.values piece in
      let wide : AreWide (p.width src.fields) = subst (λ (u : ℕ → ℕ). AreWide u) (sym a.as_wide) a.some in
      let cell_at : IsCell widths (port_of s piece) = subst (λ (q : Port). IsCell widths q) fits.at t.is_cell in
      let there : IsCell (p.width src.fields) (port_of s piece) = subst (λ (u : ℕ → ℕ). IsCell u (port_of s piece)) (sym a.as_wide) cell_at in
      let kind_before : r.is_kind (port_of s piece) (cells own).state ≡ true = subst (λ (q : Port). r.is_kind q (cells own).state ≡ true) fits.at (a.kinds own) in
      let b = sim.blocks c w piece x parts (cells own).state src.fields t.pick wide there kind_before a.whole fits.on fits.work fits.agrees held in
      let ran_is : t.ran ≡ s.machine.runs (port_of s piece) x parts (cells own).state t.pick (p.width src.fields) =
      t.runs_so ∙ ap (λ (q : Port). s.machine.runs q x parts (cells own).state t.pick widths) fits.at
      ∙ ap (s.machine.runs (port_of s piece) x parts (cells own).state t.pick) (sym a.as_wide) in
      let changes : ChangesAt s p r piece (cells own).state t.ran.state src.fields fields = subst (λ (q : Ran State). ChangesAt s p r piece (cells own).state q.state src.fields fields) (sym ran_is) b.changes in
      let answers' : Answers s p Agrees c (p.width src.fields) t.ran.out next = subst (λ (q : Ran State). Answers s p Agrees c (p.width src.fields) q.out next) (sym ran_is) b.answers in
      let answers : Answers s p Agrees c widths t.ran.out next = subst (λ (u : ℕ → ℕ). Answers s p Agrees c u t.ran.out next) a.as_wide answers' in
      let as_wide : p.width fields ≡ widths = same_widths (p.width fields) (p.width src.fields) changes.widths ∙ a.as_wide in
      let kind : r.is_kind own t.ran.state ≡ true = subst (λ (q : Port). r.is_kind q t.ran.state ≡ true) (sym fits.at) changes.kind in
      let may : may_block (p.width src.fields) inst (p.site w) ≡ true = ap (λ (u : ℕ → ℕ). may_block u inst (p.site w)) a.as_wide ∙ allowed s widths (p.site w) piece fits.on cell_at in
      record {
        next = with_call src c (state_of p widths next) fields;
        place = all_moved own t.ran.out cells c place;
        agreement = move_agrees s p r Agrees cells cells' widths src place own from x next fields a (record {
          given = t.given;
          is_cell = t.is_cell;
          ran = t.ran;
          steps = t.steps;
          values = values_changed cells cells' own from x t.ran src.fields fields piece t.steps fits.at a.values changes;
          as_wide = as_wide;
          kind = kind;
          whole = changes.whole;
          old = At w;
          was = was;
          answers = answers;
          gone = alone cells widths src place own from x t.ran.out (At w) a t.given was (at_whole w);
        });
        legal =
            ap (λ (q : Port). steps_after p s.calls (Some src) (shown_entry q x t.ran.out)) fits.at
            ∙ ap (steps_after p s.calls (Some src)) (shown_block s piece c x t.ran.out fits.work)
            ∙ ap (goes_on p src c inst) was
            ∙ ap (λ (b : Bool). if b then Some (moved p src c (p.block w inst src.fields)) else None) may
            ∙ ap (λ (u : ℕ → ℕ). Some (with_call src c (state_of p u next) fields)) as_wide;
        less = λ left most falls wide.
            less_by cells cells' widths src (with_call src c (state_of p widths next) fields) place own from x t.ran (At w) (state_of p widths next) a t.steps was
            (nth_same src.calls c (At w) (state_of p widths next) was) (λ q ne. nth_other src.calls c q (state_of p widths next) ne) left most
            (block_falls p left most falls widths ((cells port.Join).gathered c) ((cells' port.Join).gathered c) w inst src.fields wide);
      }

  -- ---- what is gathered

  -- what is gathered for a call that visits is what its instances answered
  gathered_part : (cells : Port → Progress State) (widths : ℕ → ℕ) (src : Source Waiting Fields) (place : ℕ → Option ℕ → Place) (c : ℕ) (w : Waiting) (visited : List (Option Outcome))
      → Agreement s p r Agrees cells widths src place → nth src.calls c ≡ Some (Visiting w visited) → (i : ℕ) (y : Item) → (cells port.Join).gathered c i ≡ Some y
      → (place c (Some i) ≡ Parked c i) × ((o : Outcome) × (slice_get visited i ≡ Some (Some o)) × IsPart c (length visited) i o y × Agrees y w)
  gathered_part cells widths src place c w visited a was i y at =
      let it = a.items (Parked c i) y at in
      let placed : place c (Some i) ≡ Parked c i = ap (place c) (sym it.tagged.1) ∙ ap (λ (d : ℕ). place d (part_of port.Join y)) (sym it.tagged.0) ∙ it.placed in
      let e : it.state ≡ Visiting w visited = same_Some it.state (Visiting w visited) (sym it.is_state ∙ ap (nth src.calls) it.tagged.0 ∙ was) in
      let P : CallState Waiting → ℕ → Type 0 = λ st d. Fits s p r Agrees port.Join y d st in
      let fits : P (Visiting w visited) c = subst (λ (d : ℕ). P (Visiting w visited) d) it.tagged.0 (subst (λ (q : CallState Waiting). P q (call_of y)) e it.fits) in
      (placed, of_part c w visited i y it.tagged.1 fits)
    where
      of_part : (c : ℕ) (w : Waiting) (visited : List (Option Outcome)) (i : ℕ) (y : Item) → part_of port.Join y ≡ Some i → VisitAt s p r Agrees port.Join y c w visited ⊎ PartAt s p r Agrees port.Join y c w visited
          → (o : Outcome) × (slice_get visited i ≡ Some (Some o)) × IsPart c (length visited) i o y × Agrees y w
      of_part c w visited i y is (inl v) = absurd (let e = v.at in cc)
      of_part c w visited i y is (inr v) =
          let n_is : v.number ≡ i = same_Some v.number i (sym (part_is c (length visited) v.number v.outcome port.Join y v.part).1 ∙ is) in
          let P : ℕ → Type 0 = λ n. (slice_get visited n ≡ Some (Some v.outcome)) × IsPart c (length visited) n v.outcome y in
          let both : P i = subst P n_is (v.made, v.part) in
          (v.outcome, both.0, both.1, v.agrees)

  -- an instance that was not visited has no part that is gathered
  none_gathered : (cells : Port → Progress State) (widths : ℕ → ℕ) (src : Source Waiting Fields) (place : ℕ → Option ℕ → Place) (c : ℕ) (w : Waiting) (visited : List (Option Outcome))
      → Agreement s p r Agrees cells widths src place → nth src.calls c ≡ Some (Visiting w visited) → (n : ℕ) → slice_get visited n ≡ Some None → (cells port.Join).gathered c n ≡ None
  none_gathered cells widths src place c w visited a was n unmade = go ((cells port.Join).gathered c n) refl
    where
      go : (o : Option Item) → (cells port.Join).gathered c n ≡ o → o ≡ None
      go None e = refl
      go (Some y) e =
          let part = (gathered_part cells widths src place c w visited a was n y e).1 in
          let both : ◌≡◌ {A = Option Outcome} None (Some part.0) = same_Some None (Some part.0) (sym unmade ∙ part.1) in
          absurd cc

  -- ---- an instance is visited

  advance_visit : (cells cells' : Port → Progress State) (widths : ℕ → ℕ) (src : Source Waiting Fields) (place : ℕ → Option ℕ → Place) (own from : Port) (x : Item) (w : Waiting) (visited : List (Option Outcome))
      → Simulates s p r Agrees → (a : Agreement s p r Agrees cells widths src place) → (t : Taking cells cells' widths own from x) → nth src.calls (call_of x) ≡ Some (Visiting w visited) → VisitAt s p r Agrees own x (call_of x) w visited
      → Advanced cells cells' widths widths src (shown_entry own x t.ran.out) 1
  advance_visit cells cells' widths src place own from x w visited sim a t was fits =
      let c = call_of x in
      let n = fits.number in
      let piece = OfInstance fits.field n in
      let parts = parts_for x (cells own).gathered in
      let outcome = (p.visit w n src.fields).0 in
      let fields = (p.visit w n src.fields).1 in
      let held : r.held (cells own).state piece ≡ r.value src.fields piece = ap (λ (q : Port). r.held (cells q).state piece) fits.at ∙ a.values piece in
      let apart_join : same_port own port.Join ≡ false = ap (λ (q : Port). same_port q port.Join) fits.at ∙ same_port-other (port.Inst fits.field n) port.Join (λ e. absurd cc) in
      let cell_at : n < widths fits.field = subst (λ (q : Port). IsCell widths q) fits.at t.is_cell in
      let there : n < p.width src.fields fits.field = subst (λ (u : ℕ → ℕ). n < u fits.field) (sym a.as_wide) cell_at in
      let kind_before : r.is_kind (port.Inst fits.field n) (cells own).state ≡ true = subst (λ (q : Port). r.is_kind q (cells own).state ≡ true) fits.at (a.kinds own) in
      let v = sim.visits c (length visited) w fits.field n x parts (cells own).state src.fields t.pick there kind_before a.whole fits.site (slice_get_within visited n None fits.unmade) fits.visit fits.agrees held in
      let ran_is : t.ran ≡ s.machine.runs (port.Inst fits.field n) x parts (cells own).state t.pick (p.width src.fields) =
      t.runs_so ∙ ap (λ (q : Port). s.machine.runs q x parts (cells own).state t.pick widths) fits.at
      ∙ ap (s.machine.runs (port.Inst fits.field n) x parts (cells own).state t.pick) (sym a.as_wide) in
      let changes : ChangesAt s p r piece (cells own).state t.ran.state src.fields fields = subst (λ (q : Ran State). ChangesAt s p r piece (cells own).state q.state src.fields fields) (sym ran_is) v.changes in
      let as_wide : p.width fields ≡ widths = same_widths (p.width fields) (p.width src.fields) changes.widths ∙ a.as_wide in
      record {
        next = with_call src c (Visiting w (slice_set visited n (Some outcome))) fields;
        place = part_moved c n (new_place own port.Join cells) place;
        agreement = visit_agrees s p r Agrees cells cells' widths src place own from x w visited n outcome fields a (record {
          given = t.given;
          is_cell = t.is_cell;
          ran = t.ran;
          steps = t.steps;
          values = values_changed cells cells' own from x t.ran src.fields fields piece t.steps fits.at a.values changes;
          as_wide = as_wide;
          kind = subst (λ (q : Port). r.is_kind q t.ran.state ≡ true) (sym fits.at) changes.kind;
          whole = changes.whole;
          was = was;
          field = fits.field;
          at = fits.at;
          of_part = (let P : Port → Type 0 = λ q. part_of q x ≡ Some n in subst P (sym fits.at) (visit_is c (length visited) fits.field n x fits.visit).1);
          unmade = fits.unmade;
          part = v.part;
          gives = ap (λ (q : Ran State). q.out) ran_is ∙ v.gives;
          is_part = v.is_part;
          agrees = v.agrees;
        });
        legal =
            ap (λ (q : Port). steps_after p s.calls (Some src) (shown_entry q x t.ran.out)) fits.at
            ∙ ap (steps_after p s.calls (Some src)) (shown_visit fits.field n c (length visited) x t.ran.out fits.visit)
            ∙ ap (visits p src c n) was
            ∙ ap (visit_at p src c n w visited) fits.unmade;
        less = λ left most falls wide.
            less_by cells cells' widths src (with_call src c (Visiting w (slice_set visited n (Some outcome))) fields) place own from x t.ran (Visiting w visited) (Visiting w (slice_set visited n (Some outcome))) a t.steps was
            (nth_same src.calls c (Visiting w visited) (Visiting w (slice_set visited n (Some outcome))) was) (λ q ne. nth_other src.calls c q (Visiting w (slice_set visited n (Some outcome))) ne) left most
            (subst (λ (parts : Parts). weight left most parts (Visiting w (slice_set visited n (Some outcome))) < weight left most ((cells port.Join).gathered c) (Visiting w visited))
            (ap (λ (q : Progress State). q.gathered c) (sym (t.steps port.Join ∙ stepped_other own from x t.ran cells port.Join apart_join)))
            (visit_falls left most ((cells port.Join).gathered c) w visited n outcome fits.unmade (none_gathered cells widths src place c w visited a was n fits.unmade)));
      }

  -- ---- a part comes to the join

  gathers : (cells : Port → Progress State) (widths : ℕ → ℕ) (src : Source Waiting Fields) (place : ℕ → Option ℕ → Place) (from : Port) (x : Item) (w : Waiting) (visited : List (Option Outcome))
      → Agreement s p r Agrees cells widths src place → slice_get ((cells from).gave port.Join) ((cells port.Join).took from) ≡ Some x → nth src.calls (call_of x) ≡ Some (Visiting w visited)
      → (v : PartAt s p r Agrees port.Join x (call_of x) w visited) → Gathers Agrees (call_of x) w visited v.number v.outcome x ((cells port.Join).gathered (call_of x))
  gathers cells widths src place from x w visited a given was v = record {
    answered = v.made;
    part = v.part;
    agrees = v.agrees;
    own = none ((cells port.Join).gathered (call_of x) v.number) refl;
    others = λ i y at. (gathered_part cells widths src place (call_of x) w visited a was i y at).1;
  }
    where
      none : (o : Option Item) → (cells port.Join).gathered (call_of x) v.number ≡ o → o ≡ None
      none None e = refl
      none (Some y) e =
          let placed = (gathered_part cells widths src place (call_of x) w visited a was v.number y e).0 in
          let taken = a.items (old_place port.Join from cells) x (itself ((cells port.Join).took from), given) in
          let is = part_is (call_of x) (length visited) v.number v.outcome port.Join x v.part in
          let both : Parked (call_of x) v.number ≡ old_place port.Join from cells = sym placed ∙ ap (place (call_of x)) (sym is.1) ∙ taken.placed in
          absurd cc

  -- where the last part came, nothing of the call stands anywhere else
  all_gone : (cells : Port → Progress State) (widths : ℕ → ℕ) (src : Source Waiting Fields) (place : ℕ → Option ℕ → Place) (from : Port) (x : Item) (w : Waiting) (visited : List (Option Outcome)) (out : Out)
      → Agreement s p r Agrees cells widths src place → slice_get ((cells from).gave port.Join) ((cells port.Join).took from) ≡ Some x → nth src.calls (call_of x) ≡ Some (Visiting w visited)
      → (v : PartAt s p r Agrees port.Join x (call_of x) w visited) → AllOthers ((cells port.Join).gathered (call_of x)) v.number (length visited) → IsLast x out
      → (at : Place) (y : Item) → Stayed port.Join from x out cells at y → call_of y ≡ call_of x → ⊥
  all_gone cells widths src place from x w visited out a given was v all last at y st same =
      let c = call_of x in
      let old = a.items at y st.stood in
      let taken = a.items (old_place port.Join from cells) x (itself ((cells port.Join).took from), given) in
      let e : old.state ≡ Visiting w visited = same_Some old.state (Visiting w visited) (sym old.is_state ∙ ap (nth src.calls) same ∙ was) in
      let P : CallState Waiting → ℕ → Type 0 = λ st d. Fits s p r Agrees (receiver at) y d st in
      let fits : P (Visiting w visited) c = subst (λ (d : ℕ). P (Visiting w visited) d) same (subst (λ (q : CallState Waiting). P q (call_of y)) e old.fits) in
      let f = fits_still s p r Agrees (receiver at) y c w visited visited v.number refl (λ k ne. refl) fits in
      let placed : place c (Some f.0) ≡ at = ap (place c) (sym f.1) ∙ ap (λ (d : ℕ). place d (part_of (receiver at) y)) (sym same) ∙ old.placed in
      let stood : place c (Some v.number) ≡ old_place port.Join from cells = ap (place c) (sym (part_is c (length visited) v.number v.outcome port.Join x v.part).1) ∙ taken.placed in
      elim (number_cases f.0 v.number) [
        | inl is ↦ st.not_taken (sym placed ∙ ap (λ (k : ℕ). place c (Some k)) is ∙ stood)
        | inr ne ↦
            let other = all f.0 (below (receiver at) y c w visited f.0 f.1 fits) ne in
            let parked = (gathered_part cells widths src place c w visited a was f.0 other.0 other.1).0 in
            let kept : IsKept port.Join x out (Parked c f.0) = subst (λ (q : Place). IsKept port.Join x out q) (sym placed ∙ parked) st.kept in
            kept refl last refl
      ]
    where
      below : (to : Port) (y : Item) (c : ℕ) (w : Waiting) (visited : List (Option Outcome)) (k : ℕ) → part_of to y ≡ Some k → VisitAt s p r Agrees to y c w visited ⊎ PartAt s p r Agrees to y c w visited → k < length visited
      below to y c w visited k is (inl v) =
          let n_is : part_of to y ≡ Some v.number = let P : Port → Type 0 = λ q. part_of q y ≡ Some v.number in subst P (sym v.at) (visit_is c (length visited) v.field v.number y v.visit).1 in
          let P : ℕ → Type 0 = λ n. n < length visited in
          subst P (same_Some v.number k (sym n_is ∙ is)) (slice_get_within visited v.number None v.unmade)
      below to y c w visited k is (inr v) =
          let P : ℕ → Type 0 = λ n. n < length visited in
          subst P (same_Some v.number k (sym (part_is c (length visited) v.number v.outcome to y v.part).1 ∙ is)) (slice_get_within visited v.number (Some v.outcome) v.made)

  advance_wait : (cells cells' : Port → Progress State) (widths : ℕ → ℕ) (src : Source Waiting Fields) (place : ℕ → Option ℕ → Place) (own from : Port) (x : Item) (w : Waiting) (visited : List (Option Outcome))
      → (a : Agreement s p r Agrees cells widths src place) → (t : Taking cells cells' widths own from x) → nth src.calls (call_of x) ≡ Some (Visiting w visited) → (v : PartAt s p r Agrees own x (call_of x) w visited)
      → t.ran.out ≡ Wait → r.is_kind port.Join t.ran.state ≡ true → OneMissing ((cells port.Join).gathered (call_of x)) v.number (length visited) → (cells port.Join).gathered (call_of x) v.number ≡ None
      → Advanced cells cells' widths widths src (shown_entry own x t.ran.out) 1
  advance_wait cells cells' widths src place own from x w visited a t was v waits kind m none =
      let c = call_of x in
      let is_join = part_is c (length visited) v.number v.outcome port.Join x v.part in
      let parked : Stands (stepped own from x t.ran cells) (Parked c v.number) x =
      let P : Port → Type 0 = λ q. Stands (stepped q from x t.ran cells) (Parked c v.number) x in subst P (sym v.at) (waits_parked from x t.ran cells v.number waits is_join.1) in
      let after_wait : (i : ℕ) → (cells' port.Join).gathered c i ≡ gathered_after x Wait (cells port.Join).gathered c i =
      λ i. ap (λ (q : Progress State). q.gathered c i) (t.steps port.Join ∙ stepped_own own from x t.ran cells port.Join v.at) ∙ ap (λ (o : Out). gathered_after x o (cells port.Join).gathered c i) waits in
      let other : (piece : Piece) → same_port own (port_of s piece) ≡ false = λ piece. ap (λ (q : Port). same_port q (port_of s piece)) v.at ∙ apart_from_join s piece in
      record {
        next = src;
        place = part_moved c v.number (Parked c v.number) place;
        agreement = wait_agrees s p r Agrees cells cells' widths src place own from x w visited v.number v.outcome a (record {
          given = t.given;
          is_cell = t.is_cell;
          ran = t.ran;
          steps = t.steps;
          values = values_kept cells cells' own from x t.ran src.fields t.steps other a.values;
          kind = subst (λ (q : Port). r.is_kind q t.ran.state ≡ true) (sym v.at) kind;
          was = was;
          at = v.at;
          made = v.made;
          is_part = v.part;
          agrees = v.agrees;
          gives = waits;
          missing = m.number;
          missing_below = m.below;
          missing_other = m.other;
          missing_part = m.missing;
        });
        legal =
            ap (λ (q : Port). steps_after p s.calls (Some src) (shown_entry q x t.ran.out)) v.at
            ∙ ap (λ (o : Out). steps_after p s.calls (Some src) (shown_join c o)) waits;
        less = λ left most falls wide.
            less_by cells cells' widths src src place own from x t.ran (Visiting w visited) (Visiting w visited) a t.steps was was (λ q ne. refl) left most
            (wait_falls left most ((cells port.Join).gathered c) ((cells' port.Join).gathered c) w visited v.number v.outcome x v.made none
            (from_stepped own from x t.ran cells cells' t.steps (Parked c v.number) x parked)
            (λ i ne. after_wait i ∙ gathered_beside x (cells port.Join).gathered v.number i is_join.1 ne));
      }

  advance_join : (cells cells' : Port → Progress State) (widths : ℕ → ℕ) (src : Source Waiting Fields) (place : ℕ → Option ℕ → Place) (own from : Port) (x : Item) (w : Waiting) (visited : List (Option Outcome)) (outcomes : List Outcome)
      → (a : Agreement s p r Agrees cells widths src place) → (t : Taking cells cells' widths own from x) → nth src.calls (call_of x) ≡ Some (Visiting w visited) → own ≡ port.Join
      → all_there visited ≡ Some outcomes → Answers s p Agrees (call_of x) widths t.ran.out (p.joined w outcomes) → r.is_kind port.Join t.ran.state ≡ true
      → ((at : Place) (y : Item) → Stayed own from x t.ran.out cells at y → call_of y ≡ call_of x → ⊥)
      → (n : ℕ) (o : Outcome) → slice_get visited n ≡ Some (Some o) → (cells port.Join).gathered (call_of x) n ≡ None
      → Advanced cells cells' widths widths src (shown_entry own x t.ran.out) 1
  advance_join cells cells' widths src place own from x w visited outcomes a t was at there answers kind gone n o made none =
      let c = call_of x in
      let next = p.joined w outcomes in
      let other : (piece : Piece) → same_port own (port_of s piece) ≡ false = λ piece. ap (λ (q : Port). same_port q (port_of s piece)) at ∙ apart_from_join s piece in
      record {
        next = with_call src c (state_of p widths next) src.fields;
        place = all_moved own t.ran.out cells c place;
        agreement = move_agrees s p r Agrees cells cells' widths src place own from x next src.fields a (record {
          given = t.given;
          is_cell = t.is_cell;
          ran = t.ran;
          steps = t.steps;
          values = values_kept cells cells' own from x t.ran src.fields t.steps other a.values;
          as_wide = a.as_wide;
          kind = subst (λ (q : Port). r.is_kind q t.ran.state ≡ true) (sym at) kind;
          whole = a.whole;
          old = Visiting w visited;
          was = was;
          answers = answers;
          gone = gone;
        });
        legal =
            ap (λ (q : Port). steps_after p s.calls (Some src) (shown_entry q x t.ran.out)) at
            ∙ ap (steps_after p s.calls (Some src)) (shown_last c t.ran.out (not_idle s p r Agrees widths c t.ran.out next answers))
            ∙ ap (joins p src c) was
            ∙ ap (join_with p src c w) there
            ∙ ap (λ (u : ℕ → ℕ). Some (with_call src c (state_of p u next) src.fields)) a.as_wide;
        less = λ left most falls wide.
            less_by cells cells' widths src (with_call src c (state_of p widths next) src.fields) place own from x t.ran (Visiting w visited) (state_of p widths next) a t.steps was
            (nth_same src.calls c (Visiting w visited) (state_of p widths next) was) (λ q ne. nth_other src.calls c q (state_of p widths next) ne) left most
            (join_falls p left most falls widths ((cells port.Join).gathered c) ((cells' port.Join).gathered c) w visited outcomes n o wide made none);
      }

  -- every instance of a call has answered where its parts are there
  all_answered : (cells : Port → Progress State) (widths : ℕ → ℕ) (src : Source Waiting Fields) (place : ℕ → Option ℕ → Place) (c : ℕ) (w : Waiting) (visited : List (Option Outcome)) (n : ℕ) (o : Outcome)
      → Agreement s p r Agrees cells widths src place → nth src.calls c ≡ Some (Visiting w visited) → slice_get visited n ≡ Some (Some o) → AllOthers ((cells port.Join).gathered c) n (length visited)
      → (k : ℕ) → k < length visited → (q : Outcome) × (slice_get visited k ≡ Some (Some q))
  all_answered cells widths src place c w visited n o a was made all k l =
      elim (number_cases k n) [
        | inl same ↦ (o, ap (slice_get visited) same ∙ made)
        | inr ne ↦
            let y = all k l ne in
            let part = (gathered_part cells widths src place c w visited a was k y.0 y.1).1 in
            (part.0, part.1)
      ]

  advance_part : (cells cells' : Port → Progress State) (widths : ℕ → ℕ) (src : Source Waiting Fields) (place : ℕ → Option ℕ → Place) (own from : Port) (x : Item) (w : Waiting) (visited : List (Option Outcome))
      → Simulates s p r Agrees → (a : Agreement s p r Agrees cells widths src place) → (t : Taking cells cells' widths own from x) → nth src.calls (call_of x) ≡ Some (Visiting w visited) → PartAt s p r Agrees own x (call_of x) w visited
      → Advanced cells cells' widths widths src (shown_entry own x t.ran.out) 1
  advance_part cells cells' widths src place own from x w visited sim a t was v =
      let c = call_of x in
      let parts = (cells port.Join).gathered c in
      let at_join : PartAt s p r Agrees port.Join x c w visited = record { number = v.number; outcome = v.outcome; at = refl; made = v.made; part = v.part; agrees = v.agrees } in
      let given : slice_get ((cells from).gave port.Join) ((cells port.Join).took from) ≡ Some x = subst (λ (q : Port). slice_get ((cells from).gave q) ((cells q).took from) ≡ Some x) v.at t.given in
      let g = gathers cells widths src place from x w visited a given was at_join in
      let state = (cells own).state in
      let ran_is : t.ran ≡ s.machine.runs port.Join x parts state t.pick widths =
      t.runs_so ∙ ap (λ (q : Port). s.machine.runs q x (parts_for x (cells own).gathered) state t.pick widths) v.at
      ∙ ap (λ (q : Parts). s.machine.runs port.Join x q state t.pick widths) (parts_are c (length visited) v.number v.outcome x (cells own).gathered v.part ∙ ap (λ (q : Port). (cells q).gathered c) v.at) in
      let kind_before : r.is_kind port.Join state ≡ true = subst (λ (q : Port). r.is_kind q state ≡ true) v.at (a.kinds own) in
      let kind_after : r.is_kind port.Join (s.machine.runs port.Join x parts state t.pick widths).state ≡ true → r.is_kind port.Join t.ran.state ≡ true =
      λ h. subst (λ (q : Ran State). r.is_kind port.Join q.state ≡ true) (sym ran_is) h in
      elim (all_or_missing parts v.number (length visited)) [
        | inr m ↦
            let waits = sim.waits c w visited v.number v.outcome x parts state t.pick widths kind_before g m.number m.below m.other m.missing in
            advance_wait cells cells' widths src place own from x w visited a t was v (ap (λ (q : Ran State). q.out) ran_is ∙ waits.waits) (kind_after waits.kind) m g.own
        | inl all ↦
            let outcomes = all_made visited (all_answered cells widths src place c w visited v.number v.outcome a was v.made all) in
            let joins = sim.joins c w visited v.number v.outcome x parts state t.pick widths a.some kind_before g all outcomes.0 outcomes.1 in
            let answers : Answers s p Agrees c widths t.ran.out (p.joined w outcomes.0) = subst (λ (q : Ran State). Answers s p Agrees c widths q.out (p.joined w outcomes.0)) (sym ran_is) joins.answers in
            let last = is_last c (length visited) v.number v.outcome x t.ran.out v.part (not_idle s p r Agrees widths c t.ran.out (p.joined w outcomes.0) answers) in
            advance_join cells cells' widths src place own from x w visited outcomes.0 a t was v.at outcomes.1 answers (kind_after joins.kind)
            (λ at y st same. all_gone cells widths src place from x w visited t.ran.out a given was at_join all last at y (subst (λ (q : Port). Stayed q from x t.ran.out cells at y) v.at st) same)
            v.number v.outcome v.made g.own
      ]

  -- ---- any item

  not_the_sink : (widths : ℕ → ℕ) (own : Port) → IsCell widths own → own ≡ port.Sink → ⊥
  not_the_sink widths own is_cell e = subst (λ (q : Port). IsCell widths q) e is_cell

  pub advance : (cells cells' : Port → Progress State) (widths : ℕ → ℕ) (src : Source Waiting Fields) (place : ℕ → Option ℕ → Place) (own from : Port) (x : Item)
      → Simulates s p r Agrees → (a : Agreement s p r Agrees cells widths src place) → (t : Taking cells cells' widths own from x)
      → Advanced cells cells' widths widths src (shown_entry own x t.ran.out) 1
  advance cells cells' widths src place own from x sim a t =
      let taken = a.items (old_place own from cells) x (itself ((cells own).took from), t.given) in
      by_state taken.state taken.is_state taken.fits
    where
      by_state : (state : CallState Waiting) → nth src.calls (call_of x) ≡ Some state → Fits s p r Agrees own x (call_of x) state → Advanced cells cells' widths widths src (shown_entry own x t.ran.out) 1
      by_state Fresh was fits = advance_begin cells cells' widths src place own from x sim a t was fits
      by_state (At w) was fits = advance_block cells cells' widths src place own from x w sim a t was fits
      by_state (Visiting w visited) was (inl v) = advance_visit cells cells' widths src place own from x w visited sim a t was v
      by_state (Visiting w visited) was (inr v) = advance_part cells cells' widths src place own from x w visited sim a t was v
      by_state (Ended outcome) was fits = absurd (not_the_sink widths own t.is_cell fits.0)
