-- One part of a call moves: an instance is visited, or its part waits at the join. The other parts stay where they are.
use Rattle.std.proofs.Common.{◌≡◌, ◌≢◌, ℕ, ◌<◌, ◌≤◌, ◌==◌, ◌&&◌, Bool, true, false, List, [], ◌∷◌, length, Option, Some, None, inl, inr, slice_get, slice_set, if◌then◌else◌, refl, ap, sym, ◌∙◌, subst, arith}
use Rattle.std.proofs.lemmas.Bool.{eqb-true, eq-eqb, false_from_ne_true}
use Rattle.std.proofs.lemmas.Option.{same_Some}
use Rattle.sdg_base.specs.declared.val.Outcome.{Outcome}
use Rattle.sdg_base.specs.declared.port.Port.{Port}
use Rattle.sdg_base.specs.declared.port.Port.TheVariants as port
use Rattle.sdg_base.specs.declared.item.Item.{Item}
use Rattle.sdg_base.specs.declared.item.Item.TheVariants as item
use Rattle.tagged_agreement.specs.Machine.{Out, ToJoin, Wait, given_to, Ran, call_of, part_of, Progress}
use Rattle.tagged_agreement.specs.History.{Setup, IsCell}
use Rattle.tagged_agreement.specs.Source.{CallState, Visiting, Program, Source, nth, with_call}
use Rattle.tagged_agreement.specs.Simulation.{Piece, port_of, Reading, IsVisit, IsPart}
use Rattle.tagged_agreement.proofs.Lists.{number_cases, nth_same, nth_other, with_as_many, set_same, set_other, set_as_many}
use Rattle.tagged_agreement.proofs.Channels.{Place, InChannel, Parked, receiver, Stands, old_place, new_place, stepped, Stayed, IsNew, StaysParked, still_stands, given_stands, waits_parked}
use Rattle.tagged_agreement.proofs.Invariant.{IsTagged, IsInChannel, HasPart, Present, Awaits, Fits, Agreement}
use Rattle.tagged_agreement.proofs.Changes.{AreStepped, from_stepped, same_item, Came, change_agrees}
use Rattle.tagged_agreement.proofs.Moves.{one_given, one_gives, visit_is, cell_sends}

itself : (n : ℕ) → n ≤ n
itself n = omega arith

-- ---- places

abbrev is_number : ℕ → Option ℕ → Bool
is_number n None = false
is_number n (Some k) = k == n

-- this part of this call stands elsewhere, and every other part where it stood
abbrev pub part_moved : ℕ → ℕ → Place → (ℕ → Option ℕ → Place) → ℕ → Option ℕ → Place
part_moved c n at place q part = if q == c && is_number n part then at else place q part

pub moved_here : (c n : ℕ) (at : Place) (place : ℕ → Option ℕ → Place) → part_moved c n at place c (Some n) ≡ at
moved_here c n at place = ap (λ (b : Bool). if b then at else place c (Some n)) (both c n)
  where
    both : (c n : ℕ) → (c == c && n == n) ≡ true
    both c n = ap (λ (b : Bool). b && n == n) (eq-eqb c c refl) ∙ ap (λ (b : Bool). true && b) (eq-eqb n n refl)

other_call : (c n : ℕ) (at : Place) (place : ℕ → Option ℕ → Place) (q : ℕ) (part : Option ℕ) → q ≢ c → part_moved c n at place q part ≡ place q part
other_call c n at place q part ne = ap (λ (b : Bool). if b && is_number n part then at else place q part) (false_from_ne_true (q == c) (λ e. ne (eqb-true q c e)))

other_part : (c n : ℕ) (at : Place) (place : ℕ → Option ℕ → Place) (k : ℕ) → k ≢ n → part_moved c n at place c (Some k) ≡ place c (Some k)
other_part c n at place k ne = ap (λ (b : Bool). if b then at else place c (Some k)) neither
  where
    neither : (c == c && k == n) ≡ false
    neither = ap (λ (b : Bool). b && k == n) (eq-eqb c c refl) ∙ ap (λ (b : Bool). true && b) (false_from_ne_true (k == n) (λ e. ne (eqb-true k n e)))

pub part_is : (c width number : ℕ) (outcome : Outcome) (to : Port) (x : Item) → IsPart c width number outcome x → (call_of x ≡ c) × (part_of to x ≡ Some number)
part_is c width number outcome to (item.Part call t w n turns vars value) h = (h.0, ap Some h.2)
part_is c width number outcome to (item.Work call t key turns vars) h = absurd h
part_is c width number outcome to (item.Start call m args) h = absurd h
part_is c width number outcome to (item.Visit call t w turns vars) h = absurd h
part_is c width number outcome to (item.Done call o) h = absurd h

module _ {State Waiting Fields Contents : Type 0} (s : Setup State) (p : Program Waiting Fields) (r : Reading State Fields Contents) (Agrees : Item → Waiting → Type 0) where
  -- what is known where one part of a call that visits moves
  pub record PartStep (cells cells' : Port → Progress State) (widths : ℕ → ℕ) (src src' : Source Waiting Fields) (place : ℕ → Option ℕ → Place) (own from : Port) (x : Item) (n : ℕ) (here : Place) : Type 0 where
    pub given : slice_get ((cells from).gave own) ((cells own).took from) ≡ Some x
    pub is_cell : IsCell widths own
    pub ran : Ran State
    pub steps : AreStepped own from x ran cells cells'
    pub values : (piece : Piece) → r.held (cells' (port_of s piece)).state piece ≡ r.value src'.fields piece
    pub as_wide : p.width src'.fields ≡ widths
    pub kind : r.is_kind own ran.state ≡ true
    pub whole : r.is_whole src'.fields ≡ true
    pub w : Waiting
    pub visited : List (Option Outcome)
    pub visited' : List (Option Outcome)
    pub was : nth src.calls (call_of x) ≡ Some (Visiting w visited)
    pub is_state : nth src'.calls (call_of x) ≡ Some (Visiting w visited')
    pub other_states : (c : ℕ) → c ≢ call_of x → nth src'.calls c ≡ nth src.calls c
    pub as_many : length src'.calls ≡ length src.calls
    pub of_part : part_of own x ≡ Some n
    pub as_long : length visited' ≡ length visited
    pub others : (k : ℕ) → k ≢ n → slice_get visited' k ≡ slice_get visited k
    pub stays : (at : Place) (y : Item) → IsTagged at y → part_of (receiver at) y ≢ Some n → StaysParked own x ran.out at
    pub came : (at : Place) (y : Item) → IsNew own x ran.out cells at y → Came s p r Agrees widths (part_moved (call_of x) n here place) (call_of x) (Visiting w visited') at y
    pub it : Item
    pub stands : Stands cells' here it
    pub it_call : call_of it ≡ call_of x
    pub it_part : part_of (receiver here) it ≡ Some n
    pub awaits : Awaits (part_moved (call_of x) n here place) (call_of x) visited'

  -- an item of a call that visits has a number, and agrees with what every other step leaves of the call
  pub fits_still : (to : Port) (y : Item) (c : ℕ) (w : Waiting) (visited visited' : List (Option Outcome)) (n : ℕ) → length visited' ≡ length visited → ((k : ℕ) → k ≢ n → slice_get visited' k ≡ slice_get visited k)
      → Fits s p r Agrees to y c (Visiting w visited) → (k : ℕ) × (part_of to y ≡ Some k) × (k ≢ n → Fits s p r Agrees to y c (Visiting w visited'))
  fits_still to y c w visited visited' n as_long others (inl v) = (
    v.number,
    (let P : Port → Type 0 = λ q. part_of q y ≡ Some v.number in subst P (sym v.at) (visit_is c (length visited) v.field v.number y v.visit).1),
    λ ne. inl (record {
      field = v.field;
      number = v.number;
      site = v.site;
      at = v.at;
      unmade = others v.number ne ∙ v.unmade;
      visit = (let P : ℕ → Type 0 = λ m. IsVisit c m y in subst P (sym as_long) v.visit);
      agrees = v.agrees;
    }),
  )
  fits_still to y c w visited visited' n as_long others (inr v) = (
    v.number,
    (part_is c (length visited) v.number v.outcome to y v.part).1,
    λ ne. inr (record {
      number = v.number;
      outcome = v.outcome;
      at = v.at;
      made = others v.number ne ∙ v.made;
      part = (let P : ℕ → Type 0 = λ m. IsPart c m v.number v.outcome y in subst P (sym as_long) v.part);
      agrees = v.agrees;
    }),
  )

  part_stayed : (cells cells' : Port → Progress State) (widths : ℕ → ℕ) (src src' : Source Waiting Fields) (place : ℕ → Option ℕ → Place) (own from : Port) (x : Item) (n : ℕ) (here : Place)
      → Agreement s p r Agrees cells widths src place → (v : PartStep cells cells' widths src src' place own from x n here)
      → (at : Place) (y : Item) → Stayed own from x v.ran.out cells at y → call_of y ≡ call_of x
      → (part_moved (call_of x) n here place (call_of x) (part_of (receiver at) y) ≡ at) × Fits s p r Agrees (receiver at) y (call_of x) (Visiting v.w v.visited')
  part_stayed cells cells' widths src src' place own from x n here a v at y st same =
      let c = call_of x in
      let old = a.items at y st.stood in
      let taken = a.items (old_place own from cells) x (itself ((cells own).took from), v.given) in
      let state_is : old.state ≡ Visiting v.w v.visited = same_Some old.state (Visiting v.w v.visited) (sym old.is_state ∙ ap (nth src.calls) same ∙ v.was) in
      let P : CallState Waiting → ℕ → Type 0 = λ st d. Fits s p r Agrees (receiver at) y d st in
      let fits : P (Visiting v.w v.visited) c = subst (λ (d : ℕ). P (Visiting v.w v.visited) d) same (subst (λ (q : CallState Waiting). P q (call_of y)) state_is old.fits) in
      let f = fits_still (receiver at) y c v.w v.visited v.visited' n v.as_long v.others fits in
      let placed : place c (Some f.0) ≡ at = ap (place c) (sym f.1) ∙ ap (λ (d : ℕ). place d (part_of (receiver at) y)) (sym same) ∙ old.placed in
      let stood : place c (Some n) ≡ old_place own from cells = ap (place c) (sym v.of_part) ∙ taken.placed in
      let ne : f.0 ≢ n = λ e. st.not_taken (sym placed ∙ ap (λ (k : ℕ). place c (Some k)) e ∙ stood) in
      (ap (part_moved c n here place c) f.1 ∙ other_part c n here place f.0 ne ∙ placed, f.2 ne)

  part_present : (cells cells' : Port → Progress State) (widths : ℕ → ℕ) (src src' : Source Waiting Fields) (place : ℕ → Option ℕ → Place) (own from : Port) (x : Item) (n : ℕ) (here : Place)
      → Agreement s p r Agrees cells widths src place → (v : PartStep cells cells' widths src src' place own from x n here)
      → (part : Option ℕ) → HasPart (Visiting v.w v.visited') part → Present cells' (part_moved (call_of x) n here place) (call_of x) part
  part_present cells cells' widths src src' place own from x n here a v part has =
      let c = call_of x in
      let place' = part_moved c n here place in
      let k = has.0 in
      let Q : Option ℕ → Type 0 = λ q. Present cells' place' c q in
      subst Q (sym has.1)
      (elim (number_cases k n) [
        | inl same ↦
            let P : Place → Type 0 = λ q. Stands cells' q v.it × (part_of (receiver q) v.it ≡ Some n) in
            let moved : P (place' c (Some n)) = subst P (sym (moved_here c n here place)) (v.stands, v.it_part) in
            let now : Q (Some n) = record { it = v.it; stands = moved.0; of_call = v.it_call; of_part = moved.1 } in
            subst (λ (m : ℕ). Q (Some m)) (sym same) now
        | inr ne ↦
            let below : k < length v.visited = let P : ℕ → Type 0 = λ m. k < m in subst P v.as_long has.2 in
            let old = a.present c (Visiting v.w v.visited) (Some k) v.was (k, refl, below) in
            let at = place c (Some k) in
            let not_old : at ≢ old_place own from cells = λ e.
            let P : Place → Type 0 = λ q. Stands cells q old.it × (part_of (receiver q) old.it ≡ Some k) in
            let both : P (old_place own from cells) = subst P e (old.stands, old.of_part) in
            let it_is : old.it ≡ x = same_item cells (old_place own from cells) old.it x both.0 (itself ((cells own).took from), v.given) in
            ne (same_Some k n (sym both.1 ∙ ap (part_of own) it_is ∙ v.of_part)) in
            let apart : part_of (receiver at) old.it ≢ Some n = λ e. ne (same_Some k n (sym old.of_part ∙ e)) in
            let still = still_stands own from x v.ran cells at old.it old.stands not_old (v.stays at old.it (a.items at old.it old.stands).tagged apart) in
            let stands = from_stepped own from x v.ran cells cells' v.steps at old.it still in
            let P : Place → Type 0 = λ q. Stands cells' q old.it × (part_of (receiver q) old.it ≡ Some k) in
            let moved : P (place' c (Some k)) = subst P (sym (other_part c n here place k ne)) (stands, old.of_part) in
            record { it = old.it; stands = moved.0; of_call = old.of_call; of_part = moved.1 }
      ])

  part_agrees : (cells cells' : Port → Progress State) (widths : ℕ → ℕ) (src src' : Source Waiting Fields) (place : ℕ → Option ℕ → Place) (own from : Port) (x : Item) (n : ℕ) (here : Place)
      → Agreement s p r Agrees cells widths src place → PartStep cells cells' widths src src' place own from x n here
      → Agreement s p r Agrees cells' widths src' (part_moved (call_of x) n here place)
  part_agrees cells cells' widths src src' place own from x n here a v =
      change_agrees s p r Agrees cells cells' widths src src' place (part_moved (call_of x) n here place) own from x a (record {
        given = v.given;
        is_cell = v.is_cell;
        ran = v.ran;
        steps = v.steps;
        values = v.values;
        as_wide = v.as_wide;
        kind = v.kind;
        whole = v.whole;
        state = Visiting v.w v.visited';
        is_state = v.is_state;
        other_states = v.other_states;
        as_many = v.as_many;
        other_places = λ q part ne. other_call (call_of x) n here place q part ne;
        stayed = part_stayed cells cells' widths src src' place own from x n here a v;
        came = v.came;
        present = part_present cells cells' widths src src' place own from x n here a v;
        awaits = λ w visited e.
            let same : v.visited' ≡ visited = cc in
            let P : List (Option Outcome) → Type 0 = λ q. Awaits (part_moved (call_of x) n here place) (call_of x) q in
            subst P same v.awaits;
      })

  -- ---- an instance is visited

  pub record VisitStep (cells cells' : Port → Progress State) (widths : ℕ → ℕ) (src : Source Waiting Fields) (own from : Port) (x : Item) (w : Waiting) (visited : List (Option Outcome)) (n : ℕ) (outcome : Outcome) (fields : Fields) : Type 0 where
    pub given : slice_get ((cells from).gave own) ((cells own).took from) ≡ Some x
    pub is_cell : IsCell widths own
    pub ran : Ran State
    pub steps : AreStepped own from x ran cells cells'
    pub values : (piece : Piece) → r.held (cells' (port_of s piece)).state piece ≡ r.value fields piece
    pub as_wide : p.width fields ≡ widths
    pub kind : r.is_kind own ran.state ≡ true
    pub whole : r.is_whole fields ≡ true
    pub was : nth src.calls (call_of x) ≡ Some (Visiting w visited)
    pub field : ℕ
    pub at : own ≡ port.Inst field n
    pub of_part : part_of own x ≡ Some n
    pub unmade : slice_get visited n ≡ Some None
    pub part : Item
    pub gives : ran.out ≡ ToJoin part
    pub is_part : IsPart (call_of x) (length visited) n outcome part
    pub agrees : Agrees part w

  not_join : (field n : ℕ) (own : Port) → own ≡ port.Inst field n → own ≡ port.Join → ⊥
  not_join field n own e f = let both : port.Inst field n ≡ port.Join = sym e ∙ f in absurd cc

  not_none : {A : Type 0} (xs : List A) (n : ℕ) (o : A) → slice_get xs n ≡ Some o → n < length xs
  not_none xs n o e = Rattle.std.proofs.lemmas.Option.slice_get_within xs n o e

  pub visit_agrees : (cells cells' : Port → Progress State) (widths : ℕ → ℕ) (src : Source Waiting Fields) (place : ℕ → Option ℕ → Place) (own from : Port) (x : Item) (w : Waiting) (visited : List (Option Outcome)) (n : ℕ) (outcome : Outcome) (fields : Fields)
      → Agreement s p r Agrees cells widths src place → VisitStep cells cells' widths src own from x w visited n outcome fields
      → Agreement s p r Agrees cells' widths (with_call src (call_of x) (Visiting w (slice_set visited n (Some outcome))) fields) (part_moved (call_of x) n (new_place own port.Join cells) place)
  visit_agrees cells cells' widths src place own from x w visited n outcome fields a v =
      let c = call_of x in
      let here = new_place own port.Join cells in
      let visited' = slice_set visited n (Some outcome) in
      let src' = with_call src c (Visiting w visited') fields in
      let as_long = set_as_many visited n (Some outcome) in
      let is = part_is c (length visited) n outcome port.Join v.part v.is_part in
      let gives : given_to v.ran.out port.Join ≡ v.part ∷ [] = ap (λ (o : Out). given_to o port.Join) v.gives ∙ one_gives port.Join v.part in
      part_agrees cells cells' widths src src' place own from x n here a (record {
        given = v.given;
        is_cell = v.is_cell;
        ran = v.ran;
        steps = v.steps;
        values = v.values;
        as_wide = v.as_wide;
        kind = v.kind;
        whole = v.whole;
        w = w;
        visited = visited;
        visited' = visited';
        was = v.was;
        is_state = nth_same src.calls c (Visiting w visited) (Visiting w visited') v.was;
        other_states = λ q ne. nth_other src.calls c q (Visiting w visited') ne;
        as_many = with_as_many src.calls c (Visiting w visited');
        of_part = v.of_part;
        as_long = as_long;
        others = λ k ne. set_other visited n k (Some outcome) ne;
        stays = λ at y tagged ne. stays_visited own x v.ran.out v.field n v.at at;
        came = λ at y new. came_visited cells widths place own x w visited n outcome v.ran.out v.part v.is_cell v.unmade v.gives v.is_part v.agrees at y new;
        it = v.part;
        stands = from_stepped own from x v.ran cells cells' v.steps here v.part (given_stands own from x v.ran cells port.Join v.part a.bounded v.given gives);
        it_call = is.0;
        it_part = is.1;
        awaits = record {
          number = n;
          below = (let P : ℕ → Type 0 = λ m. n < m in subst P (sym as_long) (not_none visited n None v.unmade));
          ahead = (let P : Place → Type 0 = λ q. IsInChannel q in subst P (sym (moved_here c n here place)) tt);
        };
      })
    where
      stays_visited : (own : Port) (x : Item) (out : Out) (field n : ℕ) → own ≡ port.Inst field n → (at : Place) → StaysParked own x out at
      stays_visited own x out field n e (InChannel sender to index) = tt
      stays_visited own x out field n e (Parked q number) = λ f. absurd (not_join field n own e f)

      came_visited : (cells : Port → Progress State) (widths : ℕ → ℕ) (place : ℕ → Option ℕ → Place) (own : Port) (x : Item) (w : Waiting) (visited : List (Option Outcome)) (n : ℕ) (outcome : Outcome) (out : Out) (part : Item)
          → IsCell widths own → slice_get visited n ≡ Some None → out ≡ ToJoin part → IsPart (call_of x) (length visited) n outcome part → Agrees part w
          → (at : Place) (y : Item) → IsNew own x out cells at y
          → Came s p r Agrees widths (part_moved (call_of x) n (new_place own port.Join cells) place) (call_of x) (Visiting w (slice_set visited n (Some outcome))) at y
      came_visited cells widths place own x w visited n outcome out part is_cell unmade gives is_part agrees (Parked q number) y new =
          absurd (let both : ToJoin part ≡ Wait = sym gives ∙ new.1 in cc)
      came_visited cells widths place own x w visited n outcome out part is_cell unmade gives is_part agrees (InChannel sender to index) y new =
          let c = call_of x in
          let here = new_place own port.Join cells in
          let both = one_given port.Join part to y (ap (λ (o : Out). given_to o to) (sym gives) ∙ new.1) in
          let as_long = set_as_many visited n (Some outcome) in
          let is = part_is c (length visited) n outcome port.Join part is_part in
          let P : Place → Item → Type 0 = λ at z. Came s p r Agrees widths (part_moved c n here place) c (Visiting w (slice_set visited n (Some outcome))) at z in
          let at_is : InChannel sender to index ≡ here = ap (λ (q : Port). InChannel q to index) new.0 ∙ ap (InChannel own to) new.2 ∙ ap (λ (q : Port). new_place own q cells) (sym both.0) in
          let now : P here part = record {
            of_call = is.0;
            tagged = tt;
            is_open = (cell_sends s p r Agrees widths own is_cell, tt);
            placed = ap (part_moved c n here place c) is.1 ∙ moved_here c n here place;
            fits = inr (record {
              number = n;
              outcome = outcome;
              at = refl;
              made = set_same visited n None (Some outcome) unmade;
              part = (let Q : ℕ → Type 0 = λ m. IsPart c m n outcome part in subst Q (sym as_long) is_part);
              agrees = agrees;
            });
          } in
          subst (λ (at : Place). P at y) (sym at_is) (subst (λ (z : Item). P here z) both.1 now)

  -- ---- a part waits

  pub record WaitStep (cells cells' : Port → Progress State) (widths : ℕ → ℕ) (src : Source Waiting Fields) (own from : Port) (x : Item) (w : Waiting) (visited : List (Option Outcome)) (n : ℕ) (outcome : Outcome) : Type 0 where
    pub given : slice_get ((cells from).gave own) ((cells own).took from) ≡ Some x
    pub is_cell : IsCell widths own
    pub ran : Ran State
    pub steps : AreStepped own from x ran cells cells'
    pub values : (piece : Piece) → r.held (cells' (port_of s piece)).state piece ≡ r.value src.fields piece
    pub kind : r.is_kind own ran.state ≡ true
    pub was : nth src.calls (call_of x) ≡ Some (Visiting w visited)
    pub at : own ≡ port.Join
    pub made : slice_get visited n ≡ Some (Some outcome)
    pub is_part : IsPart (call_of x) (length visited) n outcome x
    pub agrees : Agrees x w
    pub gives : ran.out ≡ Wait
    pub missing : ℕ
    pub missing_below : missing < length visited
    pub missing_other : missing ≢ n
    pub missing_part : (cells port.Join).gathered (call_of x) missing ≡ None

  pub wait_agrees : (cells cells' : Port → Progress State) (widths : ℕ → ℕ) (src : Source Waiting Fields) (place : ℕ → Option ℕ → Place) (own from : Port) (x : Item) (w : Waiting) (visited : List (Option Outcome)) (n : ℕ) (outcome : Outcome)
      → Agreement s p r Agrees cells widths src place → WaitStep cells cells' widths src own from x w visited n outcome
      → Agreement s p r Agrees cells' widths src (part_moved (call_of x) n (Parked (call_of x) n) place)
  wait_agrees cells cells' widths src place own from x w visited n outcome a v =
      let c = call_of x in
      let here = Parked c n in
      let is = part_is c (length visited) n outcome own x v.is_part in
      let is_join = part_is c (length visited) n outcome port.Join x v.is_part in
      let parked : Stands (stepped own from x v.ran cells) here x = let P : Port → Type 0 = λ q. Stands (stepped q from x v.ran cells) here x in subst P (sym v.at) (waits_parked from x v.ran cells n v.gives is_join.1) in
      let awaited = a.present c (Visiting w visited) (Some v.missing) v.was (v.missing, refl, v.missing_below) in
      part_agrees cells cells' widths src src place own from x n here a (record {
        given = v.given;
        is_cell = v.is_cell;
        ran = v.ran;
        steps = v.steps;
        values = v.values;
        as_wide = a.as_wide;
        kind = v.kind;
        whole = a.whole;
        w = w;
        visited = visited;
        visited' = visited;
        was = v.was;
        is_state = v.was;
        other_states = λ q ne. refl;
        as_many = refl;
        of_part = is.1;
        as_long = refl;
        others = λ k ne. refl;
        stays = λ at y tagged ne. stays_waiting own x v.ran.out n v.gives is_join.1 at y tagged ne;
        came = λ at y new. came_waiting cells widths place own x w visited n outcome v.ran.out v.gives v.made v.is_part v.agrees at y new;
        it = x;
        stands = from_stepped own from x v.ran cells cells' v.steps here x parked;
        it_call = refl;
        it_part = is_join.1;
        awaits = record {
          number = v.missing;
          below = v.missing_below;
          ahead = (let P : Place → Type 0 = λ q. IsInChannel q in
              subst P (sym (other_part c n here place v.missing v.missing_other))
              (is_ahead cells c v.missing (place c (Some v.missing)) awaited.it v.missing_part awaited.stands (a.items (place c (Some v.missing)) awaited.it awaited.stands).tagged awaited.of_call awaited.of_part));
        };
      })
    where
      -- a part that is not gathered is in a channel
      is_ahead : (cells : Port → Progress State) (c k : ℕ) (at : Place) (y : Item) → (cells port.Join).gathered c k ≡ None → Stands cells at y → IsTagged at y → call_of y ≡ c → part_of (receiver at) y ≡ Some k → IsInChannel at
      is_ahead cells c k (InChannel sender to index) y none stands tagged of_call of_part = tt
      is_ahead cells c k (Parked q m) y none stands tagged of_call of_part =
          let q_is : c ≡ q = sym of_call ∙ tagged.0 in
          let k_is : k ≡ m = same_Some k m (sym of_part ∙ tagged.1) in
          let e : (cells port.Join).gathered q m ≡ None = ap (λ (d : ℕ). (cells port.Join).gathered d m) (sym q_is) ∙ ap ((cells port.Join).gathered c) (sym k_is) ∙ none in
          absurd cc

      stays_waiting : (own : Port) (x : Item) (out : Out) (n : ℕ) → out ≡ Wait → part_of port.Join x ≡ Some n → (at : Place) (y : Item) → IsTagged at y → part_of (receiver at) y ≢ Some n → StaysParked own x out at
      stays_waiting own x out n waits is (InChannel sender to index) y tagged ne = tt
      stays_waiting own x out n waits is (Parked q m) y tagged ne = λ f. inr (waits, λ e. ne (tagged.1 ∙ sym e ∙ is))

      came_waiting : (cells : Port → Progress State) (widths : ℕ → ℕ) (place : ℕ → Option ℕ → Place) (own : Port) (x : Item) (w : Waiting) (visited : List (Option Outcome)) (n : ℕ) (outcome : Outcome) (out : Out)
          → out ≡ Wait → slice_get visited n ≡ Some (Some outcome) → IsPart (call_of x) (length visited) n outcome x → Agrees x w
          → (at : Place) (y : Item) → IsNew own x out cells at y
          → Came s p r Agrees widths (part_moved (call_of x) n (Parked (call_of x) n) place) (call_of x) (Visiting w visited) at y
      came_waiting cells widths place own x w visited n outcome out waits made is_part agrees (InChannel sender to index) y new =
          absurd (let e : given_to Wait to ≡ y ∷ [] = ap (λ (o : Out). given_to o to) (sym waits) ∙ new.1 in cc)
      came_waiting cells widths place own x w visited n outcome out waits made is_part agrees (Parked q m) y new =
          let c = call_of x in
          let here = Parked c n in
          let is = part_is c (length visited) n outcome port.Join x is_part in
          let m_is : m ≡ n = same_Some m n (sym new.4 ∙ is.1) in
          let P : Place → Item → Type 0 = λ at z. Came s p r Agrees widths (part_moved c n here place) c (Visiting w visited) at z in
          let at_is : Parked q m ≡ here = ap (λ (d : ℕ). Parked d m) new.3 ∙ ap (Parked c) m_is in
          let now : P here x = record {
            of_call = refl;
            tagged = (refl, is.1);
            is_open = tt;
            placed = ap (part_moved c n here place c) is.1 ∙ moved_here c n here place;
            fits = inr (record { number = n; outcome = outcome; at = refl; made = made; part = is_part; agrees = agrees });
          } in
          subst (λ (at : Place). P at y) (sym at_is) (subst (λ (z : Item). P here z) (sym new.2) now)
