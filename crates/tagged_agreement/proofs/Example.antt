-- The small class by hand: its machine does what its program does; a history of it, and wrong ones that are none.
use Rattle.std.proofs.Common.{◌≡◌, ◌≢◌, ℕ, ℤ, int_eq, zero, suc, ◌+◌, ◌<◌, ◌≤◌, ◌%◌, ◌==◌, Bool, true, List, [], ◌∷◌, length, Option, Some, None, ◌⊎◌, inl, inr, slice_get, if◌then◌else◌, refl, ap, sym, ◌∙◌, subst, arith}
use Rattle.std.proofs.lemmas.Bool.{eqb-true, eq-eqb, and_parts, false_from_ne_true}
use Rattle.std.proofs.lemmas.Bool.Decides.{Decides-int_eq}
use Rattle.sdg_base.specs.declared.val.Outcome.{Outcome}
use Rattle.sdg_base.specs.declared.call.Call.{Call}
use Rattle.sdg_base.specs.declared.port.Port.TheVariants as port
use Rattle.sdg_base.specs.declared.item.Item.{Item}
use Rattle.sdg_base.specs.declared.item.Item.TheVariants as item
use Rattle.sdg_base.specs.Ports.{same_port}
use Rattle.tagged_agreement.specs.Machine.{Result, Wait, Parts}
use Rattle.tagged_agreement.specs.History.{IsHistory}
use Rattle.tagged_agreement.specs.Source.{Global, all_there, cons_some, source, Source}
use Rattle.tagged_agreement.specs.Simulation.{Piece, OfKey, OfInstance, port_of, IsOn, IsWork, IsVisit, IsPart, GoesTo, ChangesAt, Gathers, Blocks, Visits, AreWide, Simulates}
use Rattle.tagged_agreement.specs.Example.{wish, Wish, ToPut, ToAdd, ToRead, Counts, same_piece, bumped, Counters, site_of, slot_of, started, value_in, answer_of, answers, collected, runs, reading, Agrees, sum_of, count, four_calls, setup, program, history, steps, ExampleSimulates, ExampleRuns, ExampleRefuses}
use Rattle.tagged_agreement.proofs.Lists.{number_cases}

-- ---- one piece changes

same_is : (q piece : Piece) → same_piece q piece ≡ true → q ≡ piece
same_is (OfKey f k) (OfKey g l) e = let both = and_parts (f == g) (int_eq k l) e in ap (λ (n : ℕ). OfKey n k) (eqb-true f g both.0) ∙ ap (OfKey g) ((Decides-int_eq k l).0 both.1)
same_is (OfInstance f n) (OfInstance g m) e = let both = and_parts (f == g) (n == m) e in ap (λ (a : ℕ). OfInstance a n) (eqb-true f g both.0) ∙ ap (OfInstance g) (eqb-true n m both.1)
same_is (OfKey f k) (OfInstance g m) e = absurd cc
same_is (OfInstance f n) (OfKey g l) e = absurd cc

other_stays : (q piece : Piece) (counts : Counts) → q ≢ piece → bumped piece counts q ≡ counts q
other_stays q piece counts ne = ap (λ (b : Bool). if b then counts q + 1 else counts q) (false_from_ne_true (same_piece q piece) (λ e. ne (same_is q piece e)))

bumps : (calls : List Call) (piece : Piece) (state : Counts) (fields : Counters) → state piece ≡ fields.counts piece
    → ChangesAt (setup calls) program reading piece state (bumped piece state) fields (record { widths = fields.widths; counts = bumped piece fields.counts })
bumps calls piece state fields held = record {
  same = ap (λ (n : ℕ). if same_piece piece piece then n + 1 else n) held;
  cell_others = λ q at ne. other_stays q piece state ne;
  field_others = λ q ne. other_stays q piece fields.counts ne;
  widths = λ field. refl;
  kind = refl;
  whole = refl;
}

-- ---- work and visits

below_width : (pick width : ℕ) → 1 ≤ width → pick % width < width
below_width pick width some = omega arith

goes : (calls : List Call) (c : ℕ) (w : Wish) (pick : ℕ) (widths : ℕ → ℕ) → AreWide widths → GoesTo (setup calls) Agrees c widths (started c w pick widths) w (site_of w)
goes calls c (ToPut key) pick widths wide = record { item = item.Work c 0 (Some key) 0 []; gives = refl; work = refl; agrees = refl }
goes calls c ToAdd pick widths wide = record {
  number = pick % widths 1;
  below = below_width pick (widths 1) (wide 1);
  sends = record { item = item.Work c 1 None 0 []; gives = refl; work = refl; agrees = tt };
}
goes calls c ToRead pick widths wide = record { item = item.Visit c 2 (widths 1) 0 []; gives = refl; visit = (refl, refl); agrees = tt }

puts : (calls : List Call) (c : ℕ) (w : Wish) (piece : Piece) (x : Item) (parts : Parts) (state : Counts) (fields : Counters) (pick : ℕ) → IsOn (site_of w) piece → IsWork c x → Agrees x w → state piece ≡ fields.counts piece
    → Blocks (setup calls) program reading Agrees c w piece (runs (port_of (setup calls) piece) x parts state pick fields.widths) state fields
puts calls c (ToPut k) (OfKey f l) (item.Work call t key turns vars) parts state fields pick on work agrees held =
    let P : ℕ → ℕ → ℤ → Option ℤ → Type 0 =
    λ d g m q. state (OfKey g m) ≡ fields.counts (OfKey g m) → Blocks (setup calls) program reading Agrees c (ToPut k) (OfKey g m) (runs (port.Slot g (slot_of m)) (item.Work d t q turns vars) parts state pick fields.widths) state fields in
    let here : P c 0 k (Some k) = λ h. record { answers = refl; changes = bumps calls (OfKey 0 k) state fields h } in
    subst (λ (d : ℕ). P d f l key) (sym work)
    (subst (λ (g : ℕ). P c g l key) (sym on.0)
    (subst (λ (m : ℤ). P c 0 m key) (sym on.1)
    (subst (λ (q : Option ℤ). P c 0 k q) (sym agrees) here)))
    held
puts calls c ToAdd (OfInstance f n) (item.Work call t key turns vars) parts state fields pick on work agrees held =
    let P : ℕ → ℕ → Type 0 =
    λ d g. state (OfInstance g n) ≡ fields.counts (OfInstance g n) → Blocks (setup calls) program reading Agrees c ToAdd (OfInstance g n) (runs (port.Inst g n) (item.Work d t key turns vars) parts state pick fields.widths) state fields in
    let here : P c 1 = λ h. record { answers = refl; changes = bumps calls (OfInstance 1 n) state fields h } in
    subst (λ (d : ℕ). P d f) (sym work) (subst (λ (g : ℕ). P c g) (sym on) here) held
puts calls c (ToPut k) (OfInstance f n) x parts state fields pick on work agrees held = absurd on
puts calls c ToAdd (OfKey f l) x parts state fields pick on work agrees held = absurd on
puts calls c ToRead piece x parts state fields pick on work agrees held = absurd on
puts calls c w piece (item.Start call m args) parts state fields pick on work agrees held = absurd work
puts calls c w piece (item.Visit call t width turns vars) parts state fields pick on work agrees held = absurd work
puts calls c w piece (item.Part call t width n turns vars value) parts state fields pick on work agrees held = absurd work
puts calls c w piece (item.Done call o) parts state fields pick on work agrees held = absurd work

reads : (calls : List Call) (c width : ℕ) (w : Wish) (field number : ℕ) (x : Item) (parts : Parts) (state : Counts) (fields : Counters) (pick : ℕ) → site_of w ≡ Global field → IsVisit c width x
    → state (OfInstance field number) ≡ fields.counts (OfInstance field number)
    → Visits (setup calls) program reading Agrees c width w field number (runs (port.Inst field number) x parts state pick fields.widths) state fields
reads calls c width w field number (item.Visit call t wide turns vars) parts state fields pick site visit held =
    let is_one = only_one w site in
    record {
      part = item.Part call t wide number turns vars (count (state (OfInstance field number)));
      gives = refl;
      is_part = (visit.0, visit.1, refl, ap count (held ∙ ap (λ (f : ℕ). fields.counts (OfInstance f number)) is_one));
      agrees = tt;
      changes = record { same = held; cell_others = λ q at ne. refl; field_others = λ q ne. refl; widths = λ f. refl; kind = refl; whole = refl };
    }
  where
    only_one : (w : Wish) → site_of w ≡ Global field → field ≡ 1
    only_one (ToPut k) e = absurd cc
    only_one ToAdd e = absurd cc
    only_one ToRead e = let same : 1 ≡ field = cc in sym same
reads calls c width w field number (item.Start call m args) parts state fields pick site visit held = absurd visit
reads calls c width w field number (item.Work call t key turns vars) parts state fields pick site visit held = absurd visit
reads calls c width w field number (item.Part call t n m turns vars value) parts state fields pick site visit held = absurd visit
reads calls c width w field number (item.Done call o) parts state fields pick site visit held = absurd visit

-- ---- parts

-- where one is missing not all are there
none_there : (os : List (Option Outcome)) (i : ℕ) → slice_get os i ≡ Some None → all_there os ≡ None
none_there [] i e = absurd cc
none_there (o ∷ os) zero e = let none : o ≡ None = cc in ap (λ (q : Option Outcome). cons_some q (all_there os)) none
none_there (o ∷ os) (suc i) e = ap (cons_some o) (none_there os i e) ∙ no_more o
  where
    no_more : (o : Option Outcome) → cons_some o None ≡ None
    no_more None = refl
    no_more (Some how) = refl

answer_at : (parts : Parts) (number : ℕ) (value : Outcome) (k left i : ℕ) → i < left → slice_get (answers parts number value k left) i ≡ Some (answer_of parts number value (k + i))
answer_at parts number value k zero i l = absurd (omega arith)
answer_at parts number value k (suc left) zero l = ap (λ (n : ℕ). Some (answer_of parts number value n)) (plus_zero k)
  where
    plus_zero : (k : ℕ) → k ≡ k + 0
    plus_zero k = omega arith
answer_at parts number value k (suc left) (suc i) l = answer_at parts number value (suc k) left i (less i left l) ∙ ap (λ (n : ℕ). Some (answer_of parts number value n)) (over k i)
  where
    less : (i left : ℕ) → suc i < suc left → i < left
    less i left l = omega arith

    over : (k i : ℕ) → suc k + i ≡ k + suc i
    over k i = omega arith

answers_are : (parts : Parts) (number : ℕ) (value : Outcome) (visited : List (Option Outcome)) (k : ℕ) → ((i : ℕ) → i < length visited → slice_get visited i ≡ Some (answer_of parts number value (k + i)))
    → answers parts number value k (length visited) ≡ visited
answers_are parts number value [] k each = refl
answers_are parts number value (o ∷ visited) k each =
    let first : Some o ≡ Some (answer_of parts number value (k + 0)) = each 0 (some (length visited)) in
    let is : o ≡ answer_of parts number value (k + 0) = cc in
    ap (λ (q : Option Outcome). q ∷ answers parts number value (suc k) (length visited)) (ap (answer_of parts number value) (plus_zero k) ∙ sym is)
    ∙ ap (λ (qs : List (Option Outcome)). o ∷ qs) (answers_are parts number value visited (suc k) (λ i l. each (suc i) (more i (length visited) l) ∙ ap (λ (n : ℕ). Some (answer_of parts number value n)) (over k i)))
  where
    some : (n : ℕ) → 0 < suc n
    some n = omega arith

    plus_zero : (k : ℕ) → k ≡ k + 0
    plus_zero k = omega arith

    more : (i n : ℕ) → i < n → suc i < suc n
    more i n l = omega arith

    over : (k i : ℕ) → k + suc i ≡ suc k + i
    over k i = omega arith

own_answer : (parts : Parts) (number : ℕ) (value : Outcome) → answer_of parts number value number ≡ Some value
own_answer parts number value = ap (λ (b : Bool). if b then Some value else value_in (parts number)) (eq-eqb number number refl)

other_answer : (parts : Parts) (number : ℕ) (value : Outcome) (k : ℕ) → k ≢ number → answer_of parts number value k ≡ value_in (parts k)
other_answer parts number value k ne = ap (λ (b : Bool). if b then Some value else value_in (parts k)) (false_from_ne_true (k == number) (λ e. ne (eqb-true k number e)))

value_is : (c width number : ℕ) (o : Outcome) (y : Item) → IsPart c width number o y → value_in (Some y) ≡ Some o
value_is c width number o (item.Part call t w n turns vars value) h = ap Some h.3
value_is c width number o (item.Start call m args) h = absurd h
value_is c width number o (item.Work call t key turns vars) h = absurd h
value_is c width number o (item.Visit call t w turns vars) h = absurd h
value_is c width number o (item.Done call how) h = absurd h

-- what a part gives at the join
gives_at_join : (c width number : ℕ) (o : Outcome) (x : Item) (parts : Parts) (state : Counts) (pick : ℕ) (widths : ℕ → ℕ) → IsPart c width number o x
    → (runs port.Join x parts state pick widths).out ≡ collected c (all_there (answers parts number o 0 width))
gives_at_join c width number o (item.Part call t w n turns vars value) parts state pick widths h =
    ap (λ (d : ℕ). collected d (all_there (answers parts n value 0 w))) h.0
    ∙ ap (λ (m : ℕ). collected c (all_there (answers parts n value 0 m))) h.1
    ∙ ap (λ (m : ℕ). collected c (all_there (answers parts m value 0 width))) h.2
    ∙ ap (λ (v : Outcome). collected c (all_there (answers parts number v 0 width))) h.3
gives_at_join c width number o (item.Start call m args) parts state pick widths h = absurd h
gives_at_join c width number o (item.Work call t key turns vars) parts state pick widths h = absurd h
gives_at_join c width number o (item.Visit call t w turns vars) parts state pick widths h = absurd h
gives_at_join c width number o (item.Done call how) parts state pick widths h = absurd h

waits_for : (c : ℕ) (w : Wish) (visited : List (Option Outcome)) (number : ℕ) (o : Outcome) (x : Item) (parts : Parts) (state : Counts) (pick : ℕ) (widths : ℕ → ℕ) → Gathers Agrees c w visited number o x parts
    → (i : ℕ) → i < length visited → i ≢ number → parts i ≡ None → (runs port.Join x parts state pick widths).out ≡ Wait
waits_for c w visited number o x parts state pick widths g i l ne missing =
    let none : answer_of parts number o (0 + i) ≡ None = ap (answer_of parts number o) (from_zero i) ∙ other_answer parts number o i ne ∙ ap value_in missing in
    gives_at_join c (length visited) number o x parts state pick widths g.part
    ∙ ap (collected c) (none_there (answers parts number o 0 (length visited)) i (answer_at parts number o 0 (length visited) i l ∙ ap Some none))
  where
    from_zero : (i : ℕ) → 0 + i ≡ i
    from_zero i = omega arith

joins_all : (c : ℕ) (w : Wish) (visited : List (Option Outcome)) (number : ℕ) (o : Outcome) (x : Item) (parts : Parts) (state : Counts) (pick : ℕ) (widths : ℕ → ℕ) → Gathers Agrees c w visited number o x parts
    → ((i : ℕ) → i < length visited → i ≢ number → (y : Item) × (parts i ≡ Some y)) → (outcomes : List Outcome) → all_there visited ≡ Some outcomes
    → (runs port.Join x parts state pick widths).out ≡ Result (item.Done c (count (sum_of outcomes)))
joins_all c w visited number o x parts state pick widths g all outcomes there =
    gives_at_join c (length visited) number o x parts state pick widths g.part
    ∙ ap (λ (os : List (Option Outcome)). collected c (all_there os)) (answers_are parts number o visited 0 (λ i l. each i l (number_cases i number)))
    ∙ ap (collected c) there
  where
    from_zero : (i : ℕ) → i ≡ 0 + i
    from_zero i = omega arith

    each : (i : ℕ) → i < length visited → (i ≡ number) ⊎ (i ≢ number) → slice_get visited i ≡ Some (answer_of parts number o (0 + i))
    each i l (inl same) = ap (slice_get visited) same ∙ g.answered ∙ ap Some (sym (own_answer parts number o)) ∙ ap (λ (n : ℕ). Some (answer_of parts number o n)) (sym same ∙ from_zero i)
    each i l (inr ne) =
        let y = all i l ne in
        let part = g.others i y.0 y.1 in
        part.1
        ∙ ap Some (sym (value_is c (length visited) i part.0 y.0 part.2) ∙ ap value_in (sym y.1) ∙ sym (other_answer parts number o i ne))
        ∙ ap (λ (n : ℕ). Some (answer_of parts number o n)) (from_zero i)

-- The machine does what the program does.
simulates : (calls : List Call) → Simulates (setup calls) program reading Agrees
simulates calls = record {
  some_instance = omega arith;
  as_wide = λ field. refl;
  same_partial = λ field. refl;
  starts = λ piece. refl;
  first_kinds = λ q. refl;
  first_whole = refl;
  begins = λ c call parts state pick widths wide kind is_call. record { answers = goes calls c (wish call.method call.args) pick widths wide; kind = refl };
  blocks = λ c w piece x parts state fields pick wide there kind whole on work agrees held. puts calls c w piece x parts state fields pick on work agrees held;
  visits = λ c width w field number x parts state fields pick there kind whole site below visit agrees held. reads calls c width w field number x parts state fields pick site visit held;
  waits = λ c w visited number o x parts state pick widths kind g i l ne missing. record { waits = waits_for c w visited number o x parts state pick widths g i l ne missing; kind = refl };
  joins = λ c w visited number o x parts state pick widths wide kind g all outcomes there. record { answers = joins_all c w visited number o x parts state pick widths g all outcomes there; kind = refl };
  grows = λ field fields piece whole. refl;
  widens = λ field fields f whole. refl;
  whole_still = λ field fields whole. refl;
}

pub example_simulates : ExampleSimulates
example_simulates = record {
  simulates = simulates;
  falls = record {
    begun = λ call w e. omega arith;
    block = λ w instance fields v e. absurd cc;
    joined = λ w outcomes v e. absurd cc;
  };
}

-- ---- a history

example_history : IsHistory (setup four_calls) history
unfolding same_port
example_history = (
  record { is_cell = tt; next = refl; given = refl; growths = refl; widths = refl },
  (
    record { is_cell = tt; next = refl; given = refl; growths = refl; widths = refl },
    (
      record { next = refl; is_partial = refl; room = omega arith },
      (
        record { is_cell = tt; next = refl; given = refl; growths = refl; widths = refl },
        (
          record { is_cell = omega arith; next = refl; given = refl; growths = refl; widths = refl },
          (
            record { is_cell = tt; next = refl; given = refl; growths = refl; widths = refl },
            (
              record { is_cell = omega arith; next = refl; given = refl; growths = refl; widths = refl },
              (
                record { is_cell = tt; next = refl; given = refl; growths = refl; widths = refl },
                (
                  record { is_cell = omega arith; next = refl; given = refl; growths = refl; widths = refl },
                  (
                    record { is_cell = tt; next = refl; given = refl; growths = refl; widths = refl },
                    (
                      record { is_cell = omega arith; next = refl; given = refl; growths = refl; widths = refl },
                      (record { is_cell = tt; next = refl; given = refl; growths = refl; widths = refl }, tt),
                    ),
                  ),
                ),
              ),
            ),
          ),
        ),
      ),
    ),
  ),
)

pub example_runs : ExampleRuns
unfolding same_port
example_runs = record {
  is_history = example_history;
  shows = refl;
  first_add = refl;
  read = refl;
  second_add = refl;
  put = refl;
  end = end_of (source program four_calls steps);
  legal = refl;
  reads_one = refl;
  grown_counts = refl;
}
  where
    end_of : Option (Source Wish Counters) → Source Wish Counters
    end_of None = record { fields = program.first; calls = [] }
    end_of (Some end) = end

pub example_refuses : ExampleRefuses
unfolding same_port
example_refuses = record {
  grown_visit = λ number pick growths at widths f. let e = f.given in absurd cc;
  grown_visit_step = refl;
  wrong_width = λ number pick growths at widths f. let e = f.given in absurd cc;
  second_part = λ number pick growths at widths f. let e = f.given in absurd cc;
  second_visit = λ number pick growths at widths f. let e = f.given in absurd cc;
  second_visit_step = refl;
  shows_no_join = refl;
  early_join_step = refl;
  no_result_yet = λ how e. absurd cc;
  second_begin = λ number pick growths at widths f. let e = f.given in absurd cc;
  second_begin_step = refl;
  block_of_read = refl;
  block_beyond = refl;
  full = λ number at g. let l = g.room in absurd (omega arith);
  last_growth_step = refl;
  full_step = refl;
  not_partial = λ number at g. let e = g.is_partial in absurd cc;
  not_partial_step = refl;
}
