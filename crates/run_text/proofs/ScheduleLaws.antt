-- A text has one answer: its schedule, or its first break.
use Rattle.std.proofs.Common.{◌≡◌, ℕ, ◌≤◌, List, [], ◌∷◌, length, Result, Ok, Err, refl, sym, ap, ◌∙◌, subst, arith, rules, inl, inr, ◌⊎◌}
use Rattle.std.specs.Prelude.{IfOk, IfErr, IsErr, MatchResult}
use Rattle.std.specs.List.{AllZip, AllByRecursion}
use Rattle.std.specs.Fmt.{decimal}
use Rattle.std.proofs.lemmas.Bool.{cases_lt}
use Rattle.std.proofs.lemmas.Fmt.{decimal_injective}
use Rattle.sdg_base.specs.declared.port.Port.{Port as PortOf}
use Rattle.placement.specs.declared.event.Header.{Header as HeaderOf}
use Rattle.placement.specs.declared.event.Event.{Event as EventOf}
use Rattle.placement.specs.declared.event.Event.TheVariants as event
use Rattle.placement.specs.declared.event.Schedule.{Schedule as ScheduleOf}
use Rattle.run_text.specs.declared.error.ScheduleRule.{ScheduleRule}
use Rattle.run_text.specs.declared.error.TextError.{TextError}
use Rattle.run_text.specs.declared.error.TextError.TheVariants as x
use Rattle.run_text.specs.Lines.{said_lines}
use Rattle.run_text.specs.Schedules.{Words, IsInRange, port_text, event_words, Fits, HasFirstFields, IsEventLine, AreOf, IsSchedule, BreaksAt, IsFirstScheduleBreak, IsScheduleRefusal, rule_number}
use Rattle.run_text.proofs.Ports.{one_cell, one_sender}
use Rattle.run_text.proofs.ScheduleText.{one_header, schedule_breaks_none}

-- ---- A line is that of one event, and so a text has one schedule.

one_take : (to from : PortOf) (pick : ℕ) (t f : PortOf) (p : ℕ) → to ≡ t → from ≡ f → pick ≡ p → event.Take to from pick ≡ event.Take t f p
one_take to from pick t f p a b c = cc

one_event_of : (fields : Words) (slots : ℕ) (a b : EventOf) → slots ≤ 255 → Fits (length fields) slots a → Fits (length fields) slots b → HasFirstFields fields a → HasFirstFields fields b → event_words fields a ≡ event_words fields b → a ≡ b
one_event_of fields slots (event.Take to from pick) (event.Take t f p) few fa fb ga gb same =
    let to_text : port_text fields to ≡ port_text fields t = cc in
    let from_text : port_text fields from ≡ port_text fields f = cc in
    let pick_text : decimal pick ≡ decimal p = cc in
    one_take to from pick t f p (one_cell fields slots to t few fa.0 fb.0 ga.0 gb.0 to_text) (one_sender fields slots from f few fa.1 fb.1 ga.1 gb.1 from_text) (decimal_injective pick p (omega (arith, fa.2)) (omega (arith, fb.2)) pick_text)
one_event_of fields slots (event.Take to from pick) (event.Sink f) few fa fb ga gb same = cc
one_event_of fields slots (event.Sink from) (event.Take t f p) few fa fb ga gb same = cc
one_event_of fields slots (event.Sink from) (event.Sink f) few fa fb ga gb same =
    let text : port_text fields from ≡ port_text fields f = cc in
    ap (λ (p : PortOf). event.Sink p) (one_cell fields slots from f few fa fb ga gb text)

one_event : (fields : Words) (slots : ℕ) (line : List ℕ) (a b : EventOf) → slots ≤ 255 → IsEventLine fields slots line a → IsEventLine fields slots line b → a ≡ b
one_event fields slots line a b few p q = one_event_of fields slots a b few p.fits q.fits p.first q.first (sym p.words ∙ q.words)

one_list_of_events : (fields : Words) (slots : ℕ) (ls : Words) (cs bs : List EventOf) → slots ≤ 255 → AllZip (IsEventLine fields slots) ls cs → AllZip (IsEventLine fields slots) ls bs → cs ≡ bs
one_list_of_events fields slots [] [] [] few p q = refl
one_list_of_events fields slots [] (a ∷ cs) bs few p q = absurd p
one_list_of_events fields slots [] [] (b ∷ bs) few p q = absurd q
one_list_of_events fields slots (l ∷ ls) [] bs few p q = absurd p
one_list_of_events fields slots (l ∷ ls) (a ∷ cs) [] few p q = absurd q
one_list_of_events fields slots (l ∷ ls) (a ∷ cs) (b ∷ bs) few p q =
    let one = one_event fields slots l a b few p.0 q.0 in
    let others = one_list_of_events fields slots ls cs bs few p.1 q.1 in
    cc

made : (h g : HeaderOf) (es ds : List EventOf) → h ≡ g → es ≡ ds → let a : ScheduleOf = record { header = h; events = es } in let b : ScheduleOf = record { header = g; events = ds } in a ≡ b
made h g es ds p q = cc

one_schedule_of : (fields lines : Words) (a b : ScheduleOf) → AreOf fields lines a → AreOf fields lines b → a ≡ b
one_schedule_of fields [] a b p q = made a.header b.header a.events b.events (p.0 ∙ sym q.0) (p.1 ∙ sym q.1)
one_schedule_of fields (first ∷ others) a b p q =
    let header = one_header first a.header b.header p.0 q.0 in
    let events = subst (λ (h : HeaderOf). AllZip (IsEventLine fields h.slots) others b.events) (sym header) q.1 in
    made a.header b.header a.events b.events header (one_list_of_events fields a.header.slots others a.events b.events (omega (arith, p.0.range.one_slot)) p.1 events)

-- ---- A text has one first break.

move : (fields ls : Words) (i j : ℕ) (rule : ScheduleRule) → i ≡ j → BreaksAt fields ls i rule → BreaksAt fields ls j rule
move fields ls i j rule e b = subst (λ n. BreaksAt fields ls n rule) e b

one_break : (fields ls : Words) (m n r s : ℕ) → IsFirstScheduleBreak fields ls m r → IsFirstScheduleBreak fields ls n s → (m ≡ n) × (r ≡ s)
one_break fields ls m n r s p q =
    let no_later : q.place ≤ p.place = elim (cases_lt p.place q.place) [ inl lt ↦ absurd (q.first p.place p.which lt p.broken) | inr le ↦ le ] in
    let no_earlier : p.place ≤ q.place = elim (cases_lt q.place p.place) [ inl lt ↦ absurd (p.first q.place q.which lt q.broken) | inr le ↦ le ] in
    let here : p.place ≡ q.place = omega arith in
    let no_more : s ≤ r = elim (cases_lt (rule_number p.which) s) [ inl lt ↦ absurd (q.least p.which lt (move fields ls p.place q.place p.which here p.broken)) | inr le ↦ omega (arith, p.rule_is) ] in
    let no_less : r ≤ s = elim (cases_lt (rule_number q.which) r) [ inl lt ↦ absurd (p.least q.which lt (move fields ls q.place p.place q.which (sym here) q.broken)) | inr le ↦ omega (arith, q.rule_is) ] in
    (omega (arith, p.number_is, q.number_is), omega arith)

-- ---- What follows for an answer

all_fit : (fields : Words) (slots : ℕ) (ls : Words) (events : List EventOf) → AllZip (IsEventLine fields slots) ls events → AllByRecursion (Fits (length fields) slots) events
all_fit fields slots [] [] h = tt
all_fit fields slots [] (e ∷ events) h = absurd h
all_fit fields slots (l ∷ ls) [] h = absurd h
all_fit fields slots (l ∷ ls) (e ∷ events) h = (h.0.fits, all_fit fields slots ls events h.1)

range_of : (fields ls : Words) (s : ScheduleOf) → AreOf fields ls s → IsInRange s.header
range_of fields [] s h = subst IsInRange (sym h.0) (record { some_nodes = omega arith; most_nodes = omega arith; one_slot = refl; some_stores = omega arith; most_stores = omega arith; some_width = omega arith; most_width = omega arith })
range_of fields (first ∷ others) s h = h.0.range

fits_of : (fields ls : Words) (s : ScheduleOf) → AreOf fields ls s → AllByRecursion (Fits (length fields) s.header.slots) s.events
fits_of fields [] s h = subst (AllByRecursion (Fits (length fields) s.header.slots)) (sym h.1) tt
fits_of fields (first ∷ others) s h = all_fit fields s.header.slots others s.events h.1

pub range : (fields ls : Words) (r : Result ScheduleOf TextError) → IfOk r (IsSchedule fields ls) → IfOk r (λ s. IsInRange s.header)
range fields ls (Ok s) h = range_of fields (said_lines ls) s h.lines
range fields ls (Err e) h = tt

pub fits : (fields ls : Words) (r : Result ScheduleOf TextError) → IfOk r (IsSchedule fields ls) → IfOk r (λ s. AllByRecursion (Fits (length fields) s.header.slots) s.events)
fits fields ls (Ok s) h = fits_of fields (said_lines ls) s h.lines
fits fields ls (Err e) h = tt

pub broken : (fields ls : Words) (r : Result ScheduleOf TextError) (place : ℕ) (rule : ScheduleRule) → IfOk r (IsSchedule fields ls) → BreaksAt fields ls place rule → IsErr r
broken fields ls (Ok s) place rule h b = absurd (schedule_breaks_none fields ls s place rule h b)
broken fields ls (Err e) place rule h b = search rules

pub only_schedule : (fields ls : Words) (r : Result ScheduleOf TextError) (schedule : ScheduleOf) → IfOk r (IsSchedule fields ls) → IfErr r (IsScheduleRefusal fields ls) → IsSchedule fields ls schedule → MatchResult r (λ found. found ≡ schedule) (λ error. error ≡ x.Memory)
only_schedule fields ls (Ok found) schedule h g is = one_schedule_of fields (said_lines ls) found schedule h.lines is.lines
only_schedule fields ls (Err x.Memory) schedule h g is = refl
only_schedule fields ls (Err (x.Bad line rule)) schedule h g is = absurd (schedule_breaks_none fields ls schedule g.place g.which is g.broken)

pub only_bad : (fields ls : Words) (r : Result ScheduleOf TextError) (line rule : ℕ) → IfOk r (IsSchedule fields ls) → IfErr r (IsScheduleRefusal fields ls) → IsFirstScheduleBreak fields ls line rule → MatchResult r (λ _. ⊥) (λ error. (error ≡ x.Bad line rule) ⊎ (error ≡ x.Memory))
only_bad fields ls (Ok found) line rule h g first = schedule_breaks_none fields ls found first.place first.which h first.broken
only_bad fields ls (Err x.Memory) line rule h g first = inr refl
only_bad fields ls (Err (x.Bad m r)) line rule h g first =
    let one = one_break fields ls m line r rule g first in
    inl (ap (λ (n : ℕ). x.Bad n r) one.0 ∙ ap (λ (n : ℕ). x.Bad line n) one.1)
