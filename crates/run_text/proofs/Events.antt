-- What a line of an event breaks, and what it doesn't.
use Rattle.std.proofs.Common.{◌≡◌, ◌≢◌, ℕ, ◌<◌, ◌≤◌, List, [], ◌∷◌, length, get_or, Option, Some, None, refl, sym, ap, ◌∙◌, subst, arith, is_some, true, false}
use Rattle.std.specs.Prelude.{codes}
use Rattle.std.specs.Fmt.{decimal}
use Rattle.std.specs.Borrow.{Bor}
use Rattle.sdg_base.specs.declared.port.Port.{Port as PortOf}
use Rattle.placement.specs.declared.event.Event.{Event as EventOf}
use Rattle.placement.specs.declared.event.Event.TheVariants as event
use Rattle.run_text.specs.declared.error.ScheduleRule.{ScheduleRule}
use Rattle.run_text.specs.declared.error.ScheduleRule.TheVariants.{Spelling, Header, Event, Port, Number, Limit}
use Rattle.run_text.specs.declared.event.EventWords.{EventWords}
use Rattle.run_text.specs.declared.event.EventWords.TheVariants as w
use Rattle.run_text.specs.Lines.{words, IsWellSpelled}
use Rattle.run_text.specs.Schedules.{Words, take_words, event_words, port_text, Fits, IsHeaderForm, IsEventForm, TakeForm, SinkForm, HasStrangePort, StrangeReceiver, StrangeSender, StrangeResult, HasNoPick, IsEventLine, LaterBreaks, rule_number}
use Rattle.run_text.specs.ScheduleReading.{coming, words_of, IsLeast, IsMisfit, IsEventOf, IsCellText, IsSenderText}
use Rattle.run_text.proofs.Parts.{parts_some}

-- ---- The forms of events

pub some_coming : (later : Option (Bor (List ℕ))) → is_some later ≡ true → coming later ≢ []
some_coming None some none = cc
some_coming (Some rest) some none = let p = parts_some 32 rest.now in let e : p.0 ∷ p.1 ≡ [] = sym p.2 ∙ none in cc

pub none_coming : (later : Option (Bor (List ℕ))) → is_some later ≡ false → coming later ≡ []
none_coming None none = refl
none_coming (Some rest) none = cc

first_bytes : (a b : List ℕ) (ws us : Words) → a ∷ ws ≡ b ∷ us → get_or a 0 0 ≡ get_or b 0 0
first_bytes a b ws us e = ap (λ (xs : Words). get_or (get_or xs 0 []) 0 0) e

take_form : (ws : Words) → IsEventForm (codes "take" ∷ ws) → (a : List ℕ) × (b : List ℕ) × (c : List ℕ) × (ws ≡ a ∷ b ∷ c ∷ [])
take_form ws (TakeForm to from pick e) = let t : ws ≡ to ∷ from ∷ pick ∷ [] = cc in (to, from, pick, t)
take_form ws (SinkForm from e) = absurd (omega (arith, first_bytes (codes "take") (codes "sink") ws (from ∷ []) e))

sink_form : (ws : Words) → IsEventForm (codes "sink" ∷ ws) → (a : List ℕ) × (ws ≡ a ∷ [])
sink_form ws (TakeForm to from pick e) = absurd (omega (arith, first_bytes (codes "sink") (codes "take") ws (to ∷ from ∷ pick ∷ []) e))
sink_form ws (SinkForm from e) = let t : ws ≡ from ∷ [] = cc in (from, t)

pub no_more_taken : (ws us vs xs : Words) (a b c : List ℕ) → ws ≡ a ∷ us → us ≡ b ∷ vs → vs ≡ c ∷ xs → xs ≢ [] → ¬ IsEventForm (codes "take" ∷ ws)
no_more_taken ws us vs xs a b c p q r more form =
    let t = take_form ws form in
    let e = t.3 in
    let none : xs ≡ [] = cc in
    more none

pub no_more_sunk : (ws us : Words) (a : List ℕ) → ws ≡ a ∷ us → us ≢ [] → ¬ IsEventForm (codes "sink" ∷ ws)
no_more_sunk ws us a p more form =
    let t = sink_form ws form in
    let e = t.1 in
    let none : us ≡ [] = cc in
    more none

pub form_of : (found : EventWords) → IsEventForm (words_of found)
form_of (w.Take to from pick) = TakeForm to.now from.now pick.now refl
form_of (w.Sink from) = SinkForm from.now refl

-- ---- The misfits of a take

pub no_strange_take : (fields : Words) (slots : ℕ) (to from pick : List ℕ) (p q : PortOf) → IsCellText fields slots to p → IsSenderText fields slots from q → ¬ HasStrangePort fields slots (take_words to from pick)
no_strange_take fields slots to from pick p q a b (StrangeReceiver t f n e none) =
    let same : to ≡ t = cc in none p a.cell (a.text ∙ same)
no_strange_take fields slots to from pick p q a b (StrangeSender t f n e none) =
    let same : from ≡ f = cc in none q b.sender (b.text ∙ same)
no_strange_take fields slots to from pick p q a b (StrangeResult f e none) = cc

-- ---- An event's line breaks no rule where there is room.

no_header : (fields : Words) (e : EventOf) (ws : Words) → ws ≡ event_words fields e → ¬ IsHeaderForm ws
no_header fields (event.Take to from pick) ws same h = let both = sym same ∙ h.words in cc
no_header fields (event.Sink from) ws same h = let both = sym same ∙ h.words in cc

has_form : (fields : Words) (e : EventOf) (ws : Words) → ws ≡ event_words fields e → IsEventForm ws
has_form fields (event.Take to from pick) ws same = TakeForm (port_text fields to) (port_text fields from) (decimal pick) same
has_form fields (event.Sink from) ws same = SinkForm (port_text fields from) same

no_strange : (fields : Words) (slots : ℕ) (e : EventOf) (ws : Words) → Fits (length fields) slots e → ws ≡ event_words fields e → ¬ HasStrangePort fields slots ws
no_strange fields slots (event.Take to from pick) ws fits same (StrangeReceiver t f n s none) =
    let both = sym same ∙ s in
    let text : port_text fields to ≡ t = cc in none to fits.0 text
no_strange fields slots (event.Take to from pick) ws fits same (StrangeSender t f n s none) =
    let both = sym same ∙ s in
    let text : port_text fields from ≡ f = cc in none from fits.1 text
no_strange fields slots (event.Take to from pick) ws fits same (StrangeResult f s none) = let both = sym same ∙ s in cc
no_strange fields slots (event.Sink from) ws fits same (StrangeReceiver t f n s none) = let both = sym same ∙ s in cc
no_strange fields slots (event.Sink from) ws fits same (StrangeSender t f n s none) = let both = sym same ∙ s in cc
no_strange fields slots (event.Sink from) ws fits same (StrangeResult f s none) =
    let both = sym same ∙ s in
    let text : port_text fields from ≡ f = cc in none from fits text

has_pick : (fields : Words) (slots : ℕ) (e : EventOf) (ws : Words) → Fits (length fields) slots e → ws ≡ event_words fields e → ¬ HasNoPick ws
has_pick fields slots (event.Take to from pick) ws fits same h =
    let both = sym same ∙ h.words in
    let text : decimal pick ≡ h.pick = cc in h.none pick fits.2 text
has_pick fields slots (event.Sink from) ws fits same h = let both = sym same ∙ h.words in cc

pub event_breaks_none : (fields : Words) (slots before : ℕ) (line : List ℕ) (e : EventOf) (rule : ScheduleRule) → IsEventLine fields slots line e → before < 1000000 → ¬ LaterBreaks fields slots before line rule
event_breaks_none fields slots before line e Spelling is room broken = broken is.spelled
event_breaks_none fields slots before line e Header is room broken = no_header fields e (words line) is.words broken
event_breaks_none fields slots before line e Event is room broken = broken (has_form fields e (words line) is.words)
event_breaks_none fields slots before line e Port is room broken = no_strange fields slots e (words line) is.fits is.words broken
event_breaks_none fields slots before line e Number is room broken = has_pick fields slots e (words line) is.fits is.words broken
event_breaks_none fields slots before line e Limit is room broken = omega arith

-- ---- The least rule that a line breaks

pub least_event : (fields : Words) (slots before : ℕ) (line : List ℕ) → IsWellSpelled line → ¬ IsHeaderForm (words line) → ¬ IsEventForm (words line) → IsLeast (LaterBreaks fields slots before line) Event
least_event fields slots before line spelled later form = record { broken = form; least = below } where
  below : (other : ScheduleRule) → rule_number other < 3 → ¬ LaterBreaks fields slots before line other
  below Spelling lt broken = broken spelled
  below Header lt broken = later broken
  below Event lt broken = omega arith
  below Port lt broken = omega arith
  below Number lt broken = omega arith
  below Limit lt broken = omega arith

pub least_misfit : (fields : Words) (slots before : ℕ) (line : List ℕ) (found : EventWords) (rule : ScheduleRule) → IsWellSpelled line → ¬ IsHeaderForm (words line) → words line ≡ words_of found → IsMisfit fields slots (words_of found) rule → IsLeast (LaterBreaks fields slots before line) rule
least_misfit fields slots before line found Spelling spelled later same m = absurd m
least_misfit fields slots before line found Header spelled later same m = absurd m
least_misfit fields slots before line found Event spelled later same m = absurd m
least_misfit fields slots before line found Limit spelled later same m = absurd m
least_misfit fields slots before line found Port spelled later same m = record { broken = subst (HasStrangePort fields slots) (sym same) m; least = below } where
  below : (other : ScheduleRule) → rule_number other < 4 → ¬ LaterBreaks fields slots before line other
  below Spelling lt broken = broken spelled
  below Header lt broken = later broken
  below Event lt broken = broken (subst IsEventForm (sym same) (form_of found))
  below Port lt broken = omega arith
  below Number lt broken = omega arith
  below Limit lt broken = omega arith
least_misfit fields slots before line found Number spelled later same m = record { broken = subst HasNoPick (sym same) m.0; least = below } where
  below : (other : ScheduleRule) → rule_number other < 5 → ¬ LaterBreaks fields slots before line other
  below Spelling lt broken = broken spelled
  below Header lt broken = later broken
  below Event lt broken = broken (subst IsEventForm (sym same) (form_of found))
  below Port lt broken = m.1 (subst (HasStrangePort fields slots) same broken)
  below Number lt broken = omega arith
  below Limit lt broken = omega arith

pub least_limit : (fields : Words) (slots before : ℕ) (line : List ℕ) (e : EventOf) → IsEventLine fields slots line e → 1000000 ≤ before → IsLeast (LaterBreaks fields slots before line) Limit
least_limit fields slots before line e is full = record { broken = full; least = below } where
  below : (other : ScheduleRule) → rule_number other < 7 → ¬ LaterBreaks fields slots before line other
  below Spelling lt = event_breaks_none fields slots 0 line e Spelling is (omega arith)
  below Header lt = event_breaks_none fields slots 0 line e Header is (omega arith)
  below Event lt = event_breaks_none fields slots 0 line e Event is (omega arith)
  below Port lt = event_breaks_none fields slots 0 line e Port is (omega arith)
  below Number lt = event_breaks_none fields slots 0 line e Number is (omega arith)
  below Limit lt = absurd (omega arith)

pub event_line : (fields : Words) (slots : ℕ) (line : List ℕ) (ws : Words) (e : EventOf) → IsWellSpelled line → words line ≡ ws → IsEventOf fields slots ws e → IsEventLine fields slots line e
event_line fields slots line ws e spelled same is = record { spelled = spelled; fits = is.fits; first = is.first; words = same ∙ is.words }
