-- The lines of a schedule, one after the other.
use Rattle.std.proofs.Common.{◌≡◌, ℕ, suc, zero, ◌+◌, ◌<◌, ◌≤◌, Bool, true, false, List, [], ◌∷◌, ◌++◌, length, take, drop, Some, refl, sym, ap, ◌∙◌, subst, arith}
use Rattle.std.specs.Prelude.{slice_get}
use Rattle.std.specs.List.{AllZip}
use Rattle.std.specs.Fmt.{decimal}
use Rattle.std.proofs.lemmas.Fmt.{decimal_injective}
use Rattle.std.proofs.lemmas.List.{take-take, take_all, append-nil, length-append, length-drop}
use Rattle.std.proofs.lemmas.Slice.Zip.{AllZip-long}
use Rattle.placement.specs.declared.event.Header.{Header as HeaderOf}
use Rattle.placement.specs.declared.event.Event.{Event as EventOf}
use Rattle.placement.specs.declared.event.Schedule.{Schedule as ScheduleOf}
use Rattle.run_text.specs.declared.error.ScheduleRule.{ScheduleRule}
use Rattle.run_text.specs.declared.error.ScheduleRule.TheVariants.{Spelling, Header, Event, Port, Number, Limit}
use Rattle.run_text.specs.Lines.{is_skipped, said_lines}
use Rattle.placement.specs.Defaults.{default_header}
use Rattle.run_text.specs.Schedules.{Words, IsHeaderLine, IsEventLine, AreOf, IsSchedule, FirstBreaks, LaterBreaks, Breaks, BreaksAt, IsFirstScheduleBreak, rule_number}
use Rattle.run_text.specs.ScheduleReading.{IsLeast, IsNextSaid}
use Rattle.run_text.proofs.Arguments.{AllZip_push}
use Rattle.run_text.proofs.Rules.{slice_get-take}
use Rattle.run_text.proofs.Text.{next, said_push, same_line}
use Rattle.run_text.proofs.Events.{event_breaks_none}

pub still_silent : (ls : List (List ℕ)) (line : List ℕ) → is_skipped line ≡ true → said_lines ls ≡ [] → said_lines (ls ++ line ∷ []) ≡ []
still_silent ls line skipped silent = said_push ls line ∙ rw (skipped, append-nil (said_lines ls)) silent

pub all_silent : (ls : List (List ℕ)) (i : ℕ) → drop i ls ≡ [] → said_lines (take i ls) ≡ [] → said_lines ls ≡ []
all_silent ls i none silent =
    let short : length ls ≤ i = omega (arith, length-drop i ls, ap length none) in
    subst (λ (xs : List (List ℕ)). said_lines xs ≡ []) (take_all i ls short) silent

-- ---- The events so far

-- The first line that isn't skipped is this header's, and the others are those of the events.
pub record SoFar (fields ls : Words) (header : HeaderOf) (events : List EventOf) : Type 0 where
  pub first : List ℕ
  pub others : Words
  pub said : said_lines ls ≡ first ∷ others
  pub is : IsHeaderLine first header
  pub each : AllZip (IsEventLine fields header.slots) others events
  pub few : length events ≤ 1000000

pub begun : (fields ls : Words) (skipped : ℕ) (line : List ℕ) (more : Words) (header : HeaderOf) → IsNextSaid ls skipped line more → IsHeaderLine line header → SoFar fields (take (skipped + 1) ls) header []
begun fields ls skipped line more header h is =
    let n = next ls skipped line more h.coming in
    let said : said_lines (take (skipped + 1) ls) ≡ line ∷ [] = ap said_lines n.gone ∙ said_push (take skipped ls) line ∙ rw (h.silent, h.said) refl in
    record { first = line; others = []; said = said; is = is; each = tt; few = omega arith }

pub skip : (fields ls : Words) (line : List ℕ) (header : HeaderOf) (events : List EventOf) → is_skipped line ≡ true → SoFar fields ls header events → SoFar fields (ls ++ line ∷ []) header events
skip fields ls line header events skipped h =
    let same : said_lines (ls ++ line ∷ []) ≡ said_lines ls = said_push ls line ∙ rw skipped (append-nil (said_lines ls)) in
    record { first = h.first; others = h.others; said = same ∙ h.said; is = h.is; each = h.each; few = h.few }

pub add_event : (fields ls : Words) (line : List ℕ) (header : HeaderOf) (events : List EventOf) (e : EventOf) → is_skipped line ≡ false → SoFar fields ls header events → IsEventLine fields header.slots line e → length events < 1000000 → SoFar fields (ls ++ line ∷ []) header (events ++ e ∷ [])
add_event fields ls line header events e said h is room =
    let same : said_lines (ls ++ line ∷ []) ≡ h.first ∷ (h.others ++ line ∷ []) = said_push ls line ∙ rw (said, h.said) refl in
    record { first = h.first; others = h.others ++ line ∷ []; said = same; is = h.is; each = AllZip_push (IsEventLine fields header.slots) h.others events line e h.each is; few = omega (arith, length-append events (e ∷ [])) }

pub all_events : (fields ls : Words) (i : ℕ) (header : HeaderOf) (events : List EventOf) → drop i ls ≡ [] → SoFar fields (take i ls) header events → IsSchedule fields ls (record { header = header; events = events })
all_events fields ls i header events none so_far =
    let short : length ls ≤ i = omega (arith, length-drop i ls, ap length none) in
    let h = subst (λ (xs : Words). SoFar fields xs header events) (take_all i ls short) so_far in
    record { lines = subst (λ (xs : Words). AreOf fields xs (record { header = header; events = events })) (sym h.said) (h.is, h.each); few = h.few }

pub no_lines : (fields ls : Words) → said_lines ls ≡ [] → IsSchedule fields ls (record { header = default_header; events = [] })
no_lines fields ls none =
    record { lines = subst (λ (xs : Words). AreOf fields xs (record { header = default_header; events = [] })) (sym none) (refl, refl); few = omega arith }

-- ---- Lines of a schedule break no rule.

made_header : (nodes slots stores width n s t w : ℕ) → nodes ≡ n → slots ≡ s → stores ≡ t → width ≡ w → let a : HeaderOf = record { nodes = nodes; slots = slots; stores = stores; width = width } in let b : HeaderOf = record { nodes = n; slots = s; stores = t; width = w } in a ≡ b
made_header nodes slots stores width n s t w p q r u = cc

pub one_header : (line : List ℕ) (a b : HeaderOf) → IsHeaderLine line a → IsHeaderLine line b → a ≡ b
one_header line a b p q =
    let both = sym p.words ∙ q.words in
    let nodes_text : decimal a.nodes ≡ decimal b.nodes = cc in
    let slots_text : decimal a.slots ≡ decimal b.slots = cc in
    let stores_text : decimal a.stores ≡ decimal b.stores = cc in
    let width_text : decimal a.width ≡ decimal b.width = cc in
    let nodes : a.nodes ≡ b.nodes = decimal_injective a.nodes b.nodes (omega (arith, p.range.most_nodes)) (omega (arith, q.range.most_nodes)) nodes_text in
    let slots : a.slots ≡ b.slots = decimal_injective a.slots b.slots (omega (arith, p.range.one_slot)) (omega (arith, q.range.one_slot)) slots_text in
    let stores : a.stores ≡ b.stores = decimal_injective a.stores b.stores (omega (arith, p.range.most_stores)) (omega (arith, q.range.most_stores)) stores_text in
    let width : a.width ≡ b.width = decimal_injective a.width b.width (omega (arith, p.range.most_width)) (omega (arith, q.range.most_width)) width_text in
    made_header a.nodes a.slots a.stores a.width b.nodes b.slots b.stores b.width nodes slots stores width

pub header_breaks_none : (line : List ℕ) (header : HeaderOf) (rule : ScheduleRule) → IsHeaderLine line header → ¬ FirstBreaks line rule
header_breaks_none line header Spelling is broken = broken is.spelled
header_breaks_none line header Header is broken = broken header is.range is.words
header_breaks_none line header Event is broken = broken
header_breaks_none line header Port is broken = broken
header_breaks_none line header Number is broken = broken
header_breaks_none line header Limit is broken = broken

-- The line at a place of the said lines, and those before it
pub record SaidAt (ls : Words) (place : ℕ) (line : List ℕ) : Type 0 where
  pub after : Words
  pub whole : said_lines ls ≡ said_lines (take place ls) ++ line ∷ after

said_after : (l : List ℕ) (ls : Words) (line : List ℕ) (i : ℕ) (b : Bool) → is_skipped l ≡ b → SaidAt ls i line → SaidAt (l ∷ ls) (suc i) line
said_after l ls line i true s h = record { after = h.after; whole = rw s h.whole }
said_after l ls line i false s h = record { after = h.after; whole = rw s (ap (λ (xs : Words). l ∷ xs) h.whole) }

said_at : (ls : Words) (i : ℕ) (line : List ℕ) → slice_get ls i ≡ Some line → is_skipped line ≡ false → SaidAt ls i line
said_at [] i line here said = absurd cc
said_at (l ∷ ls) zero line here said =
    let same : l ≡ line = cc in
    let s : is_skipped l ≡ false = ap is_skipped same ∙ said in
    record { after = said_lines ls; whole = rw s (ap (λ (x : List ℕ). x ∷ said_lines ls) same) }
said_at (l ∷ ls) (suc i) line here said = said_after l ls line i (is_skipped l) refl (said_at ls i line here said)

-- the event of a line behind these, which are of events
zip_behind : (fields : Words) (slots : ℕ) (before after : Words) (line : List ℕ) (events : List EventOf) → AllZip (IsEventLine fields slots) (before ++ line ∷ after) events → (e : EventOf) × IsEventLine fields slots line e × (length before < length events)
zip_behind fields slots [] after line [] h = absurd h
zip_behind fields slots [] after line (e ∷ events) h = (e, h.0, omega arith)
zip_behind fields slots (b ∷ before) after line [] h = absurd h
zip_behind fields slots (b ∷ before) after line (e ∷ events) h =
    let later = zip_behind fields slots before after line events h.1 in
    (later.0, later.1, omega (arith, later.2))

are_of_break_none : (fields before after : Words) (line : List ℕ) (schedule : ScheduleOf) (rule : ScheduleRule) → AreOf fields (before ++ line ∷ after) schedule → length schedule.events ≤ 1000000 → ¬ Breaks fields before line rule
are_of_break_none fields [] after line schedule rule are few broken = header_breaks_none line schedule.header rule are.0 broken
are_of_break_none fields (first ∷ before) after line schedule rule are few broken =
    let same = one_header first broken.0 schedule.header broken.1 are.0 in
    let later = zip_behind fields schedule.header.slots before after line schedule.events are.1 in
    event_breaks_none fields schedule.header.slots (length before) line later.0 rule later.1 (omega (arith, later.2))
    (subst (λ (h : HeaderOf). LaterBreaks fields h.slots (length before) line rule) same broken.2)

pub schedule_breaks_none : (fields ls : Words) (schedule : ScheduleOf) (place : ℕ) (rule : ScheduleRule) → IsSchedule fields ls schedule → ¬ BreaksAt fields ls place rule
schedule_breaks_none fields ls schedule place rule are b =
    let at = said_at ls place b.line b.here b.said in
    are_of_break_none fields (said_lines (take place ls)) at.after b.line schedule rule (subst (λ (xs : Words). AreOf fields xs schedule) at.whole are.lines) are.few b.broken

-- a break of one of the first lines is one of the text that they make
break_in_front : (fields ls : Words) (n i : ℕ) (rule : ScheduleRule) → i < n → BreaksAt fields ls i rule → BreaksAt fields (take n ls) i rule
break_in_front fields ls n i rule lt b =
    record { line = b.line; here = slice_get-take n ls i lt ∙ b.here; said = b.said; broken = subst (λ (xs : Words). Breaks fields (said_lines xs) b.line rule) (sym (take-take i n ls (omega arith))) b.broken }

-- ---- The first break

refused_at : (fields ls : Words) (i : ℕ) (line : List ℕ) (rule : ScheduleRule) → slice_get ls i ≡ Some line → is_skipped line ≡ false → ((earlier : ℕ) (other : ScheduleRule) → ¬ BreaksAt fields (take i ls) earlier other) → IsLeast (Breaks fields (said_lines (take i ls)) line) rule → IsFirstScheduleBreak fields ls (i + 1) (rule_number rule)
refused_at fields ls i line rule here said before least = record {
  place = i;
  which = rule;
  number_is = refl;
  rule_is = refl;
  broken = record { line = line; here = here; said = said; broken = least.broken };
  least = λ other lt b.
      let same : b.line ≡ line = same_line b.line line (sym b.here ∙ here) in
      least.least other lt (subst (λ (x : List ℕ). Breaks fields (said_lines (take i ls)) x other) same b.broken);
  first = λ earlier other lt b. before earlier other (break_in_front fields ls i earlier other lt b);
}

silent_breaks_none : (fields ls : Words) → said_lines ls ≡ [] → (place : ℕ) (rule : ScheduleRule) → ¬ BreaksAt fields ls place rule
silent_breaks_none fields ls none place rule b = schedule_breaks_none fields ls (record { header = default_header; events = [] }) place rule (no_lines fields ls none) b

pub refused_first : (fields ls : Words) (skipped : ℕ) (line : List ℕ) (more : Words) (rule : ScheduleRule) → IsNextSaid ls skipped line more → IsLeast (FirstBreaks line) rule → IsFirstScheduleBreak fields ls (skipped + 1) (rule_number rule)
refused_first fields ls skipped line more rule h least =
    let n = next ls skipped line more h.coming in
    refused_at fields ls skipped line rule n.here h.said (silent_breaks_none fields (take skipped ls) h.silent)
    (subst (λ (xs : Words). IsLeast (Breaks fields xs line) rule) (sym h.silent) (record { broken = least.broken; least = least.least }))

so_far_schedule : (fields ls : Words) (header : HeaderOf) (events : List EventOf) → SoFar fields ls header events → IsSchedule fields ls (record { header = header; events = events })
so_far_schedule fields ls header events h =
    record { lines = subst (λ (xs : Words). AreOf fields xs (record { header = header; events = events })) (sym h.said) (h.is, h.each); few = h.few }

later_least : (fields others : Words) (first line : List ℕ) (header : HeaderOf) (rule : ScheduleRule) → IsHeaderLine first header → IsLeast (LaterBreaks fields header.slots (length others) line) rule → IsLeast (Breaks fields (first ∷ others) line) rule
later_least fields others first line header rule is least = record {
  broken = (header, is, least.broken);
  least = λ other lt b. least.least other lt (subst (λ (h : HeaderOf). LaterBreaks fields h.slots (length others) line other) (one_header first b.0 header b.1 is) b.2);
}

pub refused_later : (fields ls : Words) (i : ℕ) (line : List ℕ) (header : HeaderOf) (events : List EventOf) (rule : ScheduleRule) → SoFar fields (take i ls) header events → slice_get ls i ≡ Some line → is_skipped line ≡ false → IsLeast (LaterBreaks fields header.slots (length events) line) rule → IsFirstScheduleBreak fields ls (i + 1) (rule_number rule)
refused_later fields ls i line header events rule h here said least =
    let long : length events ≡ length h.others = AllZip-long (IsEventLine fields header.slots) h.others events h.each in
    let before : (earlier : ℕ) (other : ScheduleRule) → ¬ BreaksAt fields (take i ls) earlier other = λ earlier other b. schedule_breaks_none fields (take i ls) (record { header = header; events = events }) earlier other (so_far_schedule fields (take i ls) header events h) b in
    refused_at fields ls i line rule here said before
    (subst (λ (xs : Words). IsLeast (Breaks fields xs line) rule) (sym h.said) (later_least fields h.others h.first line header rule h.is (subst (λ n. IsLeast (LaterBreaks fields header.slots n line) rule) long least)))
