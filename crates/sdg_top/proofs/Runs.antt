-- What a run needs: its numbers are in their ranges, its schedule's ports are the graph's, and step numbers are enough.
use Rattle.std.proofs.Common.{◌≡◌, ℕ, ◌-◌, ◌^◌, ◌<◌, ◌≤◌, List, [], ◌∷◌, ◌++◌, length, map, refl, ap, sym, subst, ◌∙◌, arith, append_assoc}
use Rattle.std.specs.List.{AllByRecursion, filter_map}
use Rattle.std.specs.Prelude.{min, slice_get}
use Rattle.std.proofs.lemmas.List.{length-map}
use Rattle.std.proofs.Math.Nat.{min-eq_left}
use Rattle.sdg_base.specs.declared.call.Call.{Call}
use Rattle.sdg_base.specs.declared.item.Line.{Line}
use Rattle.sdg_base.specs.declared.item.Line.TheVariants as line
use Rattle.sdg_base.specs.declared.item.Note.{Note}
use Rattle.sdg_base.specs.declared.item.Note.TheVariants as note
use Rattle.sdg_base.specs.declared.port.Port.{Port}
use Rattle.sdg_base.specs.declared.port.Port.TheVariants as port
use Rattle.placement.specs.declared.event.Header.{Header}
use Rattle.placement.specs.declared.event.Event.{Event}
use Rattle.placement.specs.declared.event.Schedule.{Schedule}
use Rattle.placement.specs.declared.event.Event.TheVariants as event
use Rattle.placement.specs.declared.event.Word.{Word}
use Rattle.early_forms.specs.declared.straight.StraightClass.{StraightClass}
use Rattle.early_forms.specs.Names.{IsProper}
use Rattle.early_forms.specs.Trees.{class_tree}
use Rattle.early_source.specs.Members.{fields}
use Rattle.early_cutter.specs.Lowering.{table_field}
use Rattle.early_cutter.specs.Cutting.{graph_of}
use Rattle.early_plain.specs.Fits.{CallFits}
use Rattle.early_cutter.specs.Runs.{EveryCallIsSafe, EveryRunAgrees, EveryRunRunsAgain, EveryRunKeepsItsSteps, SerialRunsArePlain, PlainRunsInTurn, OrderedRunsArePlain, setup_of}
use Rattle.run_text.specs.Schedules.{IsInRange, Fits}
use Rattle.cluster.specs.History.{Setup, Happening, Took, IsCell, call_of, shown, shown_entry, steps_of}
use Rattle.cluster.specs.World.{World, event_of, first_world, words_of, world_of, results_of, kept}
use Rattle.cluster.specs.Standing.{IsReady, IsCellOf, IsSenderOf, NamesPorts, past}
use Rattle.cluster.specs.declared.past.Past.{Past}
use Rattle.agreement.specs.Results.{IsForCell, AreEnoughSteps}
use Rattle.placement.specs.Ports.{IsCellAmong, IsSenderAmong}
use Rattle.sdg_top.specs.Accepted.{IsReport, RunsInOrder}
use Rattle.sdg_top.specs.Report.{report_text}
use Rattle.sdg_top.proofs.Members.{fields-class_tree}

as_many_fields : (class : StraightClass) → length (graph_of class).fields ≡ length class.fields
as_many_fields class = length-map class.fields table_field

-- a run can be made of the calls of a class
pub ready : (class : StraightClass) (calls : List Call) (header : Header) → EveryCallIsSafe → IsProper class → AllByRecursion (CallFits class) calls → length calls ≤ 65536 → IsInRange header
    → IsReady (setup_of class calls header)
ready class calls header safe proper fit few range = record {
  some_slots = let one = range.one_slot in omega (arith, one);
  most_slots = let one = range.one_slot in omega (arith, one);
  most_calls = few;
  most_fields = let two = proper.size.few_fields in let same = as_many_fields class in omega (arith, two, same);
  safe = safe class calls header.slots proper fit;
}

-- ---- the ports of events

cell_named : (class : StraightClass) (header : Header) (p : Port) → IsCellAmong (length class.fields) header.slots p → IsCellOf (graph_of class) header p
cell_named class header p is = subst (λ (n : ℕ). IsCellAmong n header.slots p) (sym (as_many_fields class)) is

sender_named : (class : StraightClass) (header : Header) (p : Port) → IsSenderAmong (length class.fields) header.slots p → IsSenderOf (graph_of class) header p
sender_named class header p is = subst (λ (n : ℕ). IsSenderAmong n header.slots p) (sym (as_many_fields class)) is

event_named : (class : StraightClass) (header : Header) (e : Event) → Fits (length class.fields) header.slots e → NamesPorts (graph_of class) header e
event_named class header (event.Take to from pick) fits = (cell_named class header to fits.0, sender_named class header from fits.1)
event_named class header (event.Sink from) fits = cell_named class header from fits

-- the events name ports of the graph
pub all_named : (class : StraightClass) (header : Header) (events : List Event) → AllByRecursion (Fits (length class.fields) header.slots) events → AllByRecursion (NamesPorts (graph_of class) header) events
all_named class header [] fits = tt
all_named class header (e ∷ events) fits = (event_named class header e fits.0, all_named class header events fits.1)

is_cell : (fields slots : ℕ) (p : Port) → IsCellAmong fields slots p → IsCell p
is_cell fields slots port.Caller is = absurd is
is_cell fields slots port.Sink is = absurd is
is_cell fields slots port.Front is = tt
is_cell fields slots port.Join is = tt
is_cell fields slots (port.Slot field at) is = tt
is_cell fields slots (port.Inst field at) is = absurd is

for_cell : (fields slots : ℕ) (e : Event) → Fits fields slots e → IsForCell e
for_cell fields slots (event.Take to from pick) fits = is_cell fields slots to fits.0
for_cell fields slots (event.Sink from) fits = tt

-- their receivers are cells
pub all_for_cells : (fields slots : ℕ) (events : List Event) → AllByRecursion (Fits fields slots) events → AllByRecursion IsForCell events
all_for_cells fields slots [] fits = tt
all_for_cells fields slots (e ∷ events) fits = (for_cell fields slots e fits.0, all_for_cells fields slots events fits.1)

-- ---- the words of events

-- one word more is that of the next event
pub word_more : (s : Setup) (now : World) (e : Event) (ws more : List Word) (word : Word) (rest : List Event) → more ≡ ws ++ word ∷ [] → word ≡ (event_of s now e).1
    → more ++ words_of s (event_of s now e).0 rest ≡ ws ++ words_of s now (e ∷ rest)
word_more s now e ws more word rest pushed is =
    ap (λ all. all ++ words_of s (event_of s now e).0 rest) (pushed ∙ ap (λ x. ws ++ x ∷ []) is) ∙ append_assoc ws ((event_of s now e).1 ∷ []) (words_of s (event_of s now e).0 rest)

-- ---- step numbers

-- A million events and 65,536 calls leave most step numbers unused.
pub enough_steps : (class : StraightClass) (calls : List Call) (header : Header) (events : List Event) → length calls ≤ 65536 → length events ≤ 1000000 → AreEnoughSteps (setup_of class calls header) events
enough_steps class calls header events few few_events = omega (arith, few, few_events)

-- ---- the history as it is printed

-- an entry of the history is printed as the step that it shows
shown_at : (p : Port) (call : ℕ) (place : Line) (what : Note) (pasts : List Past)
    → filter_map (λ q. q.shown) (record { line = place; note = what; shown = slice_get (shown_entry p call) 0 } ∷ pasts) ≡ shown_entry p call ++ filter_map (λ q. q.shown) pasts
shown_at port.Caller call place what pasts = refl
shown_at port.Sink call place what pasts = refl
shown_at port.Front call place what pasts = refl
shown_at port.Join call place what pasts = refl
shown_at (port.Slot field at) call place what pasts = refl
shown_at (port.Inst field at) call place what pasts = refl

pub printed_history : (hist : List Happening) → filter_map (λ q. q.shown) (map past hist) ≡ steps_of hist
printed_history [] = refl
printed_history (Took e ∷ hist) =
    shown_at e.cell (call_of e.item) (line.Cell e.cell) (note.Take (record { from = e.from; seq = e.number; pick = e.pick; growths = e.growths; step = e.step })) (map past hist)
    ∙ ap (λ rest. shown (Took e) ++ rest) (printed_history hist)

-- ---- reports

-- Without events calls run one after the other.
runs_in_order : (class : StraightClass) (calls : List Call) (header : Header) → EveryRunAgrees → PlainRunsInTurn → OrderedRunsArePlain → IsProper class → AllByRecursion (CallFits class) calls → length calls ≤ 65536 → 1 ≤ header.slots
    → RunsInOrder class calls header
runs_in_order class calls header agree in_turn ordered proper fit few some =
    let enough = enough_steps class calls header [] few (omega arith) in
    let turns = in_turn class calls header proper fit some enough in
    record {
      serial = turns.serial;
      plain = ordered (class_tree class) (setup_of class calls header) (agree class calls header [] proper fit some tt enough) turns;
    }

-- a number that 64 bits can say
in_64_bits : (n : ℕ) → n < 2 ^ 64 → min n (2 ^ 64 - 1) ≡ n
in_64_bits n l = min-eq_left (omega arith)

-- A text that is written of the world of the schedule is the report.
pub reported : (class : StraightClass) (calls : List Call) (events : Schedule) (text : List ℕ)
    → EveryRunAgrees → EveryRunRunsAgain → EveryRunKeepsItsSteps → SerialRunsArePlain → PlainRunsInTurn → OrderedRunsArePlain
    → IsProper class → AllByRecursion (CallFits class) calls → length calls ≤ 65536 → IsInRange events.header
    → AllByRecursion (Fits (length class.fields) events.header.slots) events.events → length events.events ≤ 1000000
    → (let s = setup_of class calls events.header in
    let w = world_of s events.events in
    text ≡ report_text events.header class.fields (words_of s first_world events.events) [] (results_of s w) (steps_of w.hist) [] (min (kept s w) (2 ^ 64 - 1)))
    → IsReport class calls events text
reported class calls events text agree runs_again keeps serial in_turn ordered proper fit few range named few_events is =
    let s = setup_of class calls events.header in
    let w = world_of s events.events in
    let some : 1 ≤ events.header.slots = let one = range.one_slot in omega (arith, one) in
    let for_cells = all_for_cells _ _ events.events named in
    let enough = enough_steps class calls events.header events.events few few_events in
    let agrees = agree class calls events.header events.events proper fit some for_cells enough in
    let all_kept = keeps class calls events.header events.events proper fit some for_cells enough in
    record {
      agrees = agrees;
      plain = serial (class_tree class) s w agrees;
      in_order = λ none. runs_in_order class calls events.header agree in_turn ordered proper fit few some;
      again = runs_again class calls events.header events.events proper fit some for_cells enough;
      written =
          is
          ∙ ap (λ names. report_text events.header names (words_of s first_world events.events) [] (results_of s w) (steps_of w.hist) [] (min (kept s w) (2 ^ 64 - 1))) (sym (fields-class_tree class))
          ∙ ap (report_text events.header (fields (class_tree class)) (words_of s first_world events.events) [] (results_of s w) (steps_of w.hist) []) (in_64_bits (kept s w) all_kept.1);
      kept = all_kept.0;
    }
