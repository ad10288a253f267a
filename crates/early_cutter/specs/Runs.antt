-- Runs of a class of the straight form, and what holds of every one of them.
use Rattle.std.specs.Prelude.{◌≡◌, ℕ, ◌^◌, ◌<◌, ◌≤◌, List, [], map, length}
use Rattle.std.specs.List.{AllByRecursion}
use Rattle.sdg_base.specs.declared.call.Call.{Call}
use Rattle.sdg_base.specs.declared.port.Port.TheVariants as port
use Rattle.sdg_base.specs.declared.val.Outcome.{Outcome}
use Rattle.java_tree.specs.declared.tree.Class.{Class}
use Rattle.early_forms.specs.declared.straight.StraightClass.{StraightClass}
use Rattle.early_forms.specs.Names.{IsProper}
use Rattle.early_forms.specs.Trees.{class_tree}
use Rattle.early_source.specs.Serial.{IsSerial}
use Rattle.early_source.specs.Source.{numbered}
use Rattle.early_plain.specs.Plain.{ArePlain}
use Rattle.placement.specs.declared.event.Header.{Header}
use Rattle.placement.specs.declared.event.Event.{Event}
use Rattle.early_task_code.specs.Safe.{IsSafe}
use Rattle.cluster.specs.History.{Setup, starts, steps_of}
use Rattle.cluster.specs.World.{World, world_of, results_of, kept, numbers_from}
use Rattle.agreement.specs.Results.{Results, HasResult, RunAgrees, IsForCell, AreEnoughSteps}
use Rattle.agreement.specs.Again.{RunsAgain}
use Rattle.agreement.specs.Kept.{KeepsItsSteps}
use Rattle.early_cutter.specs.Cutting.{graph_of}
use Rattle.early_plain.specs.Fits.{CallFits}

-- the graph of the class, its calls, and what the run stands on
abbrev pub setup_of : StraightClass → List Call → Header → Setup
setup_of class calls header = record { graph = graph_of class; calls = calls; header = header }

-- Under every schedule the history is legal for the annotated source, the results are its outcomes, and each call has one.
abbrev pub EveryRunAgrees : Type 0
EveryRunAgrees =
    (class : StraightClass) (calls : List Call) (header : Header) (events : List Event)
    → IsProper class
    → AllByRecursion (CallFits class) calls
    → 1 ≤ header.slots
    → AllByRecursion IsForCell events
    → AreEnoughSteps (setup_of class calls header) events
    → RunAgrees (class_tree class) (setup_of class calls header) (world_of (setup_of class calls header) events)

-- Under every schedule the history fixes the run: the events that take what it took lead to its history and its results.
abbrev pub EveryRunRunsAgain : Type 0
EveryRunRunsAgain =
    (class : StraightClass) (calls : List Call) (header : Header) (events : List Event)
    → IsProper class
    → AllByRecursion (CallFits class) calls
    → 1 ≤ header.slots
    → AllByRecursion IsForCell events
    → AreEnoughSteps (setup_of class calls header) events
    → RunsAgain (setup_of class calls header) (world_of (setup_of class calls header) events)

-- Under every schedule an item is kept for each step of the history, and they are fewer than 2 ^ 64.
abbrev pub EveryRunKeepsItsSteps : Type 0
EveryRunKeepsItsSteps =
    (class : StraightClass) (calls : List Call) (header : Header) (events : List Event)
    → IsProper class
    → AllByRecursion (CallFits class) calls
    → 1 ≤ header.slots
    → AllByRecursion IsForCell events
    → AreEnoughSteps (setup_of class calls header) events
    → KeepsItsSteps (setup_of class calls header) (world_of (setup_of class calls header) events)
    × (kept (setup_of class calls header) (world_of (setup_of class calls header) events) < 2 ^ 64)

-- Without events calls run one after the other, and the results are in their order.
pub record RunsInTurn (s : Setup) : Type 0 where
  pub serial : IsSerial (steps_of (world_of s []).hist)
  pub in_order : map (λ r. r.0) (results_of s (world_of s [])) ≡ numbers_from 1 (length s.calls)

abbrev pub PlainRunsInTurn : Type 0
PlainRunsInTurn =
    (class : StraightClass) (calls : List Call) (header : Header)
    → IsProper class
    → AllByRecursion (CallFits class) calls
    → 1 ≤ header.slots
    → AreEnoughSteps (setup_of class calls header) []
    → RunsInTurn (setup_of class calls header)

-- No call goes wrong.
abbrev pub EveryCallIsSafe : Type 0
EveryCallIsSafe =
    (class : StraightClass) (calls : List Call) (slots : ℕ)
    → IsProper class
    → AllByRecursion (CallFits class) calls
    → AllByRecursion (IsSafe (graph_of class) slots port.Front) (starts calls)

-- The calls have these outcomes in plain Java, and the results say so.
pub record ArePlainResults (class : Class) (calls : List Call) (results : Results) : Type 0 where
  pub outcomes : List Outcome
  pub one_each : length outcomes ≡ length calls
  pub plain : ArePlain class calls outcomes
  pub same : (c : ℕ) (how : Outcome) → HasResult c how (numbered 1 outcomes) → HasResult c how results

-- Where calls don't interleave, the results are those of plain Java.
abbrev pub SerialRunsArePlain : Type 0
SerialRunsArePlain =
    (class : Class) (s : Setup) (w : World) → RunAgrees class s w → IsSerial (steps_of w.hist) → ArePlainResults class s.calls (results_of s w)

-- The results are those of plain Java, in the order of the calls.
pub record ArePlainInOrder (class : Class) (calls : List Call) (results : Results) : Type 0 where
  pub outcomes : List Outcome
  pub plain : ArePlain class calls outcomes
  pub in_order : results ≡ numbered 1 outcomes

abbrev pub OrderedRunsArePlain : Type 0
OrderedRunsArePlain =
    (class : Class) (s : Setup) → RunAgrees class s (world_of s []) → RunsInTurn s → ArePlainInOrder class s.calls (results_of s (world_of s []))
