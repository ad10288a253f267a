-- What a task carries is enough: its item ends as the run does from a whole frame whose values it carries.
use Rattle.std.specs.Prelude.{◌≡◌, ◌≢◌, ℕ, ℤ, List, [], length, Option, Some, None}
use Rattle.sdg_base.specs.declared.val.Val.{Val}
use Rattle.sdg_base.specs.declared.port.Port.TheVariants as port
use Rattle.sdg_base.specs.declared.item.Item.{Item}
use Rattle.sdg_base.specs.declared.item.Item.TheVariants as item
use Rattle.state_classes.specs.States.{State}
use Rattle.flat_code.specs.declared.graph.Flat.{Flat}
use Rattle.flat_code.specs.declared.graph.Graph.{Graph}
use Rattle.flat_code.specs.declared.graph.GraphMethod.{GraphMethod}
use Rattle.flat_code.specs.declared.graph.Task.{Task}
use Rattle.flat_code.specs.declared.graph.TaskKind.TheVariants as kind
use Rattle.flat_code.specs.Items.{Gives, Visited, Sender, AllValues, carried, after_run, setting, run_from, joined_with, sender, visit, runs}
use Rattle.flat_code.specs.Machine.{Frame, run}
use Rattle.flat_code.specs.Verified.{IsMethod, IsTask, IsVerified}
use Rattle.live_vars.specs.Sets.{AreLive, AreLiveSets}
use Rattle.task_cutter.specs.Tasks.{graph_of}

-- ---- what tasks carry

-- a task of a graph that is no start, and its method
pub record IsLaterTask (graph : Graph) (n : ℕ) (t : Task) (m : GraphMethod) : Type 0 where
  pub is_task : IsTask graph n t
  pub no_start : t.kind ≢ kind.Start
  pub is_method : IsMethod graph t.method m

-- each carries the variables that are live at its first instruction, and no others
abbrev pub CarriesLive : Graph → Type 0
CarriesLive graph = (n : ℕ) (t : Task) (m : GraphMethod) → IsLaterTask graph n t m → AreLive m.code t.at t.vars

abbrev pub CutGraphsCarryLive : Type 0
CutGraphsCarryLive = (flat : Flat) (live : List (List (List ℕ))) → AreLiveSets flat.methods live → CarriesLive (graph_of flat live)

-- ---- what their items do

-- The values that a task's item carries are those of its variables in a frame of the method.
pub record AreCarriedFrom (m : GraphMethod) (t : Task) (variables values : List Val) : Type 0 where
  pub whole : length variables ≡ length m.vars
  pub are_its : carried t.vars variables ≡ Some values

abbrev pub FramesHaveWhatIsCarried : Type 0
FramesHaveWhatIsCarried =
    (graph : Graph) (n : ℕ) (t : Task) (m : GraphMethod) → IsVerified graph → IsTask graph n t → IsMethod graph t.method m
    → (variables : List Val) → length variables ≡ length m.vars → (values : List Val) × AreCarriedFrom m t variables values

-- a visit is one by this task
abbrev pub VisitsBy : ℕ → Task → Sender → Type 0
VisitsBy n t s = (visit : Visited) → s.visited ≡ Some visit → (visit.task ≡ n) × (t.kind ≡ kind.Visit)

abbrev pub frame_of : Task → List Val → ℕ → Frame
frame_of t variables turns = record { at = t.at; stack = []; variables = variables; turns = turns }

-- what the run gives from a whole frame at the task's first instruction
abbrev pub whole_run : Sender → Task → GraphMethod → Option ℤ → List Val → List Val → ℕ → State → Gives
whole_run s t m key gathered variables turns state = after_run s (run (setting s.graph t.field key gathered) m.code (frame_of t variables turns) state)

abbrev pub CarriedIsEnough : Type 0
CarriedIsEnough =
    (s : Sender) (n : ℕ) (t : Task) (m : GraphMethod) → IsVerified s.graph → CarriesLive s.graph → IsLaterTask s.graph n t m → VisitsBy n t s
    → (variables values : List Val) → AreCarriedFrom m t variables values → (key : Option ℤ) (gathered : List Val) (turns : ℕ) (state : State)
    → run_from s (Some t) key gathered turns values state ≡ whole_run s t m key gathered variables turns state

-- what each kind of item of a task gives: work on a slot or on an instance, a visit of an instance, and a join once all its parts have values
pub record DoAsWholeFrames (graph : Graph) (n : ℕ) (t : Task) (m : GraphMethod) (variables values : List Val) : Type 0 where
  pub slots : (f k pick call turns : ℕ) (widths : List ℕ) (key : Option ℤ) (parts : List Item) (state : State)
      → runs graph (port.Slot f k) (item.Work call n key turns values) parts state pick widths ≡ whole_run (sender graph widths pick call None) t m key [] variables turns state
  pub instances : (f k pick call turns : ℕ) (widths : List ℕ) (key : Option ℤ) (parts : List Item) (state : State)
      → runs graph (port.Inst f k) (item.Work call n key turns values) parts state pick widths ≡ whole_run (sender graph widths pick call None) t m key [] variables turns state
  pub visits : (f k pick call width turns : ℕ) (widths : List ℕ) (parts : List Item) (state : State) → t.kind ≡ kind.Visit
      → runs graph (port.Inst f k) (item.Visit call n width turns values) parts state pick widths ≡ whole_run (sender graph widths pick call (visit width k n)) t m None [] variables turns state
  pub joins : (pick call turns : ℕ) (widths : List ℕ) (gathered : List Val) (state : State)
      → joined_with (sender graph widths pick call None) n turns values (AllValues gathered) state ≡ whole_run (sender graph widths pick call None) t m None gathered variables turns state

abbrev pub ItemsDoAsWholeFrames : Type 0
ItemsDoAsWholeFrames =
    (graph : Graph) (n : ℕ) (t : Task) (m : GraphMethod) → IsVerified graph → CarriesLive graph → IsLaterTask graph n t m
    → (variables values : List Val) → AreCarriedFrom m t variables values → DoAsWholeFrames graph n t m variables values
