-- The meaning of a task: what an item gives at a port, and the state after it.
use Rattle.std.specs.Prelude.{ℕ, ℤ, zero, nat_lt, ◌%◌, if◌then◌else◌, List, [], ◌∷◌, length, drop, replicate, Option, Some, None, slice_get, slice_set, unwrap_or}
use Rattle.sdg_base.specs.Limits.{turns_at_start}
use Rattle.sdg_base.specs.declared.val.Val.{Val}
use Rattle.sdg_base.specs.declared.val.Val.TheVariants as val
use Rattle.sdg_base.specs.declared.val.Outcome.{Outcome}
use Rattle.sdg_base.specs.declared.val.Outcome.TheVariants as outcome
use Rattle.sdg_base.specs.declared.port.Port.{Port}
use Rattle.sdg_base.specs.declared.port.Port.TheVariants as port
use Rattle.sdg_base.specs.declared.item.Item.{Item}
use Rattle.sdg_base.specs.declared.item.Item.TheVariants as item
use Rattle.state_classes.specs.States.{State}
use Rattle.placement.specs.Slots.{slot}
use Rattle.flat_code.specs.declared.graph.Graph.{Graph}
use Rattle.flat_code.specs.declared.graph.GraphMethod.{GraphMethod}
use Rattle.flat_code.specs.declared.graph.Task.{Task}
use Rattle.flat_code.specs.declared.graph.TaskKind.{TaskKind}
use Rattle.flat_code.specs.declared.graph.TaskKind.TheVariants as kind
use Rattle.flat_code.specs.declared.graph.Instr.{Instr}
use Rattle.flat_code.specs.declared.graph.Instr.TheVariants as instr
use Rattle.flat_code.specs.Types.{number_of}
use Rattle.flat_code.specs.Machine.{Setting, Ran, Ending, Returned, Stopped, CutTo, PartFor, Frame, calls_of, first_variables, run}

-- what an item gave: an item sent to a port, one broadcast to as many instances as a field has, a part of a visit, the
-- result of a call, or nothing until more parts come
pub data Output : Type 0 where
  Send : Port → Item → Output
  Broadcast : ℕ → ℕ → Item → Output
  Part : Item → Output
  Result : Item → Output
  Wait : Output

pub record Processed : Type 0 where
  pub output : Output
  pub state : State

-- None where the code goes wrong, or where the port takes no such item: neither happens on a verified graph to an item that fits
abbrev pub Gives : Type 0
Gives = Option Processed

-- the visit that an item is part of: how many instances were visited, which one this is, and the number of the visit's task
pub record Visited : Type 0 where
  pub width : ℕ
  pub instance : ℕ
  pub task : ℕ

-- who sends what a task gives: the graph, how many slots or instances each field has, the pick of an instance, the call, and
-- the visit where there is one
pub record Sender : Type 0 where
  pub graph : Graph
  pub widths : List ℕ
  pub pick : ℕ
  pub call : ℕ
  pub visited : Option Visited

-- ---- variables that items carry

abbrev pub with_first : Option Val → Option (List Val) → Option (List Val)
with_first (Some v) (Some vs) = Some (v ∷ vs)
with_first _ _ = None

-- the values of the variables of these numbers
abbrev pub carried : List ℕ → List Val → Option (List Val)
carried [] variables = Some []
carried (n ∷ ns) variables = with_first (slice_get variables n) (carried ns variables)

-- the variables with these numbers set to these values
abbrev pub set_all : List ℕ → List Val → List Val → List Val
set_all (n ∷ ns) (v ∷ vs) variables = set_all ns vs (slice_set variables n v)
set_all _ _ variables = variables

-- all variables of a method as a task finds them: those that its item carries, and nothing yet in the others
abbrev pub carried_variables : GraphMethod → Task → List Val → List Val
carried_variables m to values = set_all to.vars values (replicate (length m.vars) val.Unit)

-- ---- what is sent

abbrev pub done : Sender → Outcome → State → Gives
done s how state = Some (record { output = Result (item.Done s.call how); state = state })

abbrev pub field_number : Graph → Option (List ℕ) → Option ℕ
field_number graph None = None
field_number graph (Some name) = number_of name graph.fields

-- how many slots or instances a field has
abbrev pub width_of : List ℕ → ℕ → ℕ
width_of widths f = unwrap_or (slice_get widths f) 1

-- A keyed task is sent to the slot of the key on the stack, a local one to the instance that was picked, and a visit to all.
abbrev pub sent_for : Sender → ℕ → TaskKind → Option ℕ → List Val → ℕ → Option (List Val) → State → Gives
sent_for s t kind.Keyed (Some f) (val.Long key ∷ []) turns (Some vs) state =
    Some (record { output = Send (port.Slot f (slot key (width_of s.widths f))) (item.Work s.call t (Some key) turns vs); state = state })
sent_for s t kind.Local (Some f) [] turns (Some vs) state =
    Some (record { output = Send (port.Inst f (s.pick % width_of s.widths f)) (item.Work s.call t None turns vs); state = state })
sent_for s t kind.Visit (Some f) [] turns (Some vs) state =
    Some (record { output = Broadcast f (width_of s.widths f) (item.Visit s.call t (width_of s.widths f) turns vs); state = state })
sent_for s t _ _ _ turns _ state = None

abbrev pub sent : Sender → ℕ → Option Task → Frame → State → Gives
sent s t None f state = None
sent s t (Some to) f state = sent_for s t to.kind (field_number s.graph to.field) f.stack f.turns (carried to.vars f.variables) state

-- ---- the parts of a visit

abbrev pub part_of : Sender → Visited → ℕ → ℕ → Option (List Val) → Outcome → State → Gives
part_of s visited join turns None how state = None
part_of s visited join turns (Some vs) how state =
    Some (record { output = Part (item.Part s.call join visited.width visited.instance turns vs how); state = state })

-- the first part in code, and the join task that it is for
abbrev pub first_part : List Instr → Option ℕ
first_part [] = None
first_part (instr.Part join ∷ code) = Some join
first_part (i ∷ code) = first_part code

-- A part carries the variables of its join task.
abbrev pub parted : Sender → Option Visited → ℕ → Option Task → Frame → Outcome → State → Gives
parted s (Some visited) join (Some to) f how state = part_of s visited join f.turns (carried to.vars f.variables) how state
parted s _ join _ f how state = None

-- the part that the visit of a task brings
abbrev pub join_of : Graph → Option GraphMethod → Option Task → Option ℕ
join_of graph (Some m) (Some t) = first_part (drop t.at m.code)
join_of graph _ _ = None

abbrev pub method_of : Graph → Option Task → Option GraphMethod
method_of graph None = None
method_of graph (Some t) = slice_get graph.methods t.method

-- the number of the join task of a visit's task
abbrev pub join_number : Graph → ℕ → Option ℕ
join_number graph t = join_of graph (method_of graph (slice_get graph.tasks t)) (slice_get graph.tasks t)

abbrev pub part_for_join : Sender → Option Visited → Option ℕ → Frame → Outcome → State → Gives
part_for_join s visited None f how state = None
part_for_join s visited (Some join) f how state = parted s visited join (slice_get s.graph.tasks join) f how state

-- A visit whose call ends brings that end as its part; else the call is done.
abbrev pub stopped : Sender → Option Visited → Frame → Outcome → State → Gives
stopped s None f how state = done s how state
stopped s (Some visited) f how state = part_for_join s (Some visited) (join_number s.graph visited.task) f how state

abbrev pub ended : Sender → Ending → Frame → State → Gives
ended s (Returned v) f state = done s (outcome.Value v) state
ended s (Stopped how) f state = stopped s s.visited f how state
ended s (CutTo t) f state = sent s t (slice_get s.graph.tasks t) f state
ended s (PartFor join v) f state = parted s s.visited join (slice_get s.graph.tasks join) f (outcome.Value v) state

abbrev pub after_run : Sender → Option Ran → Gives
after_run s None = None
after_run s (Some ran) = ended s ran.ending ran.frame ran.state

-- ---- how items begin

abbrev pub setting : Graph → Option (List ℕ) → Option ℤ → List Val → Setting
setting graph field key gathered =
    record { fields = graph.fields; methods = graph.methods; calls = calls_of graph.fields graph.methods; field = field; key = key; gathered = gathered }

-- the start of an entry method
abbrev pub started : Sender → Option GraphMethod → List Val → ℕ → State → Gives
started s None args turns state = None
started s (Some m) args turns state =
    after_run s (run (setting s.graph None None []) m.code
    (record { at = zero; stack = []; variables = first_variables m args; turns = turns }) state)

abbrev pub run_in : Sender → Option GraphMethod → Task → Option ℤ → List Val → ℕ → List Val → State → Gives
run_in s None t key gathered turns values state = None
run_in s (Some m) t key gathered turns values state =
    after_run s (run (setting s.graph t.field key gathered) m.code
    (record { at = t.at; stack = []; variables = carried_variables m t values; turns = turns }) state)

abbrev pub run_from : Sender → Option Task → Option ℤ → List Val → ℕ → List Val → State → Gives
run_from s None key gathered turns values state = None
run_from s (Some t) key gathered turns values state = run_in s (slice_get s.graph.methods t.method) t key gathered turns values state

-- ---- joins

-- a part among the others by rising instance
abbrev pub instance_of : Item → ℕ
instance_of (item.Part call t width instance turns vs how) = instance
instance_of _ = 0

abbrev pub with_part : Item → List Item → List Item
with_part p [] = p ∷ []
with_part p (other ∷ others) = if nat_lt (instance_of p) (instance_of other) then p ∷ other ∷ others else other ∷ with_part p others

-- what all parts brought: their values, or the outcome of the first that brought no value
pub data Gathered : Type 0 where
  AllValues : List Val → Gathered
  FirstOther : Outcome → Gathered

abbrev pub with_value : Val → Gathered → Gathered
with_value v (AllValues vs) = AllValues (v ∷ vs)
with_value v (FirstOther how) = FirstOther how

abbrev pub gathered_in : Outcome → Gathered → Gathered
gathered_in (outcome.Value v) others = with_value v others
gathered_in how others = FirstOther how

abbrev pub outcome_of : Item → Outcome
outcome_of (item.Part call t width instance turns vs how) = how
outcome_of _ = outcome.Limit

abbrev pub gathered_of : List Item → Gathered
gathered_of [] = AllValues []
gathered_of (p ∷ ps) = gathered_in (outcome_of p) (gathered_of ps)

abbrev pub joined_with : Sender → ℕ → ℕ → List Val → Gathered → State → Gives
joined_with s t turns vs (AllValues values) state = run_from s (slice_get s.graph.tasks t) None values turns vs state
joined_with s t turns vs (FirstOther how) state = done s how state

-- A join starts with the turns and variables of the part with the lowest instance.
abbrev pub joined_from : Sender → List Item → State → Gives
joined_from s (item.Part call t width instance turns vs how ∷ ps) state =
    joined_with s t turns vs (gathered_of (item.Part call t width instance turns vs how ∷ ps)) state
joined_from s _ state = None

-- It starts once each instance that was visited has brought its part.
abbrev pub joined : Sender → ℕ → List Item → State → Gives
joined s width parts state =
    if nat_lt (length parts) width then Some (record { output = Wait; state = state }) else joined_from s parts state

-- ---- what an item gives

abbrev pub sender : Graph → List ℕ → ℕ → ℕ → Option Visited → Sender
sender graph widths pick call visited = record { graph = graph; widths = widths; pick = pick; call = call; visited = visited }

abbrev pub visit : ℕ → ℕ → ℕ → Option Visited
visit width instance t = Some (record { width = width; instance = instance; task = t })

-- `parts` are those gathered so far of the call of a part
unfoldable pub runs : Graph → Port → Item → List Item → State → ℕ → List ℕ → Gives
runs graph port.Front (item.Start call m args) parts state pick widths =
    started (sender graph widths pick call None) (slice_get graph.methods m) args turns_at_start state
runs graph (port.Slot f n) (item.Work call t key turns vs) parts state pick widths =
    run_from (sender graph widths pick call None) (slice_get graph.tasks t) key [] turns vs state
runs graph (port.Inst f n) (item.Work call t key turns vs) parts state pick widths =
    run_from (sender graph widths pick call None) (slice_get graph.tasks t) key [] turns vs state
runs graph (port.Inst f n) (item.Visit call t width turns vs) parts state pick widths =
    run_from (sender graph widths pick call (visit width n t)) (slice_get graph.tasks t) None [] turns vs state
runs graph port.Join (item.Part call t width instance turns vs how) parts state pick widths =
    joined (sender graph widths pick call None) width (with_part (item.Part call t width instance turns vs how) parts) state
runs graph _ _ parts state pick widths = None
