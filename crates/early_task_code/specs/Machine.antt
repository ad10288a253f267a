-- The meaning of a task: what an item gives at a port, by the instructions of the flat code one after the other.
use Rattle.std.specs.Prelude.{ℕ, ℤ, zero, suc, Bool, ◌==◌, nat_lt, if◌then◌else◌, List, [], ◌∷◌, ◌++◌, ◌-◌, length, drop, replicate, Option, Some, None, slice_get, slice_set}
use Rattle.sdg_base.specs.Limits.{turns_at_start}
use Rattle.sdg_base.specs.declared.val.Val.{Val}
use Rattle.sdg_base.specs.declared.val.Val.TheVariants as val
use Rattle.sdg_base.specs.declared.val.Num.{Num}
use Rattle.sdg_base.specs.declared.val.Num.TheVariants as num
use Rattle.sdg_base.specs.declared.val.Outcome.{Outcome}
use Rattle.sdg_base.specs.declared.val.Outcome.TheVariants as outcome
use Rattle.sdg_base.specs.declared.operator.BinOp.{BinOp}
use Rattle.sdg_base.specs.declared.operator.BinOp.TheVariants as bin
use Rattle.sdg_base.specs.declared.port.Port.{Port}
use Rattle.sdg_base.specs.declared.port.Port.TheVariants as port
use Rattle.sdg_base.specs.declared.item.Item.{Item}
use Rattle.sdg_base.specs.declared.item.Item.TheVariants as item
use Rattle.sdg_base.specs.Operators.{sum_of}
use Rattle.early_tables.specs.declared.method.Method.{Method}
use Rattle.early_tables.specs.States.{State, arity, call_on}
use Rattle.placement.specs.Slots.{slot}
use Rattle.early_task_code.specs.declared.graph.Graph.{Graph}
use Rattle.early_task_code.specs.declared.graph.GraphMethod.{GraphMethod}
use Rattle.early_task_code.specs.declared.graph.Task.{Task}
use Rattle.early_task_code.specs.declared.graph.TaskKind.TheVariants as task
use Rattle.early_task_code.specs.declared.graph.TaskKind.{TaskKind}
use Rattle.early_task_code.specs.declared.graph.Instr.{Instr}
use Rattle.early_task_code.specs.declared.graph.Instr.TheVariants as instr

-- what an item gave: items, each to a port, and the state after it
pub record Ran : Type 0 where
  pub outputs : List (Port × Item)
  pub state : State

-- None where an operand is missing or has another type, or the code ends without an end: no class's code does so
abbrev pub Runs : Type 0
Runs = Option Ran

-- what the instructions from some place on give, from a stack, variables, turns and a state
abbrev pub Rest : Type 0
Rest = List Val → List Val → ℕ → State → Runs

-- what a run stands on: the graph, the number of slots, the port, the call, and the key that the item carries
pub record Setting : Type 0 where
  pub graph : Graph
  pub slots : ℕ
  pub field : Option ℕ
  pub call : ℕ
  pub key : Option ℤ

-- ---- ends

abbrev pub ended : Setting → Outcome → State → Runs
ended s how state = Some (record { outputs = (port.Sink, item.Done s.call how) ∷ []; state = state })

-- the variables of these numbers
abbrev pub cons_some : Option Val → Option (List Val) → Option (List Val)
cons_some (Some v) (Some vs) = Some (v ∷ vs)
cons_some _ _ = None

abbrev pub carried : List ℕ → List Val → Option (List Val)
carried [] vars = Some []
carried (n ∷ ns) vars = cons_some (slice_get vars n) (carried ns vars)

abbrev pub sent : Setting → ℕ → ℕ → Option ℕ → ℤ → Option (List Val) → State → Runs
sent s t turns (Some field) key (Some vars) state =
    Some (record { outputs = (port.Slot field (slot key s.slots), item.Work s.call t (Some key) turns vars) ∷ []; state = state })
sent s t turns _ key _ state = None

-- A keyed task is sent to the slot of the key on the stack.
abbrev pub sent_by_kind : Setting → ℕ → TaskKind → Task → Rest
sent_by_kind s t task.Keyed to (val.Long key ∷ []) vars turns state = sent s t turns to.field key (carried to.vars vars) state
sent_by_kind s t kind to stack vars turns state = None

abbrev pub cut_to : Setting → ℕ → Option Task → Rest
cut_to s t None stack vars turns state = None
cut_to s t (Some to) stack vars turns state = sent_by_kind s t to.kind to stack vars turns state

-- ---- values

abbrev pub pushed : Rest → Option Val → Rest
pushed next None stack vars turns state = None
pushed next (Some v) stack vars turns state = next (v ∷ stack) vars turns state

-- an operator on two operands of one type
abbrev pub operated : BinOp → Num → Val → Val → Option Val
operated bin.Add num.Int (val.Int a) (val.Int b) = Some (sum_of (val.Int a) (val.Int b))
operated bin.Add num.Long (val.Long a) (val.Long b) = Some (sum_of (val.Long a) (val.Long b))
operated _ _ _ _ = None

-- an int widened to a long (JLS 5.1.2)
abbrev pub casted : Num → Val → Option Val
casted num.Long (val.Int n) = Some (val.Long n)
casted _ _ = None

-- the key of an item as a value
abbrev pub key_value : Option ℤ → Option Val
key_value None = None
key_value (Some key) = Some (val.Long key)

-- ---- state accesses

-- so many arguments off the stack, in the order in which they were pushed, and what is left
abbrev pub with_last : Val → Option (List Val × List Val) → Option (List Val × List Val)
with_last v None = None
with_last v (Some taken) = Some (taken.0 ++ v ∷ [], taken.1)

abbrev pub arguments : ℕ → List Val → Option (List Val × List Val)
arguments zero stack = Some ([], stack)
arguments (suc n) [] = None
arguments (suc n) (v ∷ stack) = with_last v (arguments n stack)

-- a void method pushes nothing
abbrev pub pushed_result : Val → List Val → List Val
pushed_result val.Unit stack = stack
pushed_result v stack = v ∷ stack

abbrev pub after_outcome : Setting → Rest → Outcome → Rest
after_outcome s next (outcome.Value v) stack vars turns state = next (pushed_result v stack) vars turns state
after_outcome s next how stack vars turns state = ended s how state

abbrev pub after_access : Setting → Rest → List Val → List Val → ℕ → Option (Outcome × State) → Runs
after_access s next stack vars turns None = None
after_access s next stack vars turns (Some answer) = after_outcome s next answer.0 stack vars turns answer.1

abbrev pub accessed : Setting → Rest → Method → Option (List Val × List Val) → List Val → ℕ → State → Runs
accessed s next m None vars turns state = None
accessed s next m (Some taken) vars turns state = after_access s next taken.1 vars turns (call_on m taken.0 state)

abbrev pub is_own_field : Option ℕ → ℕ → Bool
is_own_field None field = nat_lt 1 0
is_own_field (Some own) field = own == field

-- ---- instructions

abbrev pub perform : Setting → Instr → Rest → Rest
perform s (instr.Int n) next stack vars turns state = next (val.Int n ∷ stack) vars turns state
perform s (instr.Load v) next stack vars turns state = pushed next (slice_get vars v) stack vars turns state
perform s (instr.Store v) next (x ∷ stack) vars turns state = if nat_lt v (length vars) then next stack (slice_set vars v x) turns state else None
perform s (instr.Store v) next [] vars turns state = None
perform s instr.Pop next (x ∷ stack) vars turns state = next stack vars turns state
perform s instr.Pop next [] vars turns state = None
perform s (instr.Bin op type) next (b ∷ a ∷ stack) vars turns state = pushed next (operated op type a b) stack vars turns state
perform s (instr.Bin op type) next _ vars turns state = None
perform s (instr.Cast type) next (a ∷ stack) vars turns state = pushed next (casted type a) stack vars turns state
perform s (instr.Cast type) next [] vars turns state = None
perform s instr.Turn next stack vars zero state = ended s outcome.Limit state
perform s instr.Turn next stack vars (suc turns) state = next stack vars turns state
perform s instr.Key next stack vars turns state = pushed next (key_value s.key) stack vars turns state
perform s (instr.Access field m) next stack vars turns state =
    if is_own_field s.field field then accessed s next m (arguments (arity m) stack) vars turns state else None
perform s (instr.Cut t) next stack vars turns state = cut_to s t (slice_get s.graph.tasks t) stack vars turns state
perform s instr.Return next (v ∷ []) vars turns state = ended s (outcome.Value v) state
perform s instr.Return next _ vars turns state = None
perform s instr.ReturnVoid next [] vars turns state = ended s (outcome.Value val.Unit) state
perform s instr.ReturnVoid next (x ∷ stack) vars turns state = None

-- Straight code: each instruction leads to the one behind it, or ends the task.
abbrev pub run : Setting → List Instr → Rest
run s [] stack vars turns state = None
run s (i ∷ is) stack vars turns state = perform s i (run s is) stack vars turns state

-- ---- tasks

-- a method's variables as a call begins: the arguments, and nothing yet in each other
abbrev pub first_vars : GraphMethod → List Val → List Val
first_vars m args = args ++ replicate (length m.vars - length args) val.Unit

-- variables by number set to values, as many as there are of both
abbrev pub set_all : List ℕ → List Val → List Val → List Val
set_all [] values vars = vars
set_all (n ∷ ns) [] vars = vars
set_all (n ∷ ns) (v ∷ values) vars = set_all ns values (slice_set vars n v)

-- a method's variables as a task begins: those that the item carries, and nothing in each other
abbrev pub carried_vars : GraphMethod → Task → List Val → List Val
carried_vars m to values = set_all to.vars values (replicate (length m.vars) val.Unit)

abbrev pub start_method : Setting → List Val → State → Option GraphMethod → Runs
start_method s args state None = None
start_method s args state (Some m) = run s m.code [] (first_vars m args) turns_at_start state

abbrev pub run_in_method : Setting → Task → ℕ → List Val → State → Option GraphMethod → Runs
run_in_method s to turns vars state None = None
run_in_method s to turns vars state (Some m) = run s (drop to.at m.code) [] (carried_vars m to vars) turns state

abbrev pub run_task : Setting → ℕ → List Val → State → Option Task → Runs
run_task s turns vars state None = None
run_task s turns vars state (Some to) = run_in_method s to turns vars state (slice_get s.graph.methods to.method)

-- What an item gives at a port on a state, with so many slots of each partitioned field. A start is for the cell that begins calls, and work
-- for a slot.
abbrev pub runs : Graph → ℕ → Port → Item → State → Runs
runs graph slots port.Front (item.Start call method args) state =
    start_method (record { graph = graph; slots = slots; field = None; call = call; key = None }) args state (slice_get graph.methods method)
runs graph slots (port.Slot field at) (item.Work call t key turns vars) state =
    run_task (record { graph = graph; slots = slots; field = Some field; call = call; key = key }) turns vars state (slice_get graph.tasks t)
runs graph slots to x state = None
