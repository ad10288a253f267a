-- What a task gives: nothing, or one item for a slot or for the sink; the sink is given results alone.
use Rattle.std.proofs.Common.{ℕ, zero, suc, ℤ, Bool, true, false, if◌then◌else◌, List, [], ◌∷◌, length, drop, Option, Some, None, slice_get, nat_lt}
use Rattle.sdg_base.specs.Limits.{turns_at_start}
use Rattle.sdg_base.specs.declared.val.Val.{Val}
use Rattle.sdg_base.specs.declared.val.Val.TheVariants as val
use Rattle.sdg_base.specs.declared.val.Outcome.{Outcome}
use Rattle.sdg_base.specs.declared.val.Outcome.TheVariants as outcome
use Rattle.sdg_base.specs.declared.port.Port.{Port}
use Rattle.sdg_base.specs.declared.port.Port.TheVariants as port
use Rattle.sdg_base.specs.declared.item.Item.{Item}
use Rattle.sdg_base.specs.declared.item.Item.TheVariants as item
use Rattle.early_tables.specs.States.{State, arity, call_on}
use Rattle.early_tables.specs.declared.method.Method.{Method}
use Rattle.early_task_code.specs.declared.graph.Graph.{Graph}
use Rattle.early_task_code.specs.declared.graph.GraphMethod.{GraphMethod}
use Rattle.early_task_code.specs.declared.graph.Task.{Task}
use Rattle.early_task_code.specs.declared.graph.TaskKind.TheVariants as task
use Rattle.early_task_code.specs.declared.graph.TaskKind.{TaskKind}
use Rattle.early_task_code.specs.declared.graph.Instr.{Instr}
use Rattle.early_task_code.specs.declared.graph.Instr.TheVariants as instr
use Rattle.early_task_code.specs.Machine.{Runs, Rest, Setting, carried, sent, sent_by_kind, cut_to, pushed, operated, casted, key_value, arguments, pushed_result, after_outcome, after_access, accessed, is_own_field, perform, run, start_method, run_in_method, run_task, runs, first_vars, carried_vars}

-- a result, where it is for the sink
abbrev pub IsGiven : Port → Item → Type 0
IsGiven port.Sink (item.Done call outcome) = Unit {0}
IsGiven port.Sink x = ⊥
IsGiven (port.Slot field at) x = Unit {0}
IsGiven to x = ⊥

abbrev pub AreFew : List (Port × Item) → Type 0
AreFew [] = Unit {0}
AreFew (o ∷ []) = IsGiven o.0 o.1
AreFew (o ∷ p ∷ os) = ⊥

abbrev pub GivesFew : Runs → Type 0
GivesFew None = Unit {0}
GivesFew (Some r) = AreFew r.outputs

abbrev RestGives : Rest → Type 0
RestGives next = (stack vars : List Val) (turns : ℕ) (state : State) → GivesFew (next stack vars turns state)

if_gives : (b : Bool) (x y : Runs) → GivesFew x → GivesFew y → GivesFew (if b then x else y)
if_gives true x y first second = first
if_gives false x y first second = second

sent_gives : (s : Setting) (t turns : ℕ) (field : Option ℕ) (key : ℤ) (vars : Option (List Val)) (state : State) → GivesFew (sent s t turns field key vars state)
sent_gives s t turns None key vars state = tt
sent_gives s t turns (Some field) key None state = tt
sent_gives s t turns (Some field) key (Some vars) state = tt

keyed_gives : (s : Setting) (t : ℕ) (to : Task) (v : Val) (stack vars : List Val) (turns : ℕ) (state : State) → GivesFew (sent_by_kind s t task.Keyed to (v ∷ stack) vars turns state)
keyed_gives s t to (val.Long key) [] vars turns state = sent_gives s t turns to.field key (carried to.vars vars) state
keyed_gives s t to (val.Long key) (w ∷ stack) vars turns state = tt
keyed_gives s t to (val.Int n) stack vars turns state = tt
keyed_gives s t to (val.Bool b) stack vars turns state = tt
keyed_gives s t to (val.Vector xs) stack vars turns state = tt
keyed_gives s t to val.Unit stack vars turns state = tt

by_kind_gives : (s : Setting) (t : ℕ) (kind : TaskKind) (to : Task) → RestGives (sent_by_kind s t kind to)
by_kind_gives s t task.Keyed to [] vars turns state = tt
by_kind_gives s t task.Keyed to (v ∷ stack) vars turns state = keyed_gives s t to v stack vars turns state
by_kind_gives s t task.Start to stack vars turns state = tt
by_kind_gives s t task.Local to stack vars turns state = tt
by_kind_gives s t task.Visit to stack vars turns state = tt
by_kind_gives s t task.Join to stack vars turns state = tt

cut_gives : (s : Setting) (t : ℕ) (to : Option Task) → RestGives (cut_to s t to)
cut_gives s t None stack vars turns state = tt
cut_gives s t (Some to) stack vars turns state = by_kind_gives s t to.kind to stack vars turns state

pushed_gives : (next : Rest) → RestGives next → (v : Option Val) → RestGives (λ stack vars turns state. pushed next v stack vars turns state)
pushed_gives next h None stack vars turns state = tt
pushed_gives next h (Some v) stack vars turns state = h (v ∷ stack) vars turns state

outcome_gives : (s : Setting) (next : Rest) → RestGives next → (how : Outcome) → RestGives (after_outcome s next how)
outcome_gives s next h (outcome.Value v) stack vars turns state = h (pushed_result v stack) vars turns state
outcome_gives s next h (outcome.Throws e) stack vars turns state = tt
outcome_gives s next h outcome.Limit stack vars turns state = tt

access_gives : (s : Setting) (next : Rest) → RestGives next → (stack vars : List Val) (turns : ℕ) (answer : Option (Outcome × State)) → GivesFew (after_access s next stack vars turns answer)
access_gives s next h stack vars turns None = tt
access_gives s next h stack vars turns (Some answer) = outcome_gives s next h answer.0 stack vars turns answer.1

accessed_gives : (s : Setting) (next : Rest) → RestGives next → (m : Method) (taken : Option (List Val × List Val)) (vars : List Val) (turns : ℕ) (state : State)
    → GivesFew (accessed s next m taken vars turns state)
accessed_gives s next h m None vars turns state = tt
accessed_gives s next h m (Some taken) vars turns state = access_gives s next h taken.1 vars turns (call_on m taken.0 state)

perform_gives : (s : Setting) (i : Instr) (next : Rest) → RestGives next → RestGives (perform s i next)
perform_gives s (instr.Int n) next h stack vars turns state = h (val.Int n ∷ stack) vars turns state
perform_gives s (instr.Load v) next h stack vars turns state = pushed_gives next h (slice_get vars v) stack vars turns state
perform_gives s (instr.Store v) next h [] vars turns state = tt
perform_gives s (instr.Store v) next h (x ∷ stack) vars turns state = if_gives (nat_lt v (length vars)) _ None (h stack _ turns state) tt
perform_gives s instr.Pop next h [] vars turns state = tt
perform_gives s instr.Pop next h (x ∷ stack) vars turns state = h stack vars turns state
perform_gives s (instr.Bin op type) next h [] vars turns state = tt
perform_gives s (instr.Bin op type) next h (b ∷ []) vars turns state = tt
perform_gives s (instr.Bin op type) next h (b ∷ a ∷ stack) vars turns state = pushed_gives next h (operated op type a b) stack vars turns state
perform_gives s (instr.Cast type) next h [] vars turns state = tt
perform_gives s (instr.Cast type) next h (a ∷ stack) vars turns state = pushed_gives next h (casted type a) stack vars turns state
perform_gives s instr.Turn next h stack vars zero state = tt
perform_gives s instr.Turn next h stack vars (suc turns) state = h stack vars turns state
perform_gives s instr.Key next h stack vars turns state = pushed_gives next h (key_value s.key) stack vars turns state
perform_gives s (instr.Access field m) next h stack vars turns state =
    if_gives (is_own_field s.field field) _ None (accessed_gives s next h m (arguments (arity m) stack) vars turns state) tt
perform_gives s (instr.Cut t) next h stack vars turns state = cut_gives s t (slice_get s.graph.tasks t) stack vars turns state
perform_gives s instr.Return next h [] vars turns state = tt
perform_gives s instr.Return next h (v ∷ []) vars turns state = tt
perform_gives s instr.Return next h (v ∷ w ∷ stack) vars turns state = tt
perform_gives s instr.ReturnVoid next h [] vars turns state = tt
perform_gives s instr.ReturnVoid next h (x ∷ stack) vars turns state = tt

run_gives : (s : Setting) (is : List Instr) → RestGives (run s is)
run_gives s [] stack vars turns state = tt
run_gives s (i ∷ is) stack vars turns state = perform_gives s i (run s is) (run_gives s is) stack vars turns state

start_gives : (s : Setting) (args : List Val) (state : State) (m : Option GraphMethod) → GivesFew (start_method s args state m)
start_gives s args state None = tt
start_gives s args state (Some m) = run_gives s m.code [] (first_vars m args) turns_at_start state

in_method_gives : (s : Setting) (to : Task) (turns : ℕ) (vars : List Val) (state : State) (m : Option GraphMethod) → GivesFew (run_in_method s to turns vars state m)
in_method_gives s to turns vars state None = tt
in_method_gives s to turns vars state (Some m) = run_gives s (drop to.at m.code) [] (carried_vars m to vars) turns state

task_gives : (s : Setting) (turns : ℕ) (vars : List Val) (state : State) (to : Option Task) → GivesFew (run_task s turns vars state to)
task_gives s turns vars state None = tt
task_gives s turns vars state (Some to) = in_method_gives s to turns vars state (slice_get s.graph.methods to.method)

front_gives : (graph : Graph) (slots : ℕ) (x : Item) (state : State) → GivesFew (runs graph slots port.Front x state)
front_gives graph slots (item.Start call method args) state = start_gives (record { graph = graph; slots = slots; field = None; call = call; key = None }) args state (slice_get graph.methods method)
front_gives graph slots (item.Work call t key turns vars) state = tt
front_gives graph slots (item.Visit call t width turns vars) state = tt
front_gives graph slots (item.Part call t width instance turns vars value) state = tt
front_gives graph slots (item.Done call outcome) state = tt

slot_gives : (graph : Graph) (slots field at : ℕ) (x : Item) (state : State) → GivesFew (runs graph slots (port.Slot field at) x state)
slot_gives graph slots field at (item.Start call method args) state = tt
slot_gives graph slots field at (item.Work call t key turns vars) state = task_gives (record { graph = graph; slots = slots; field = Some field; call = call; key = key }) turns vars state (slice_get graph.tasks t)
slot_gives graph slots field at (item.Visit call t width turns vars) state = tt
slot_gives graph slots field at (item.Part call t width instance turns vars value) state = tt
slot_gives graph slots field at (item.Done call outcome) state = tt

pub runs_gives : (graph : Graph) (slots : ℕ) (p : Port) (x : Item) (state : State) → GivesFew (runs graph slots p x state)
runs_gives graph slots port.Caller x state = tt
runs_gives graph slots port.Sink x state = tt
runs_gives graph slots port.Front x state = front_gives graph slots x state
runs_gives graph slots port.Join x state = tt
runs_gives graph slots (port.Slot field at) x state = slot_gives graph slots field at x state
runs_gives graph slots (port.Inst field number) x state = tt
