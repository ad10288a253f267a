-- The meaning of flat code: what its instructions do to a stack of values, to variables, to turns and to a state, one after
-- the other. None stands where an operand is missing or has another type, or where the code is left without an end.
use Rattle.std.specs.Prelude.{ℕ, ℤ, zero, suc, pos, negsuc, Bool, true, false, nat_lt, ◌*◌, ◌-◌, if◌then◌else◌, List, [], ◌∷◌, ◌++◌, length, replicate, map, Option, Some, None, Result, Ok, Err, slice_get, slice_set}
use Rattle.std.specs.Str.{bytes_eq}
use Rattle.sdg_base.specs.Limits.{turns_at_start}
use Rattle.sdg_base.specs.declared.operator.BinOp.{BinOp}
use Rattle.sdg_base.specs.declared.val.Exn.{Exn}
use Rattle.sdg_base.specs.declared.val.Exn.TheVariants as exn
use Rattle.sdg_base.specs.declared.val.Val.{Val}
use Rattle.sdg_base.specs.declared.val.Val.TheVariants as val
use Rattle.sdg_base.specs.declared.val.Outcome.{Outcome}
use Rattle.sdg_base.specs.declared.val.Outcome.TheVariants as outcome
use Rattle.sdg_base.specs.Operations.{operation, unary_operation, converted}
use Rattle.sdg_base.specs.Signatures.{Signature}
use Rattle.sdg_base.specs.Types.{type_of}
use Rattle.state_classes.specs.declared.method.Method.{Method}
use Rattle.state_classes.specs.States.{State, OfCounter, called}
use Rattle.flat_code.specs.declared.graph.GraphField.{GraphField}
use Rattle.flat_code.specs.declared.graph.GraphMethod.{GraphMethod}
use Rattle.flat_code.specs.declared.graph.Instr.{Instr}
use Rattle.flat_code.specs.declared.graph.Instr.TheVariants as instr
use Rattle.flat_code.specs.declared.graph.OperandType.{OperandType}
use Rattle.flat_code.specs.Types.{operand_type, right_type, same_type, same_types, signature_at}

-- A `Vector` has at most so many elements.
abbrev pub most_elements : ℕ
most_elements = 4096

-- where a run of code stands: at an instruction, with a stack, variables and turns
pub record Frame : Type 0 where
  pub at : ℕ
  pub stack : List Val
  pub variables : List Val
  pub turns : ℕ

-- what a call of a method gave: a value, or how the whole call ends, with the turns left
pub data Called : Type 0 where
  Gave : Val → ℕ → Called
  Failed : Outcome → ℕ → Called

-- the meaning of a call: the number of the method, its arguments, the members of its collection, and the turns
abbrev pub Calls : Type 0
Calls = ℕ → List Val → List Val → ℕ → Option Called

-- what a run stands on: the fields and methods of the class, the calls, the field whose state is there, the key that the
-- item carries, and what the parts brought
pub record Setting : Type 0 where
  pub fields : List GraphField
  pub methods : List GraphMethod
  pub calls : Calls
  pub field : Option (List ℕ)
  pub key : Option ℤ
  pub gathered : List Val

-- how a run of code ends: with the method's value, with the call's outcome, at a cut, or as a part of a visit
pub data Ending : Type 0 where
  Returned : Val → Ending
  Stopped : Outcome → Ending
  CutTo : ℕ → Ending
  PartFor : ℕ → Val → Ending

-- what an instruction does: it goes on, accesses the state and then goes on, or ends the run. An end has the frame before the
-- instruction.
pub data Performed : Type 0 where
  Goes : Frame → Performed
  Accesses : Method → List Val → Frame → Performed
  Ends : Ending → Frame → Performed

-- ---- going on and ending

abbrev pub goes : List Val → Frame → Option Performed
goes stack f = Some (Goes (record { at = suc f.at; stack = stack; variables = f.variables; turns = f.turns }))

abbrev pub pushed : Option Val → List Val → Frame → Option Performed
pushed None stack f = None
pushed (Some v) stack f = goes (v ∷ stack) f

abbrev pub throws : Exn → Frame → Option Performed
throws e f = Some (Ends (Stopped (outcome.Throws e)) f)

abbrev pub ends_at_limit : Frame → Option Performed
ends_at_limit f = Some (Ends (Stopped outcome.Limit) f)

abbrev pub jumped : ℕ → List Val → Frame → Option Performed
jumped to stack f = Some (Goes (record { at = to; stack = stack; variables = f.variables; turns = f.turns }))

abbrev pub turned : ℕ → Frame → Option Performed
turned zero f = ends_at_limit f
turned (suc left) f = Some (Goes (record { at = suc f.at; stack = f.stack; variables = f.variables; turns = left }))

-- ---- values

abbrev pub answered : Option (Result Val Exn) → List Val → Frame → Option Performed
answered None stack f = None
answered (Some (Ok v)) stack f = goes (v ∷ stack) f
answered (Some (Err e)) stack f = throws e f

-- A variable that has nothing yet holds no value.
abbrev pub a_value : Option Val → Option Val
a_value (Some val.Unit) = None
a_value v = v

abbrev pub variable_in : Frame → ℕ → Option Val
variable_in f v = a_value (slice_get f.variables v)

abbrev pub operated : BinOp → OperandType → Val → Val → Option (Result Val Exn)
operated op t a b =
    if same_type (type_of a) (operand_type t) then (if same_type (type_of b) (right_type op t) then operation op a b else None) else None

abbrev pub stored : ℕ → Val → List Val → Frame → Option Performed
stored v x stack f =
    if nat_lt v (length f.variables)
    then Some (Goes (record { at = suc f.at; stack = stack; variables = slice_set f.variables v x; turns = f.turns }))
    else None

-- ---- vectors

abbrev pub new_vector : Val → List Val → Frame → Option Performed
new_vector (val.Int (pos n)) stack f = if nat_lt most_elements n then ends_at_limit f else goes (val.Vector (replicate n (pos 0)) ∷ stack) f
new_vector (val.Int (negsuc n)) stack f = throws exn.NegativeSize f
new_vector _ stack f = None

abbrev pub size_of : Option Val → Option Val
size_of (Some (val.Vector longs)) = Some (val.Int (pos (length longs)))
size_of _ = None

-- the index that a value is; None where it is below 0
abbrev pub at_index : ℤ → Option ℕ
at_index (pos i) = Some i
at_index (negsuc i) = None

abbrev pub item_at : List Val → Option ℕ → Option Val
item_at vs None = None
item_at vs (Some i) = slice_get vs i

abbrev pub long_at : List ℤ → Option ℕ → Option ℤ
long_at longs None = None
long_at longs (Some i) = slice_get longs i

-- what was found at an index, or the exception of an index outside
abbrev pub found : Option Val → List Val → Frame → Option Performed
found None stack f = throws exn.Index f
found (Some v) stack f = goes (v ∷ stack) f

abbrev pub a_long : Option ℤ → Option Val
a_long None = None
a_long (Some n) = Some (val.Long n)

abbrev pub element : Option Val → Val → List Val → Frame → Option Performed
element (Some (val.Vector longs)) (val.Int i) stack f = found (a_long (long_at longs (at_index i))) stack f
element _ _ stack f = None

abbrev pub set_at : ℕ → List ℤ → Option ℕ → ℤ → List Val → Frame → Option Performed
set_at v longs None x stack f = throws exn.Index f
set_at v longs (Some i) x stack f = if nat_lt i (length longs) then stored v (val.Vector (slice_set longs i x)) stack f else throws exn.Index f

abbrev pub element_set : ℕ → Option Val → Val → Val → List Val → Frame → Option Performed
element_set v (Some (val.Vector longs)) (val.Int i) (val.Long x) stack f = set_at v longs (at_index i) x stack f
element_set v _ _ _ stack f = None

-- ---- collections: the members that the parts brought

abbrev pub member : List Val → Val → List Val → Frame → Option Performed
member members (val.Int i) stack f = found (item_at members (at_index i)) stack f
member members _ stack f = None

-- something of the member at an index
abbrev pub with_found : Option Val → (Val → Option Performed) → Frame → Option Performed
with_found None g f = throws exn.Index f
with_found (Some v) g f = g v

abbrev pub with_member : List Val → Val → (Val → Option Performed) → Frame → Option Performed
with_member members (val.Int i) g f = with_found (item_at members (at_index i)) g f
with_member members _ g f = None

abbrev pub member_size : List Val → Frame → Val → Option Performed
member_size stack f v = pushed (size_of (Some v)) stack f

abbrev pub member_checked : Val → List Val → Frame → Val → Option Performed
member_checked i stack f v = goes (i ∷ stack) f

abbrev pub member_element : Val → List Val → Frame → Val → Option Performed
member_element j stack f v = element (Some v) j stack f

-- ---- calls

-- so many arguments off the stack, in the order in which they were pushed, and what is left
abbrev pub with_last : Val → Option (List Val × List Val) → Option (List Val × List Val)
with_last v None = None
with_last v (Some taken) = Some (taken.0 ++ v ∷ [], taken.1)

abbrev pub arguments : ℕ → List Val → Option (List Val × List Val)
arguments zero stack = Some ([], stack)
arguments (suc n) [] = None
arguments (suc n) (v ∷ stack) = with_last v (arguments n stack)

-- A void method pushes nothing.
abbrev pub pushed_result : Val → List Val → List Val
pushed_result val.Unit stack = stack
pushed_result v stack = v ∷ stack

abbrev pub after_call : Option Called → List Val → Frame → Option Performed
after_call None stack f = None
after_call (Some (Gave v turns)) stack f =
    Some (Goes (record { at = suc f.at; stack = pushed_result v stack; variables = f.variables; turns = turns }))
after_call (Some (Failed how turns)) stack f =
    Some (Ends (Stopped how) (record { at = f.at; stack = f.stack; variables = f.variables; turns = turns }))

abbrev pub call_on : Calls → ℕ → Option (List Val × List Val) → Frame → Option Performed
call_on calls m None f = None
call_on calls m (Some taken) f = after_call (calls m taken.0 [] f.turns) taken.1 f

abbrev pub call : Calls → ℕ → Option GraphMethod → List Val → Frame → Option Performed
call calls m None stack f = None
call calls m (Some method) stack f = call_on calls m (arguments method.params stack) f

-- A merge method's one parameter is the collection, which has no value of its own.
abbrev pub merge : Calls → ℕ → List Val → List Val → Frame → Option Performed
merge calls m gathered stack f = after_call (calls m (val.Unit ∷ []) gathered f.turns) stack f

-- ---- state accesses

abbrev pub is_own_field : Option (List ℕ) → List ℕ → Bool
is_own_field None name = false
is_own_field (Some own) name = bytes_eq own name

abbrev pub access_with : Method → Signature → Option (List Val × List Val) → Frame → Option Performed
access_with m sig None f = None
access_with m sig (Some taken) f =
    if same_types (map type_of taken.0) sig.arguments
    then Some (Accesses m taken.0 (record { at = suc f.at; stack = taken.1; variables = f.variables; turns = f.turns }))
    else None

abbrev pub access_by : Method → Option Signature → List Val → Frame → Option Performed
access_by m None stack f = None
access_by m (Some sig) stack f = access_with m sig (arguments (length sig.arguments) stack) f

abbrev pub access : Setting → List ℕ → Method → List Val → Frame → Option Performed
access s name m stack f = if is_own_field s.field name then access_by m (signature_at s.fields name m) stack f else None

abbrev pub key_value : Option ℤ → Option Val
key_value None = None
key_value (Some key) = Some (val.Long key)

-- a void access leaves nothing to bring
abbrev pub part_value : List Val → Val
part_value [] = val.Unit
part_value (v ∷ stack) = v

-- ---- instructions

abbrev pub perform_on : Setting → Instr → List Val → Frame → Option Performed
perform_on s (instr.Int n) stack f = goes (val.Int n ∷ stack) f
perform_on s (instr.Long n) stack f = goes (val.Long n ∷ stack) f
perform_on s (instr.Bool b) stack f = goes (val.Bool b ∷ stack) f
perform_on s (instr.Load v) stack f = pushed (variable_in f v) stack f
perform_on s (instr.Store v) (x ∷ stack) f = stored v x stack f
perform_on s instr.Pop (x ∷ stack) f = goes stack f
perform_on s (instr.Bin op t) (b ∷ a ∷ stack) f = answered (operated op t a b) stack f
perform_on s (instr.Un op) (a ∷ stack) f = pushed (unary_operation op a) stack f
perform_on s (instr.Cast t) (a ∷ stack) f = pushed (converted t a) stack f
perform_on s (instr.Jump to) stack f = jumped to stack f
perform_on s (instr.IfFalse to) (val.Bool true ∷ stack) f = goes stack f
perform_on s (instr.IfFalse to) (val.Bool false ∷ stack) f = jumped to stack f
perform_on s instr.Turn stack f = turned f.turns f
perform_on s instr.NewVector (n ∷ stack) f = new_vector n stack f
perform_on s (instr.VectorSize v) stack f = pushed (size_of (variable_in f v)) stack f
perform_on s (instr.VectorGet v) (i ∷ stack) f = element (variable_in f v) i stack f
perform_on s (instr.VectorSet v) (x ∷ i ∷ stack) f = element_set v (variable_in f v) i x stack f
perform_on s (instr.CollectionLength v) stack f = goes (val.Int (pos (length s.gathered)) ∷ stack) f
perform_on s (instr.CollectionItem v) (i ∷ stack) f = member s.gathered i stack f
perform_on s (instr.CollectionSize v) (i ∷ stack) f = with_member s.gathered i (member_size stack f) f
perform_on s (instr.CollectionCheck v) (i ∷ stack) f = with_member s.gathered i (member_checked i stack f) f
perform_on s (instr.CollectionGet v) (j ∷ i ∷ stack) f = with_member s.gathered i (member_element j stack f) f
perform_on s (instr.Call m) stack f = call s.calls m (slice_get s.methods m) stack f
perform_on s instr.Key stack f = pushed (key_value s.key) stack f
perform_on s (instr.Access name m) stack f = access s name m stack f
perform_on s (instr.Cut t) stack f = Some (Ends (CutTo t) f)
perform_on s (instr.Part t) stack f = Some (Ends (PartFor t (part_value stack)) f)
perform_on s (instr.Merge m) stack f = merge s.calls m s.gathered stack f
perform_on s instr.Return (v ∷ stack) f = Some (Ends (Returned v) f)
perform_on s instr.ReturnVoid stack f = Some (Ends (Returned val.Unit) f)
perform_on s _ _ f = None

abbrev pub perform : Setting → Option Instr → Frame → Option Performed
perform s None f = None
perform s (Some i) f = perform_on s i f.stack f

-- ---- a run of code

-- how it ended, the frame before the instruction that ended it, and the state after it
pub record Ran : Type 0 where
  pub ending : Ending
  pub frame : Frame
  pub state : State

abbrev pub Running : Type 0
Running = Frame → State → Option Ran

abbrev pub after_access : Running → Frame → Outcome × State → Option Ran
after_access next f (outcome.Value v, state) =
    next (record { at = f.at; stack = pushed_result v f.stack; variables = f.variables; turns = f.turns }) state
after_access next f (how, state) = Some (record { ending = Stopped how; frame = f; state = state })

abbrev pub after : Running → State → Option Performed → Option Ran
after next state None = None
after next state (Some (Goes f)) = next f state
after next state (Some (Accesses m args f)) = after_access next f (called m args state)
after next state (Some (Ends ending f)) = Some (record { ending = ending; frame = f; state = state })

-- in at most so many steps
unfoldable pub run_within : ℕ → Setting → List Instr → Running
run_within zero s code f state = None
run_within (suc n) s code f state = after (run_within n s code) state (perform s (slice_get code f.at) f)

-- Between two turns no instruction is passed twice.
abbrev pub most_steps : List Instr → ℕ → ℕ
most_steps code turns = suc turns * suc (length code)

abbrev pub run : Setting → List Instr → Running
run s code f state = run_within (most_steps code f.turns) s code f state

-- ---- methods that others call

-- the arguments, and nothing yet in the other variables
abbrev pub first_variables : GraphMethod → List Val → List Val
first_variables m args = args ++ replicate (length m.vars - length args) val.Unit

abbrev pub first_frame : GraphMethod → List Val → ℕ → Frame
first_frame m args turns = record { at = zero; stack = []; variables = first_variables m args; turns = turns }

-- Helper and merge methods have no state.
abbrev pub no_state : State
no_state = OfCounter (pos 0)

abbrev pub given : Ending → Frame → Option Called
given (Returned v) f = Some (Gave v f.turns)
given (Stopped how) f = Some (Failed how f.turns)
given _ f = None

abbrev pub given_by : Option Ran → Option Called
given_by None = None
given_by (Some ran) = given ran.ending ran.frame

abbrev pub in_method : List GraphField → List GraphMethod → Calls → List Val → Setting
in_method fields methods calls gathered =
    record { fields = fields; methods = methods; calls = calls; field = None; key = None; gathered = gathered }

abbrev pub method_run : List GraphField → List GraphMethod → Calls → Option GraphMethod → List Val → List Val → ℕ → Option Called
method_run fields methods calls None args gathered turns = None
method_run fields methods calls (Some m) args gathered turns =
    given_by (run (in_method fields methods calls gathered) m.code (first_frame m args turns) no_state)

-- calls at most so deep
unfoldable pub calls_within : ℕ → List GraphField → List GraphMethod → Calls
calls_within zero fields methods m args gathered turns = None
calls_within (suc depth) fields methods m args gathered turns =
    method_run fields methods (calls_within depth fields methods) (slice_get methods m) args gathered turns

-- Each call spends a turn, so that no calls are deeper than a call has turns.
abbrev pub calls_of : List GraphField → List GraphMethod → Calls
calls_of fields methods = calls_within turns_at_start fields methods
