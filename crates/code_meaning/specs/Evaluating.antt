-- What it is for the code of an expression to give the expression's value: where the variables and calls of the code agree with
-- those of the source, its run ends with the value on the stack, or as the evaluation ends.
use Rattle.std.specs.Prelude.{◌≡◌, ◌≤◌, ◌<◌, ◌+◌, ℕ, zero, suc, true, List, [], ◌∷◌, map, length, Option, Some, slice_get, ℤ}
use Rattle.std.specs.List.{AllByRecursion}
use Rattle.sdg_base.specs.declared.val.Val.{Val}
use Rattle.sdg_base.specs.declared.val.Val.TheVariants as val
use Rattle.sdg_base.specs.declared.value_type.ValueType.{ValueType}
use Rattle.sdg_base.specs.declared.value_type.ValueType.TheVariants as type
use Rattle.sdg_base.specs.Types as values
use Rattle.state_classes.specs.States.{State}
use Rattle.java_tree.specs.declared.method_kinds.MethodKind.TheVariants.{Helper, Merge}
use Rattle.flat_code.specs.declared.graph.GraphMethod.{GraphMethod}
use Rattle.flat_code.specs.declared.graph.Instr.{Instr}
use Rattle.flat_code.specs.Machine as machine
use Rattle.flat_code.specs.Machine.{Setting, Frame, Called, Gave, Failed, pushed_result}
use Rattle.access_blocks.specs.declared.body.Expression.{Expression}
use Rattle.access_blocks.specs.declared.halt.Halt.TheVariants.{OutOfTurns}
use Rattle.access_blocks.specs.Expressions.{Calls, Ended, Gives, Ends, Seen, outcome_of, value_of}
use Rattle.body_code.specs.declared.callee.Callee.{Callee}
use Rattle.body_code.specs.Typing.{Context, Needs, needs, type_of, variable_type}
use Rattle.body_code.specs.ExpressionCode.{code_of}
use Rattle.code_meaning.specs.Laid.{IsLaid, frame, Leads, Stops}

-- the type of a value that goes on the stack
abbrev pub IsValue : ValueType → Type 0
IsValue type.Void = ⊥
IsValue _ = Unit {0}

abbrev pub AreOf : ValueType → List Val → Type 0
AreOf t vs = (n : ℕ) (v : Val) → slice_get vs n ≡ Some v → values.type_of v ≡ t

-- ---- variables and calls that agree

-- a variable with one value of its type in both lists
pub record HasSame (c : Context) (here there : List Val) (v : ℕ) : Type 0 where
  pub type : ValueType
  pub value : Val
  pub is_type : variable_type c v ≡ Some type
  pub has_type : values.type_of value ≡ type
  pub is_here : slice_get here v ≡ Some value
  pub is_there : slice_get there v ≡ Some value

-- a call of a method with this result type, that has so many turns
abbrev pub CallAgrees : ValueType → ℕ → Ended Val → Option Called → Type 0
CallAgrees t turns (Gives v left) gave = (gave ≡ Some (Gave v left)) × (values.type_of v ≡ t) × (left ≤ turns)
CallAgrees t turns (Ends h) gave = (left : ℕ) × (gave ≡ Some (Failed (outcome_of h) left))

pub record HelperAgrees (m : ℕ) (callee : Callee) (methods : List GraphMethod) (calls : Calls) (flat : machine.Calls) (most : ℕ) : Type 0 where
  pub method : GraphMethod
  pub is_method : slice_get methods m ≡ Some method
  pub as_many : method.params ≡ length callee.params
  pub take_values : AllByRecursion IsValue callee.params
  pub agrees : (args : List Val) (turns : ℕ) → map values.type_of args ≡ callee.params → turns < most
      → CallAgrees callee.result turns (calls m args [] (suc turns)) (flat m args [] turns)

-- The code spends the turn of a call before the call. Calls agree that have fewer turns than these.
pub record CallsAgree (callees : List Callee) (methods : List GraphMethod) (calls : Calls) (flat : machine.Calls) (most : ℕ) : Type 0 where
  pub want_a_turn : (m : ℕ) (args gathered : List Val) → calls m args gathered zero ≡ Ends OutOfTurns
  pub helpers : (m : ℕ) (callee : Callee) → slice_get callees m ≡ Some callee → callee.kind ≡ Helper → HelperAgrees m callee methods calls flat most
  pub merges : (m : ℕ) (callee : Callee) (t : ValueType) (gathered : List Val) (turns : ℕ) → slice_get callees m ≡ Some callee → callee.kind ≡ Merge → callee.params ≡ t ∷ []
      → AreOf t gathered → turns < most
      → CallAgrees callee.result turns (calls m (val.Unit ∷ []) gathered (suc turns)) (flat m (val.Unit ∷ []) gathered turns)

-- ---- what an expression needs

-- a method that merges what was gathered
pub record MergesThese (c : Context) (gathered : List Val) (m : ℕ) : Type 0 where
  pub callee : Callee
  pub is_callee : slice_get c.methods m ≡ Some callee
  pub merges : callee.kind ≡ Merge
  pub type : ValueType
  pub takes : callee.params ≡ type ∷ []
  pub are_of : AreOf type gathered

pub record HasKey (key : Option ℤ) (seen : Val) : Type 0 where
  pub number : ℤ
  pub is_here : key ≡ Some number
  pub is_there : seen ≡ val.Long number

pub record Meets (c : Context) (s : Setting) (here : List Val) (seen : Seen) (n : Needs) : Type 0 where
  pub variables : AllByRecursion (HasSame c here seen.variables) n.variables
  pub merges : AllByRecursion (MergesThese c seen.gathered) n.merges
  pub key : n.key ≡ true → HasKey s.key seen.key

-- the setting has what was gathered, which in a merge method is of the type of its collection
pub record GathersSame (c : Context) (s : Setting) (seen : Seen) : Type 0 where
  pub same : s.gathered ≡ seen.gathered
  pub members : (t : ValueType) → c.members ≡ Some t → AreOf t seen.gathered
  pub are_values : (t : ValueType) → c.members ≡ Some t → IsValue t

-- ---- values

-- a value of a type that is pushed on a stack, or the end of the call
abbrev pub PushesOrStops : Setting → List Instr → ℕ → Frame → State → ℕ → List Val → List Val → ValueType → Ended Val → Type 0
PushesOrStops s code size f state to stack variables t (Gives v left) =
    (values.type_of v ≡ t) × Leads s code size f state (frame to (pushed_result v stack) variables left) state
PushesOrStops s code size f state to stack variables t (Ends h) = Stops s code size f state (outcome_of h) state

-- From a frame on the code comes to what an evaluation gives.
pub record Evaluates (s : Setting) (code : List Instr) (size : ℕ) (f : Frame) (state : State) (to : ℕ) (stack variables : List Val) (t : ValueType) (given : Ended Val) : Type 0 where
  pub does : PushesOrStops s code size f state to stack variables t given

abbrev pub ExpressionsGiveTheirValues : Type 0
ExpressionsGiveTheirValues =
    (c : Context) (calls : Calls) (s : Setting) (code : List Instr) (most : ℕ) → CallsAgree c.methods s.methods calls s.calls most
    → (variables : List Val) (seen : Seen) → GathersSame c s seen
    → (x : Expression) (t : ValueType) (at turns : ℕ) (stack : List Val) (state : State)
    → type_of c x ≡ Some t → Meets c s variables seen (needs x) → IsLaid code at ((code_of c x).from at) → turns ≤ most
    → Evaluates s code (code_of c x).size (frame at stack variables turns) state (at + (code_of c x).size) stack variables t (value_of calls x seen turns)
