-- Where a call rests: the code has ended at the cut where the source waits for a step, or the call has ended.
use Rattle.std.specs.Prelude.{◌≡◌, ◌≤◌, ◌+◌, ℕ, suc, true, false, List, [], ◌∷◌, ◌++◌, length, map, replicate, Option, Some, None, slice_get}
use Rattle.std.specs.List.{range_with_len}
use Rattle.sdg_base.specs.declared.val.Val.{Val}
use Rattle.sdg_base.specs.declared.val.Outcome.{Outcome}
use Rattle.sdg_base.specs.declared.val.Outcome.TheVariants as outcome
use Rattle.sdg_base.specs.declared.value_type.ValueType.{ValueType}
use Rattle.sdg_base.specs.declared.value_type.ValueType.TheVariants as type
use Rattle.sdg_base.specs.Signatures.{Signature}
use Rattle.sdg_base.specs.Types as values
use Rattle.state_classes.specs.declared.method.Method.{Method}
use Rattle.state_classes.specs.Methods.{signature}
use Rattle.state_classes.specs.States.{State, class_of}
use Rattle.flat_code.specs.declared.graph.Instr.{Instr}
use Rattle.flat_code.specs.declared.graph.Instr.TheVariants as instr
use Rattle.flat_code.specs.Machine.{Setting, Frame, Ending, Returned, Stopped, CutTo, run_within}
use Rattle.access_blocks.specs.declared.body.Holder.{Holder}
use Rattle.access_blocks.specs.declared.body.Statement.{Statement}
use Rattle.access_blocks.specs.Statements.{Field}
use Rattle.access_blocks.specs.Source as source
use Rattle.access_blocks.specs.Source.{CallState, Fresh, At, Visiting, Ended, Then, width_of}
use Rattle.body_code.specs.Early.{is_in}
use Rattle.body_code.specs.StatementCode.{field_name}
use Rattle.body_code.specs.Checking.{Standing, in_block, gathering}
use Rattle.code_meaning.specs.Laid.{IsLaid, frame}
use Rattle.code_meaning.specs.Evaluating.{HasSame}
use Rattle.code_meaning.specs.Running.{Ground, fields_with}
use Rattle.code_meaning.specs.Cutting.{stack_of}
use Rattle.code_meaning.specs.Frames.{Coded, scope_in, Level, AreLaid}

-- the variables of the code have the values of those that are known
pub record SameVariables (c : Coded) (st : Standing) (here there : List Val) : Type 0 where
  pub known : (v : ℕ) → is_in v st.known ≡ true → HasSame c.around.context here there v
  pub room : length here ≡ c.many
  pub room_there : length c.around.context.variables ≤ length there

-- A block of a partitioned field has a key, and one on an instance of a partial field has none.
abbrev pub IsKeyFor : Option Holder → Option Val → Type 0
IsKeyFor None key = ⊥
IsKeyFor (Some h) None = h.is_partial ≡ true
IsKeyFor (Some h) (Some key) = (h.is_partial ≡ false) × (values.type_of key ≡ type.Long)

-- Behind the cut stands the block, and behind it what is then left to run.
pub record BlockStands (c : Coded) (at task field : ℕ) (key : Option Val) (block : Statement) (now : source.Standing) (variables : List Val) : Type 0 where
  pub is_cut : slice_get c.code at ≡ Some (instr.Cut task)
  pub is_key : IsKeyFor (slice_get c.around.fields field) key
  pub before : Standing
  pub level : Level
  pub left : ℕ
  pub laid : AreLaid c (Then (block ∷ []) ∷ now.frames) level true (at + 1) (in_block field before) left
  pub few : left ≤ c.whole
  pub same : SameVariables c before variables now.variables

-- Behind the cut stands the visit of an instance, which brings its part to the next task, and behind it what is then left to run. The
-- arguments are carried by variables from this one on.
pub record VisitStands (c : Coded) (at task field : ℕ) (method : Method) (args : List Val) (now : source.Standing) (variables : List Val) : Type 0 where
  pub is_cut : slice_get c.code at ≡ Some (instr.Cut task)
  pub holder : Holder
  pub is_holder : slice_get c.around.fields field ≡ Some holder
  pub is_partial : holder.is_partial ≡ true
  pub sig : Signature
  pub is_signature : signature holder.class method ≡ Some sig
  pub types : map values.type_of args ≡ sig.arguments
  pub variable : ℕ
  pub visit : IsLaid c.code (at + 1) (map instr.Load (range_with_len variable (length args)) ++ (instr.Access (field_name (scope_in c) field) method ∷ instr.Part (suc task) ∷ []))
  pub carried : (n : ℕ) (v : Val) → slice_get args n ≡ Some v → slice_get variables (variable + n) ≡ Some v
  pub before : Standing
  pub level : Level
  pub left : ℕ
  pub laid : AreLaid c now.frames level true (at + 1 + (length args + 2)) (gathering sig.result before) left
  pub few : left ≤ c.whole
  pub same : SameVariables c before variables now.variables

-- ---- how a run of code ends

abbrev pub ending_of : Outcome → Ending
ending_of (outcome.Value v) = Returned v
ending_of how = Stopped how

-- a run ends in at most so many steps
pub record EndsIn (s : Setting) (code : List Instr) (most : ℕ) (f : Frame) (state : State) (ending : Ending) (last : Frame) (next : State) : Type 0 where
  pub steps : ℕ
  pub same : (n : ℕ) → run_within (steps + n) s code f state ≡ Some (record { ending = ending; frame = last; state = next })
  pub few : steps ≤ most

-- the fields that the source leaves: those before, with the state of the code in the part that it worked on
pub record FieldsAreLeft (g : Ground) (state : State) (fields : List Field) : Type 0 where
  pub same_fields : fields ≡ fields_with g.site g.instance state g.fields
  pub of_class : (field : ℕ) (h : Holder) → g.site ≡ Some field → slice_get g.around.fields field ≡ Some h → class_of state ≡ h.class

abbrev pub IsOfResult : ValueType → Outcome → Type 0
IsOfResult t (outcome.Value v) = values.type_of v ≡ t
IsOfResult t _ = Unit {0}

pub record EndsCall (g : Ground) (Ends : Ending → Frame → State → Type 0) (how : Outcome) (fields : List Field) : Type 0 where
  pub last : Frame
  pub next : State
  pub ends : Ends (ending_of how) last next
  pub of_result : IsOfResult g.around.result how
  pub left : FieldsAreLeft g next fields

pub record RestsAtBlock (c : Coded) (g : Ground) (turns : ℕ) (Ends : Ending → Frame → State → Type 0) (field : ℕ) (key : Option Val) (block : Statement) (now : source.Standing) (fields : List Field) : Type 0 where
  pub at : ℕ
  pub task : ℕ
  pub variables : List Val
  pub next : State
  pub ends : Ends (CutTo task) (frame at (stack_of key) variables now.turns) next
  pub stands : BlockStands c at task field key block now variables
  pub falls : now.turns ≤ turns
  pub left : FieldsAreLeft g next fields

pub record RestsAtVisits (c : Coded) (g : Ground) (turns : ℕ) (Ends : Ending → Frame → State → Type 0) (field : ℕ) (method : Method) (args : List Val) (parts : List (Option Outcome)) (now : source.Standing) (fields : List Field) : Type 0 where
  pub at : ℕ
  pub task : ℕ
  pub variables : List Val
  pub next : State
  pub ends : Ends (CutTo task) (frame at [] variables now.turns) next
  pub stands : VisitStands c at task field method args now variables
  pub none_made : parts ≡ replicate (width_of field fields) None
  pub falls : now.turns ≤ turns
  pub left : FieldsAreLeft g next fields

-- The source rests in a state, with these fields, and a run of the code ends there, which had so many turns.
abbrev pub RestsAt : Coded → Ground → ℕ → (Ending → Frame → State → Type 0) → CallState → List Field → Type 0
RestsAt c g turns Ends Fresh fields = ⊥
RestsAt c g turns Ends (At field key block now) fields = RestsAtBlock c g turns Ends field key block now fields
RestsAt c g turns Ends (Visiting field method args parts now) fields = RestsAtVisits c g turns Ends field method args parts now fields
RestsAt c g turns Ends (Ended how) fields = EndsCall g Ends how fields
