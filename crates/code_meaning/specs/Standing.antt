-- Where a call of an entry method stands between its steps: before the cut of a block or of visits in its code, with what is then left
-- to run behind it.
use Rattle.std.specs.Prelude.{◌≡◌, ◌≤◌, ◌+◌, ℕ, suc, true, false, List, [], ◌∷◌, length, unwrap_or, Option, Some, None, slice_get, ℤ}
use Rattle.std.specs.List.{AllByRecursion, filter_map}
use Rattle.sdg_base.specs.Limits.{turns_at_start}
use Rattle.sdg_base.specs.declared.val.Val.{Val}
use Rattle.sdg_base.specs.declared.val.Val.TheVariants as val
use Rattle.sdg_base.specs.declared.val.Outcome.{Outcome}
use Rattle.state_classes.specs.declared.method.Method.{Method as StateMethod}
use Rattle.state_classes.specs.States.{State, class_of, called}
use Rattle.java_tree.specs.declared.tree.Class.{Class}
use Rattle.java_tree.specs.declared.tree.Method.{Method}
use Rattle.flat_code.specs.declared.graph.GraphMethod.{GraphMethod}
use Rattle.access_blocks.specs.declared.body.Body.{Body}
use Rattle.access_blocks.specs.declared.body.Holder.{Holder}
use Rattle.access_blocks.specs.declared.body.Program.{Program}
use Rattle.access_blocks.specs.declared.body.Statement.{Statement}
use Rattle.access_blocks.specs.Calls.{calls_of}
use Rattle.access_blocks.specs.Statements.{Field, Whole, Instances, part_of}
use Rattle.access_blocks.specs.Source as source
use Rattle.access_blocks.specs.Source.{CallState, Fresh, At, Visiting, Ended, Then, Runs, width_of, fits_block, value_in, machine_of}
use Rattle.body_code.specs.ClassCode.{result_type}
use Rattle.body_code.specs.Checking.{IsTyped}
use Rattle.code_meaning.specs.Running.{Ground}
use Rattle.code_meaning.specs.Placed.{are_placed}
use Rattle.code_meaning.specs.Frames.{Coded}
use Rattle.code_meaning.specs.Resting.{BlockStands, VisitStands, IsOfResult}
use Rattle.code_meaning.specs.Stepping.{coded}
use Rattle.code_meaning.specs.Steps.{RestsFrom, BringsPart}
use Rattle.code_meaning.specs.Entries.{Working, on_nothing, IsEntry, entry_code, entry_ground, whole_of}

-- ---- an entry method and its code

pub record Entered : Type 0 where
  pub class : Class
  pub program : Program
  pub number : ℕ
  pub method : Method
  pub body : Body
  pub task : ℕ

pub record IsEntered (e : Entered) : Type 0 where
  pub typed : IsTyped e.class e.program
  pub entry : IsEntry e.class e.program e.number e.method e.body
  pub placed : are_placed (e.body).statements ≡ true

abbrev pub code_for : Entered → GraphMethod
code_for e = entry_code e.class e.program e.method e.body e.task

abbrev pub ground_on : Entered → Working → List Field → Ground
ground_on e on fields = entry_ground e.class e.program e.method e.body e.task on fields

abbrev pub coded_for : Entered → Coded
coded_for e = coded (ground_on e on_nothing []) (whole_of (code_for e))

-- from a place in its code on
abbrev pub RestsNow : Entered → Working → List Field → ℕ → List Val → ℕ → State → CallState → List Field → Type 0
RestsNow e on fields at variables turns state call next = RestsFrom (ground_on e on fields) (whole_of (code_for e)) at variables turns state call next

-- ---- where a call stands

pub record StandsAtBlock (e : Entered) (field : ℕ) (key : Option Val) (block : Statement) (now : source.Standing) : Type 0 where
  pub at : ℕ
  pub task : ℕ
  pub variables : List Val
  pub stands : BlockStands (coded_for e) at task field key block now variables
  pub few : now.turns ≤ turns_at_start

-- Each value that was brought so far is of the method's type.
pub record StandsAtVisits (e : Entered) (field : ℕ) (method : StateMethod) (args : List Val) (parts : List (Option Outcome)) (now : source.Standing) : Type 0 where
  pub at : ℕ
  pub task : ℕ
  pub variables : List Val
  pub stands : VisitStands (coded_for e) at task field method args now variables
  pub few : now.turns ≤ turns_at_start
  pub typed : (i : ℕ) (how : Outcome) → slice_get parts i ≡ Some (Some how) → IsOfResult stands.sig.result how

abbrev pub Stands : Entered → CallState → Type 0
Stands e Fresh = Unit {0}
Stands e (At field key block now) = StandsAtBlock e field key block now
Stands e (Visiting field method args parts now) = StandsAtVisits e field method args parts now
Stands e (Ended how) = IsOfResult (result_type (e.method).result) how

-- ---- fields

-- A partitioned field has one state, and a partial one an instance or more, all of the field's class.
abbrev pub FieldFits : Holder → Option Field → Type 0
FieldFits h None = ⊥
FieldFits h (Some (Whole state)) = (h.is_partial ≡ false) × (class_of state ≡ h.class)
FieldFits h (Some (Instances states)) = (h.is_partial ≡ true) × AllByRecursion (λ state. class_of state ≡ h.class) states

abbrev pub FieldsFit : Program → List Field → Type 0
FieldsFit program fields = (field : ℕ) (h : Holder) → slice_get program.fields field ≡ Some h → FieldFits h (slice_get fields field)

-- ---- what holds where a call rests

pub record StandsAgain (e : Entered) (call : CallState) (fields : List Field) : Type 0 where
  pub stands : Stands e call
  pub fit : FieldsFit e.program fields

abbrev pub RestsOf : Entered → Type 0
RestsOf e =
    (on : Working) (fields : List Field) → FieldsFit e.program fields → (at turns : ℕ) → turns ≤ turns_at_start → (variables : List Val) (state : State) (call : CallState) (next : List Field)
    → RestsNow e on fields at variables turns state call next → StandsAgain e call next

abbrev pub RestsStand : Type 0
RestsStand = (e : Entered) → IsEntered e → RestsOf e

-- ---- steps from where a call stands

abbrev pub key_number : Option Val → Option ℤ
key_number (Some (val.Long n)) = Some n
key_number _ = None

abbrev pub block_works : ℕ → Option Val → Option ℕ → Working
block_works field key i = record { site = Some field; instance = unwrap_or i 0; key = key_number key; gathered = [] }

pub record BlockRests (e : Entered) (fields : List Field) (field : ℕ) (key : Option Val) (i : Option ℕ) (at : ℕ) (variables : List Val) (turns : ℕ) (call : CallState) (next : List Field) : Type 0 where
  pub part : State
  pub is_part : part_of (slice_get fields field) (unwrap_or i 0) ≡ Some part
  pub rests : RestsNow e (block_works field key i) fields at variables turns part call next

abbrev pub BlocksOf : Entered → Type 0
BlocksOf e =
    (fields : List Field) → FieldsFit e.program fields → (field : ℕ) (key : Option Val) (block : Statement) (now : source.Standing) → (s : StandsAtBlock e field key block now)
    → (i : Option ℕ) → fits_block key i (width_of field fields) ≡ true
    → (call : CallState) (next : List Field) → Runs (calls_of (e.program).methods) (Then (block ∷ []) ∷ now.frames) (machine_of now (unwrap_or key val.Unit) [] fields (unwrap_or i 0)) call next
    → BlockRests e fields field key i (s.at + 1) s.variables now.turns call next

abbrev pub BlocksRest : Type 0
BlocksRest = (e : Entered) → IsEntered e → BlocksOf e

abbrev pub visit_works : ℕ → ℕ → Working
visit_works field i = record { site = Some field; instance = i; key = None; gathered = [] }

abbrev pub VisitsOf : Entered → Type 0
VisitsOf e =
    (fields : List Field) → FieldsFit e.program fields → (field : ℕ) (method : StateMethod) (args : List Val) (parts : List (Option Outcome)) (now : source.Standing) → (s : StandsAtVisits e field method args parts now)
    → (i : ℕ) (part : State) → part_of (slice_get fields field) i ≡ Some part
    → BringsPart (ground_on e (visit_works field i) fields) (s.at + 1) (suc s.task) s.variables now.turns part (length args) (s.stands).sig.result (called method args part)

abbrev pub VisitsBring : Type 0
VisitsBring = (e : Entered) → IsEntered e → VisitsOf e

abbrev pub join_works : List Val → Working
join_works gathered = record { site = None; instance = 0; key = None; gathered = gathered }

abbrev pub JoinsOf : Entered → Type 0
JoinsOf e =
    (fields : List Field) → (field : ℕ) (method : StateMethod) (args : List Val) (parts : List (Option Outcome)) (now : source.Standing) → (s : StandsAtVisits e field method args parts now)
    → (state : State) (call : CallState) (next : List Field) → Runs (calls_of (e.program).methods) now.frames (machine_of now val.Unit (filter_map value_in parts) fields 0) call next
    → RestsNow e (join_works (filter_map value_in parts)) fields (s.at + 1 + (length args + 2)) s.variables now.turns state call next

abbrev pub JoinsRest : Type 0
JoinsRest = (e : Entered) → IsEntered e → JoinsOf e
