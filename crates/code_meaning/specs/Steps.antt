-- What the steps of a call do, from the rest before each to the one behind it: a block is run, an instance is visited, and a call goes
-- on with what its visits brought.
use Rattle.std.specs.Prelude.{◌≡◌, ◌≤◌, ◌+◌, ◌*◌, ℕ, suc, List, [], ◌∷◌, length, unwrap_or, Option, Some, None, slice_get, ℤ}
use Rattle.sdg_base.specs.declared.val.Val.{Val}
use Rattle.sdg_base.specs.declared.val.Val.TheVariants as val
use Rattle.sdg_base.specs.declared.val.Outcome.{Outcome}
use Rattle.sdg_base.specs.declared.val.Outcome.TheVariants as outcome
use Rattle.sdg_base.specs.declared.value_type.ValueType.{ValueType}
use Rattle.state_classes.specs.declared.method.Method.{Method}
use Rattle.state_classes.specs.States.{State, class_of, called}
use Rattle.flat_code.specs.Machine.{Frame, Ending, Stopped, PartFor}
use Rattle.access_blocks.specs.declared.body.Holder.{Holder}
use Rattle.access_blocks.specs.declared.body.Statement.{Statement}
use Rattle.access_blocks.specs.Statements.{Field, part_of}
use Rattle.access_blocks.specs.Source as source
use Rattle.access_blocks.specs.Source.{CallState, Then, Runs, machine_of}
use Rattle.code_meaning.specs.Laid.{frame}
use Rattle.code_meaning.specs.Evaluating.{AreOf, HasKey}
use Rattle.code_meaning.specs.Running.{Ground, IsGround}
use Rattle.code_meaning.specs.Resting.{BlockStands, VisitStands, IsOfResult, EndsIn, RestsAt}
use Rattle.code_meaning.specs.Stepping.{AreNamed, coded}

-- The steps of a call stand on the code of an entry method's body, in which no variable is a collection.
pub record StepsOn (g : Ground) : Type 0 where
  pub stands : IsGround g
  pub named : AreNamed g
  pub no_members : g.around.context.members ≡ None

-- The state is the part of the field, in the instance that the step works on.
pub record OnPart (g : Ground) (field : ℕ) (state : State) : Type 0 where
  pub site : g.site ≡ Some field
  pub is_part : part_of (slice_get g.fields field) g.instance ≡ Some state
  pub of_class : (h : Holder) → slice_get g.around.fields field ≡ Some h → class_of state ≡ h.class

-- A block that has a key is run with it.
abbrev pub CarriesKey : Option ℤ → Option Val → Type 0
CarriesKey carried None = Unit {0}
CarriesKey carried (Some key) = HasKey carried key

-- From a place on, with these variables and turns, the code ends where the source rests.
abbrev pub RestsFrom : Ground → ℕ → ℕ → List Val → ℕ → State → CallState → List Field → Type 0
RestsFrom g whole at variables turns state call fields = RestsAt (coded g whole) g turns (EndsIn g.setting g.code (whole + whole * turns) (frame at [] variables turns) state) call fields

-- ---- blocks

abbrev pub BlocksRun : Type 0
BlocksRun =
    (g : Ground) → StepsOn g → (whole at task field : ℕ) (key : Option Val) (block : Statement) (now : source.Standing) (variables : List Val) → BlockStands (coded g whole) at task field key block now variables
    → (state : State) → OnPart g field state → CarriesKey g.setting.key key → g.setting.gathered ≡ [] → now.turns ≤ g.most
    → (call : CallState) (fields : List Field) → Runs g.calls (Then (block ∷ []) ∷ now.frames) (machine_of now (unwrap_or key val.Unit) [] g.fields g.instance) call fields
    → RestsFrom g whole (at + 1) variables now.turns state call fields

-- ---- visits

-- a value is brought to the join, and anything else ends the visit
abbrev pub brought_to : ℕ → Outcome → Ending
brought_to join (outcome.Value v) = PartFor join v
brought_to join how = Stopped how

-- The run of a visit ends with what the instance answers, and with the state that it then has. It hands on the variables and the turns
-- that it began with.
pub record BringsPart (g : Ground) (at join : ℕ) (variables : List Val) (turns : ℕ) (state : State) (many : ℕ) (result : ValueType) (answer : Outcome × State) : Type 0 where
  pub last : Frame
  pub ends : EndsIn g.setting g.code (many + 2) (frame at [] variables turns) state (brought_to join answer.0) last answer.1
  pub same_turns : last.turns ≡ turns
  pub same_variables : last.variables ≡ variables
  pub of_result : IsOfResult result answer.0
  pub same_class : class_of answer.1 ≡ class_of state
  pub few : many + 2 ≤ length g.code

abbrev pub VisitsBringTheirParts : Type 0
VisitsBringTheirParts =
    (g : Ground) → StepsOn g → (whole at task field : ℕ) (method : Method) (args : List Val) (now : source.Standing) (variables : List Val) → (stands : VisitStands (coded g whole) at task field method args now variables)
    → (state : State) → OnPart g field state → (turns : ℕ) → BringsPart g (at + 1) (suc task) variables turns state (length args) stands.sig.result (called method args state)

-- ---- joins

abbrev pub JoinsGoOn : Type 0
JoinsGoOn =
    (g : Ground) → StepsOn g → (whole at task field : ℕ) (method : Method) (args : List Val) (now : source.Standing) (variables : List Val) → (stands : VisitStands (coded g whole) at task field method args now variables)
    → (gathered : List Val) → AreOf stands.sig.result gathered → g.setting.gathered ≡ gathered → g.site ≡ None → now.turns ≤ g.most
    → (state : State) (call : CallState) (fields : List Field) → Runs g.calls now.frames (machine_of now val.Unit gathered g.fields g.instance) call fields
    → RestsFrom g whole (at + 1 + (length args + 2)) variables now.turns state call fields
