-- What it is for the code of a statement to do what the statement means: where the variables, the turns and the state of the code
-- agree with those of the source, it goes where the statement completes, and they agree again.
use Rattle.std.specs.Prelude.{◌≡◌, ◌≤◌, ◌+◌, ℕ, Bool, true, false, ◌&&◌, List, [], ◌∷◌, length, Option, Some, None, slice_get}
use Rattle.sdg_base.specs.declared.val.Val.{Val}
use Rattle.sdg_base.specs.declared.value_type.ValueType.{ValueType}
use Rattle.sdg_base.specs.Types as values
use Rattle.state_classes.specs.States.{State, class_of}
use Rattle.flat_code.specs.declared.graph.GraphField.{GraphField}
use Rattle.flat_code.specs.declared.graph.Instr.{Instr}
use Rattle.flat_code.specs.Types.{field_named}
use Rattle.flat_code.specs.Machine.{Setting, Frame, Returned}
use Rattle.access_blocks.specs.declared.body.Holder.{Holder}
use Rattle.access_blocks.specs.declared.body.Statement.{Statement}
use Rattle.access_blocks.specs.declared.body.Statement.TheOpen.{Statement-F}
use Rattle.access_blocks.specs.declared.body.Statement.TheOpen as s
use Rattle.access_blocks.specs.declared.body.Statement.TheFolds.{fold-Statement}
use Rattle.access_blocks.specs.declared.halt.Halt.{Halt}
use Rattle.access_blocks.specs.Expressions.{Calls, outcome_of}
use Rattle.access_blocks.specs.Statements.{Field, Machine, Completion, Normal, Breaks, Continues, Returns, Halts, Completed, seen_by, part_of, changed_field, meaning}
use Rattle.body_code.specs.Early.{is_in}
use Rattle.body_code.specs.StatementCode.{Place, Exits, Scope, piece_of}
use Rattle.body_code.specs.Checking.{Surroundings, Standing, Around, has_key, checked}
use Rattle.code_meaning.specs.Laid.{IsSizedPiece, IsLaid, frame, Leads, EndsSo, Stops}
use Rattle.code_meaning.specs.Evaluating.{AreOf, HasSame, CallsAgree, HasKey, GathersSame}

-- ---- what a run stands on

-- The code and its setting, and beside them the source: what the body stands in, its calls, and the field whose part is the state
-- of the code, where there is one; which instance; and the fields as the run began. A frame has so many variables, and no more
-- turns than these.
pub record Ground : Type 0 where
  pub around : Surroundings
  pub graph : List GraphField
  pub calls : Calls
  pub setting : Setting
  pub code : List Instr
  pub site : Option ℕ
  pub instance : ℕ
  pub fields : List Field
  pub many : ℕ
  pub most : ℕ

abbrev pub scope_on : Ground → Scope
scope_on g = record { fields = g.graph; context = g.around.context }

-- a field of the class in the graph: of the same class, and the only one of its name
pub record FieldAgrees (graph : List GraphField) (field : ℕ) (h : Holder) : Type 0 where
  pub named : GraphField
  pub is_named : slice_get graph field ≡ Some named
  pub same_class : named.class ≡ h.class
  pub only : field_named named.name graph ≡ Some named

pub record SiteAgrees (g : Ground) (field : ℕ) : Type 0 where
  pub holder : Holder
  pub is_holder : slice_get g.around.fields field ≡ Some holder
  pub named : FieldAgrees g.graph field holder
  pub own : g.setting.field ≡ Some (named.named).name
  pub old : Field
  pub is_old : slice_get g.fields field ≡ Some old
  pub part : State
  pub is_part : part_of (Some old) g.instance ≡ Some part

pub record IsGround (g : Ground) : Type 0 where
  pub same_fields : g.setting.fields ≡ g.graph
  pub calls_agree : CallsAgree g.around.context.methods g.setting.methods g.calls g.setting.calls g.most
  pub room : length g.around.context.variables ≤ g.many
  pub site_agrees : (field : ℕ) → g.site ≡ Some field → SiteAgrees g field

-- ---- agreement

-- the fields with another state in the part that is the site's
abbrev pub fields_with : Option ℕ → ℕ → State → List Field → List Field
fields_with None instance state fields = fields
fields_with (Some field) instance state fields = changed_field (slice_get fields field) field state fields instance

-- The state of the code is the part of the field, and all other parts are as they were.
pub record FieldsAgree (g : Ground) (state : State) (m : Machine) : Type 0 where
  pub same_fields : m.fields ≡ fields_with g.site g.instance state g.fields
  pub same_instance : m.instance ≡ g.instance
  pub of_class : (field : ℕ) (h : Holder) → g.site ≡ Some field → slice_get g.around.fields field ≡ Some h → class_of state ≡ h.class

-- What holds in the second holds in the first.
pub record Below (a b : Standing) : Type 0 where
  pub known : (v : ℕ) → is_in v b.known ≡ true → is_in v a.known ≡ true
  pub field : (f : ℕ) → b.field ≡ Some f → a.field ≡ Some f
  pub gathered : (t : ValueType) → b.gathered ≡ Some t → a.gathered ≡ Some t

-- variables and a state of the code, and a machine of the source, where this holds
pub record Agrees (g : Ground) (st : Standing) (variables : List Val) (state : State) (m : Machine) : Type 0 where
  pub known : (v : ℕ) → is_in v st.known ≡ true → HasSame g.around.context variables m.variables v
  pub room : length variables ≡ g.many
  pub room_there : length g.around.context.variables ≤ length m.variables
  pub few : m.turns ≤ g.most
  pub gathers : GathersSame g.around.context g.setting (seen_by m)
  pub gathered : (t : ValueType) → st.gathered ≡ Some t → AreOf t m.gathered
  pub key : has_key g.around st.field ≡ true → HasKey g.setting.key m.key
  pub at_site : (field : ℕ) → st.field ≡ Some field → g.site ≡ Some field
  pub fields : FieldsAgree g state m

-- ---- how a run goes on

-- to a place, with an empty stack, where this holds
pub record GoesTo (g : Ground) (size : ℕ) (f : Frame) (state : State) (to : ℕ) (need : Standing) (m : Machine) : Type 0 where
  pub variables : List Val
  pub next : State
  pub leads : Leads g.setting g.code size f state (frame to [] variables m.turns) next
  pub agrees : Agrees g need variables next m

-- to where the loop around goes on
pub record Leaves (g : Ground) (size : ℕ) (f : Frame) (state : State) (loop : Around) (to : ℕ) (m : Machine) : Type 0 where
  pub need : Standing
  pub in_loop : loop ≡ Some need
  pub goes : GoesTo g size f state to need m

pub record EndsWith (g : Ground) (size : ℕ) (f : Frame) (state : State) (v : Val) (m : Machine) : Type 0 where
  pub last : Frame
  pub next : State
  pub ends : EndsSo g.setting g.code size f state (Returned v) last next
  pub turns : last.turns ≡ m.turns
  pub falls : m.turns ≤ f.turns
  pub fields : FieldsAgree g next m
  pub of_result : values.type_of v ≡ g.around.result

pub record StopsBy (g : Ground) (size : ℕ) (f : Frame) (state : State) (h : Halt) (m : Machine) : Type 0 where
  pub next : State
  pub stops : Stops g.setting g.code size f state (outcome_of h) next
  pub fields : FieldsAgree g next m

abbrev pub CompletesBy : (g : Ground) → Around → Exits → ℕ → Frame → State → ℕ → Standing → Machine → Completion → Type 0
CompletesBy g loop exits size f state to end m Normal = GoesTo g size f state to end m
CompletesBy g loop exits size f state to end m Breaks = Leaves g size f state loop exits.break_to m
CompletesBy g loop exits size f state to end m Continues = Leaves g size f state loop exits.continue_to m
CompletesBy g loop exits size f state to end m (Returns v) = EndsWith g size f state v m
CompletesBy g loop exits size f state to end m (Halts h) = StopsBy g size f state h m

pub record Completes (g : Ground) (loop : Around) (exits : Exits) (size : ℕ) (f : Frame) (state : State) (to : ℕ) (end : Standing) (c : Completed) : Type 0 where
  pub does : CompletesBy g loop exits size f state to end c.machine c.completion

-- ---- statements without marks

abbrev pub in_second : Option Bool → Bool
in_second None = true
in_second (Some b) = b

abbrev pub all_plain : List Bool → Bool
all_plain [] = true
all_plain (b ∷ bs) = b && all_plain bs

abbrev pub plain_step : Statement-F Bool → Bool
plain_step (s.Gather g) = false
plain_step (s.Marked mark body) = false
plain_step (s.Opened body) = body
plain_step (s.Block items) = all_plain items
plain_step (s.If test first second) = first && in_second second
plain_step (s.Loop start test update body) = all_plain start && (body && all_plain update)
plain_step _ = true

-- No block begins in it, and none of the fields' instances are visited.
abbrev pub is_plain : Statement → Bool
is_plain = fold-Statement Bool plain_step

abbrev pub StatementsAreAsLong : Type 0
StatementsAreAsLong = (scope : Scope) (x : Statement) → IsSizedPiece (piece_of scope x)

abbrev pub PlainStatementsDoWhatTheyMean : Type 0
PlainStatementsDoWhatTheyMean =
    (g : Ground) → IsGround g → (x : Statement) → is_plain x ≡ true
    → (loop : Around) (st end : Standing) (p : Place) (exits : Exits) → checked g.around x loop st ≡ Some end → IsLaid g.code p.at ((piece_of (scope_on g) x).from p exits)
    → (variables : List Val) (state : State) (m : Machine) → Agrees g st variables state m
    → Completes g loop exits (piece_of (scope_on g) x).size (frame p.at [] variables m.turns) state (p.at + (piece_of (scope_on g) x).size) end (meaning g.calls x m)
