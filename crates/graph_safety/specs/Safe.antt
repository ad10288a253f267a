-- What it is for an item to go right: it gives one output that fits its receiver, and its turns fall.
use Rattle.std.specs.Prelude.{◌≡◌, ◌≢◌, ℕ, zero, ◌<◌, ◌≤◌, IsTrue, List, [], ◌∷◌, length, Option, Some, None, slice_get}
use Rattle.sdg_base.specs.Limits.{turns_at_start}
use Rattle.sdg_base.specs.declared.val.Outcome.{Outcome}
use Rattle.sdg_base.specs.declared.val.Outcome.TheVariants as outcome
use Rattle.sdg_base.specs.declared.value_type.ValueType.{ValueType}
use Rattle.sdg_base.specs.declared.port.Port.{Port}
use Rattle.sdg_base.specs.declared.port.Port.TheVariants as port
use Rattle.sdg_base.specs.declared.item.Item.{Item}
use Rattle.sdg_base.specs.declared.item.Item.TheVariants as item
use Rattle.state_classes.specs.States.{State, class_of}
use Rattle.flat_code.specs.declared.graph.FieldKind.{FieldKind}
use Rattle.flat_code.specs.declared.graph.FieldKind.TheVariants as field_kind
use Rattle.flat_code.specs.declared.graph.GraphField.{GraphField}
use Rattle.flat_code.specs.declared.graph.GraphMethod.{GraphMethod}
use Rattle.flat_code.specs.declared.graph.Graph.{Graph}
use Rattle.flat_code.specs.Types.{result_by}
use Rattle.flat_code.specs.Items.{Output, Send, Broadcast, Part, Result, Wait, Processed, width_of, with_part, method_of, join_number, runs}
use Rattle.flat_code.specs.Fits.{is_type, fits}
use Rattle.flat_code.specs.Verified.{IsVerified}

-- ---- what an item comes to

abbrev pub IsWidth : ℕ → Type 0
IsWidth n = (0 < n) × (n ≤ 64)

-- how many slots or instances each field has
pub record AreWidths (graph : Graph) (widths : List ℕ) : Type 0 where
  pub one_a_field : length widths ≡ length graph.fields
  pub each : (f n : ℕ) → slice_get widths f ≡ Some n → IsWidth n

abbrev pub IsStateOf : Option GraphField → State → Type 0
IsStateOf None state = ⊥
IsStateOf (Some field) state = class_of state ≡ field.class

-- A slot and an instance have the state of their field. The other cells have none, and what stands in its place is as it may be.
abbrev pub IsStateAt : Graph → Port → State → Type 0
IsStateAt graph (port.Slot f n) state = IsStateOf (slice_get graph.fields f) state
IsStateAt graph (port.Inst f n) state = IsStateOf (slice_get graph.fields f) state
IsStateAt graph _ state = Unit {0}

-- two parts are of one call and one join, and of different instances of as many
abbrev pub AreOfOneJoin : Item → Item → Type 0
AreOfOneJoin (item.Part call t width instance turns vs how) (item.Part c u w i s ws h) = (c ≡ call) × (u ≡ t) × (w ≡ width) × (i ≢ instance)
AreOfOneJoin _ _ = ⊥

abbrev pub IsBeside : Graph → List ℕ → Item → Item → Type 0
IsBeside graph widths part other = IsTrue (fits graph widths port.Join other) × AreOfOneJoin part other

-- the parts of its join that were gathered before a part; no other item has any
abbrev pub ArePartsBeside : Graph → List ℕ → Item → List Item → Type 0
ArePartsBeside graph widths (item.Part call t width instance turns vs how) parts =
    (n : ℕ) (other : Item) → slice_get parts n ≡ Some other → IsBeside graph widths (item.Part call t width instance turns vs how) other
ArePartsBeside graph widths _ parts = parts ≡ []

-- ---- of an item

abbrev pub call_of : Item → ℕ
call_of (item.Start call m args) = call
call_of (item.Work call t key turns vs) = call
call_of (item.Visit call t width turns vs) = call
call_of (item.Part call t width instance turns vs how) = call
call_of (item.Done call how) = call

abbrev pub turns_in : Item → ℕ
turns_in (item.Start call m args) = turns_at_start
turns_in (item.Work call t key turns vs) = turns
turns_in (item.Visit call t width turns vs) = turns
turns_in (item.Part call t width instance turns vs how) = turns
turns_in (item.Done call how) = zero

abbrev pub turns_of_first : List Item → ℕ
turns_of_first [] = zero
turns_of_first (p ∷ ps) = turns_in p

-- the turns that an item starts with: of a join those of the part with the lowest instance
abbrev pub turns_of : Item → List Item → ℕ
turns_of (item.Part call t width instance turns vs how) parts = turns_of_first (with_part (item.Part call t width instance turns vs how) parts)
turns_of x parts = turns_in x

abbrev pub width_in : Item → Option ℕ
width_in (item.Visit call t width turns vs) = Some width
width_in _ = None

-- the method that an item runs
abbrev pub method_for : Graph → Item → Option GraphMethod
method_for graph (item.Start call m args) = slice_get graph.methods m
method_for graph (item.Work call t key turns vs) = method_of graph (slice_get graph.tasks t)
method_for graph (item.Visit call t width turns vs) = method_of graph (slice_get graph.tasks t)
method_for graph (item.Part call t width instance turns vs how) = method_of graph (slice_get graph.tasks t)
method_for graph (item.Done call how) = None

-- A visit gives nothing but parts.
abbrev pub IsNoVisit : Item → Type 0
IsNoVisit (item.Visit call t width turns vs) = ⊥
IsNoVisit _ = Unit {0}

-- ---- of an output

pub record IsFieldOf (graph : Graph) (f : ℕ) (kind : FieldKind) : Type 0 where
  pub of : GraphField
  pub is_field : slice_get graph.fields f ≡ Some of
  pub is_kind : of.kind ≡ kind

-- a slot of a partitioned field, or an instance of a partial one
abbrev pub IsCell : Graph → List ℕ → Port → Type 0
IsCell graph widths (port.Slot f n) = IsFieldOf graph f field_kind.Partitioned × (n < width_of widths f)
IsCell graph widths (port.Inst f n) = IsFieldOf graph f field_kind.Partial × (n < width_of widths f)
IsCell graph widths _ = ⊥

pub record IsSent (graph : Graph) (widths : List ℕ) (from : Item) (turns : ℕ) (to : Port) (x : Item) : Type 0 where
  pub no_visit : IsNoVisit from
  pub cell : IsCell graph widths to
  pub takes : IsTrue (fits graph widths to x)
  pub same_call : call_of x ≡ call_of from
  pub fewer : turns_in x < turns

pub record IsBroadcast (graph : Graph) (widths : List ℕ) (from : Item) (turns f width : ℕ) (x : Item) : Type 0 where
  pub no_visit : IsNoVisit from
  pub of_field : IsFieldOf graph f field_kind.Partial
  pub as_wide : width ≡ width_of widths f
  pub wide : width_in x ≡ Some width
  pub takes : (n : ℕ) → n < width → IsTrue (fits graph widths (port.Inst f n) x)
  pub same_call : call_of x ≡ call_of from
  pub fewer : turns_in x < turns

-- a part is for the join of the visit that it is of
abbrev pub IsForJoin : Graph → Port → Item → Item → Type 0
IsForJoin graph (port.Inst f n) (item.Visit call t width turns vs) (item.Part c join w instance left ws how) =
    (c ≡ call) × (join_number graph t ≡ Some join) × (w ≡ width) × (instance ≡ n) × (left ≤ turns)
IsForJoin graph _ _ _ = ⊥

pub record IsPartOf (graph : Graph) (widths : List ℕ) (at : Port) (from : Item) (part : Item) : Type 0 where
  pub for_join : IsForJoin graph at from part
  pub takes : IsTrue (fits graph widths port.Join part)

abbrev pub result_of : Option GraphMethod → Option ValueType
result_of None = None
result_of (Some m) = Some (result_by m.result)

-- the value of an outcome, where it has one, is of a type
abbrev pub HasType : Option ValueType → Outcome → Type 0
HasType t (outcome.Value v) = IsTrue (is_type t v)
HasType t _ = Unit {0}

abbrev pub IsDone : Graph → Item → Item → Type 0
IsDone graph from (item.Done call how) = (call ≡ call_of from) × HasType (result_of (method_for graph from)) how
IsDone graph from _ = ⊥

pub record IsResult (graph : Graph) (from : Item) (x : Item) : Type 0 where
  pub no_visit : IsNoVisit from
  pub done : IsDone graph from x

-- instances that were visited have not yet brought their parts
abbrev pub IsWaiting : Item → List Item → Type 0
IsWaiting (item.Part call t width instance turns vs how) parts = length (with_part (item.Part call t width instance turns vs how) parts) < width
IsWaiting _ parts = ⊥

-- ---- the whole

abbrev pub OutputFits : Graph → List ℕ → Port → Item → List Item → Output → Type 0
OutputFits graph widths at from parts (Send to x) = IsSent graph widths from (turns_of from parts) to x
OutputFits graph widths at from parts (Broadcast f width x) = IsBroadcast graph widths from (turns_of from parts) f width x
OutputFits graph widths at from parts (Part x) = IsPartOf graph widths at from x
OutputFits graph widths at from parts (Result x) = IsResult graph from x
OutputFits graph widths at from parts Wait = IsWaiting from parts

pub record GoesRight (graph : Graph) (widths : List ℕ) (at : Port) (from : Item) (parts : List Item) (state : State) (pick : ℕ) : Type 0 where
  pub given : Processed
  pub runs : runs graph at from parts state pick widths ≡ Some given
  pub fits : OutputFits graph widths at from parts given.output
  pub class : class_of given.state ≡ class_of state

-- On a verified graph an item that fits goes right.
abbrev pub VerifiedGraphsNeverGoWrong : Type 0
VerifiedGraphsNeverGoWrong =
    (graph : Graph) (widths : List ℕ) (at : Port) (from : Item) (parts : List Item) (state : State) (pick : ℕ)
    → IsVerified graph → AreWidths graph widths → IsTrue (fits graph widths at from) → ArePartsBeside graph widths from parts → IsStateAt graph at state
    → GoesRight graph widths at from parts state pick
