-- What joins one step of the annotated source and one item that a cell takes.
use Rattle.std.specs.Prelude.{◌≡◌, ◌≢◌, ℕ, ◌+◌, ◌<◌, ℤ, List, [], ◌∷◌, length, map, Option, Some, None, slice_get}
use Rattle.sdg_base.specs.declared.val.Val.{Val}
use Rattle.sdg_base.specs.declared.call.Call.{Call}
use Rattle.sdg_base.specs.declared.port.Port.{Port}
use Rattle.sdg_base.specs.declared.port.Port.TheVariants as port
use Rattle.sdg_base.specs.declared.item.Item.{Item}
use Rattle.sdg_base.specs.declared.item.Item.TheVariants as item
use Rattle.java_tree.specs.declared.tree.Class.{Class}
use Rattle.java_tree.specs.declared.tree.BlockItem.{BlockItem}
use Rattle.early_tables.specs.Entries.{Entries}
use Rattle.early_tables.specs.Contents.{entry_at}
use Rattle.early_tables.specs.States.{State, Nothing, OfTable}
use Rattle.early_source.specs.Variables.{Variables, Tables}
use Rattle.early_source.specs.Members.{fields, methods}
use Rattle.early_source.specs.Blocks.{Place, run_block}
use Rattle.early_source.specs.Source.{CallState, Fresh, At, Ended, begun, state_of}
use Rattle.placement.specs.Slots.{slot}
use Rattle.early_task_code.specs.declared.graph.Graph.{Graph}
use Rattle.early_task_code.specs.Machine.{Runs, runs}
use Rattle.cluster.specs.History.{call_of}

-- ---- tables by the number of their field, and by key

abbrev pub entries_in : Option (List ℕ × Entries) → Entries
entries_in None = []
entries_in (Some table) = table.1

abbrev pub entry_in : Tables → ℕ → ℤ → Option ℤ
entry_in tables field key = entry_at key (entries_in (slice_get tables field))

-- the fields that tables are of
abbrev pub field_names : Tables → List (List ℕ)
field_names tables = map (λ table. table.0) tables

-- the tables of the same fields, that differ at one key of one field at most
pub record ChangesAt (field : ℕ) (key : ℤ) (old new : Tables) : Type 0 where
  pub same_fields : field_names new ≡ field_names old
  pub others : (other : ℕ) (k : ℤ) → (other ≡ field → k ≡ key → ⊥) → entry_in new other k ≡ entry_in old other k

-- ---- how much is left of a call

-- more than the number of blocks that a call can still run
abbrev pub left : CallState → ℕ
left Fresh = 100001
left (At rest variables turns key) = turns + 1
left (Ended outcome) = 0

-- ---- one step

-- An item gives one item, for the same call, which agrees with what the call has come to.
pub record Gives (Agrees : Port → Item → CallState → Type 0) (call : ℕ) (given : Runs) (state : State) (next : CallState) : Type 0 where
  pub to : Port
  pub output : Item
  pub gives : given ≡ Some (record { outputs = (to, output) ∷ []; state = state })
  pub of_call : call_of output ≡ call
  pub agrees : Agrees to output next

-- A call begins, in the source and in the cell that begins calls. No table changes.
pub record Begins (class : Class) (graph : Graph) (slots : ℕ) (Agrees : Port → Item → CallState → Type 0) (n : ℕ) (call : Call) (tables : Tables) : Type 0 where
  pub place : Place
  pub source : begun class (slice_get (methods class) call.method) call.args tables ≡ Some (place, tables)
  pub gives : Gives Agrees n (runs graph slots port.Front (item.Start n call.method call.args) Nothing) Nothing (state_of place)
  pub fewer : left (state_of place) < left Fresh

-- A call runs a block, in the source and in a slot whose entries agree with the field's table at the key. Both change at the key alone, and agree there.
pub record Continues (class : Class) (graph : Graph) (slots : ℕ) (Agrees : Port → Item → CallState → Type 0) (field at : ℕ) (key : ℤ) (x : Item) (rest : List BlockItem) (variables : Variables) (turns : ℕ) (carried : Val) (tables : Tables) (entries : Entries) : Type 0 where
  pub place : Place
  pub after : Tables
  pub entries_after : Entries
  pub source : run_block (fields class) rest variables turns carried tables ≡ Some (place, after)
  pub gives : Gives Agrees (call_of x) (runs graph slots (port.Slot field at) x (OfTable entries)) (OfTable entries_after) (state_of place)
  pub same : entry_at key entries_after ≡ entry_in after field key
  pub other_entries : (k : ℤ) → k ≢ key → entry_at k entries_after ≡ entry_at k entries
  pub other_tables : ChangesAt field key tables after
  pub fewer : left (state_of place) < left (At rest variables turns carried)

-- which items agree with which states: a start with a fresh call, work for the slot of its key with a call at a mark, and a result with a call that
-- ended so
abbrev pub Fitting : Class → ℕ → Port → Item → CallState → Type 0
Fitting class slots port.Front (item.Start n method args) Fresh = Unit {0}
Fitting class slots (port.Slot field at) (item.Work n t (Some key) turns vars) (At rest variables turns' carried) = (field < length (fields class)) × (at ≡ slot key slots)
Fitting class slots port.Sink (item.Done n outcome) (Ended outcome') = outcome ≡ outcome'
Fitting class slots to x state = ⊥

-- The graph does what the source does, one step at a time, for calls that fit.
pub record Simulation (class : Class) (graph : Graph) (slots : ℕ) (Fits : Call → Type 0) (Agrees : Port → Item → CallState → Type 0) : Type 0 where
  pub as_many : length graph.fields ≡ length (fields class)
  pub fitting : (to : Port) (x : Item) (state : CallState) → Agrees to x state → Fitting class slots to x state
  pub fresh : (n : ℕ) (call : Call) → Fits call → Agrees port.Front (item.Start n call.method call.args) Fresh
  pub begins : (n : ℕ) (call : Call) (tables : Tables) → Fits call → Begins class graph slots Agrees n call tables
  pub continues : (field at n t : ℕ) (key : ℤ) (turns : ℕ) (vars : List Val) (rest : List BlockItem) (variables : Variables) (turns' : ℕ) (carried : Val) (tables : Tables) (entries : Entries)
      → Agrees (port.Slot field at) (item.Work n t (Some key) turns vars) (At rest variables turns' carried)
      → field_names tables ≡ fields class
      → entry_at key entries ≡ entry_in tables field key
      → Continues class graph slots Agrees field at key (item.Work n t (Some key) turns vars) rest variables turns' carried tables entries
