-- What holds of cells and of the source that is stepped along with them: each call stands in one place, as the item there says.
use Rattle.std.proofs.Common.{◌≡◌, ℕ, ◌<◌, ◌≤◌, ℤ, List, length, Option, Some, slice_get}
use Rattle.sdg_base.specs.declared.call.Call.{Call}
use Rattle.sdg_base.specs.declared.port.Port.{Port}
use Rattle.sdg_base.specs.declared.port.Port.TheVariants as port
use Rattle.sdg_base.specs.declared.item.Item.{Item}
use Rattle.sdg_base.specs.declared.item.Item.TheVariants as item
use Rattle.java_tree.specs.declared.tree.Class.{Class}
use Rattle.early_tables.specs.Entries.{Entries}
use Rattle.early_tables.specs.Contents.{entry_at}
use Rattle.early_tables.specs.States.{Nothing, OfTable}
use Rattle.early_source.specs.Members.{fields}
use Rattle.early_source.specs.Source.{CallState, Source, nth}
use Rattle.placement.specs.Slots.{slot}
use Rattle.early_task_code.specs.Progress.{Progress}
use Rattle.cluster.specs.History.{given_at_start, call_of}
use Rattle.agreement.specs.Simulation.{entry_in, field_names}

-- a place in a channel, from 0
pub record Spot : Type 0 where
  pub from : Port
  pub to : Port
  pub index : ℕ

abbrev pub item_at : (Port → Progress) → Spot → Option Item
item_at cells spot = slice_get ((cells spot.from).gave spot.to) spot.index

-- it was not taken
abbrev pub IsAhead : (Port → Progress) → Spot → Type 0
IsAhead cells spot = (cells spot.to).took spot.from ≤ spot.index

-- what the cell that begins calls is given are the calls
abbrev pub IsStart : List Call → Port → Item → Type 0
IsStart calls port.Front x = (call : Call) × (nth calls (call_of x) ≡ Some call) × (x ≡ item.Start (call_of x) call.method call.args)
IsStart calls to x = Unit {0}

-- an item that was not taken: its call stands there, and its state agrees with it
pub record InFlight (calls : List Call) (Agrees : Port → Item → CallState → Type 0) (now : Source) (place : ℕ → Spot) (spot : Spot) (x : Item) : Type 0 where
  pub placed : place (call_of x) ≡ spot
  pub state : CallState
  pub is_state : nth now.calls (call_of x) ≡ Some state
  pub agrees : Agrees spot.to x state
  pub start : IsStart calls spot.to x

-- one of the cells that a call passes through: the cell that begins calls, or a slot of a field
abbrev pub IsIn : Class → ℕ → Port → Type 0
IsIn class slots port.Front = Unit {0}
IsIn class slots (port.Slot field at) = (field < length (fields class)) × (at < slots)
IsIn class slots p = ⊥

abbrev pub IsSender : Class → ℕ → Port → Type 0
IsSender class slots port.Caller = Unit {0}
IsSender class slots p = IsIn class slots p

-- the caller gives to the cell that begins calls alone, and the sink takes from cells alone
abbrev pub IsReceiver : Class → ℕ → Port → Port → Type 0
IsReceiver class slots from port.Sink = IsIn class slots from
IsReceiver class slots from p = IsIn class slots p

-- a call is somewhere
pub record Present (class : Class) (slots : ℕ) (cells : Port → Progress) (spot : Spot) (c : ℕ) : Type 0 where
  pub it : Item
  pub is_item : item_at cells spot ≡ Some it
  pub of_call : call_of it ≡ c
  pub ahead : IsAhead cells spot
  pub sender : IsSender class slots spot.from
  pub receiver : IsReceiver class slots spot.from spot.to

-- the slot of a key has the table's entry of that key
pub record SameEntry (cells : Port → Progress) (slots : ℕ) (now : Source) (field : ℕ) (key : ℤ) : Type 0 where
  pub entries : Entries
  pub held : (cells (port.Slot field (slot key slots))).state ≡ OfTable entries
  pub same : entry_at key entries ≡ entry_in now.tables field key

pub record Agreement (class : Class) (calls : List Call) (slots : ℕ) (Agrees : Port → Item → CallState → Type 0) (cells : Port → Progress) (now : Source) (place : ℕ → Spot) : Type 0 where
  pub tables : (field : ℕ) (key : ℤ) → SameEntry cells slots now field key
  pub front : (cells port.Front).state ≡ Nothing
  pub caller : (cells port.Caller).gave ≡ given_at_start calls port.Caller
  pub sink : (from : Port) → (cells port.Sink).took from ≡ 0
  pub bounded : (from to : Port) → (cells to).took from ≤ length ((cells from).gave to)
  pub same_fields : field_names now.tables ≡ fields class
  pub as_many : length now.calls ≡ length calls
  pub flight : (spot : Spot) (x : Item) → IsAhead cells spot → item_at cells spot ≡ Some x → InFlight calls Agrees now place spot x
  pub present : (c : ℕ) (call : Call) → nth calls c ≡ Some call → Present class slots cells (place c) c
