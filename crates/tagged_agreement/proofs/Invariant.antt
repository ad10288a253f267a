-- What holds of cells and of the source that is stepped along with them: each part of a call stands in one place, as the item there says.
use Rattle.std.proofs.Common.{◌≡◌, ℕ, ◌<◌, ◌≤◌, List, length, Option, Some, None, ◌⊎◌, slice_get, true}
use Rattle.sdg_base.specs.declared.val.Outcome.{Outcome}
use Rattle.sdg_base.specs.declared.call.Call.{Call}
use Rattle.sdg_base.specs.declared.port.Port.{Port}
use Rattle.sdg_base.specs.declared.port.Port.TheVariants as port
use Rattle.sdg_base.specs.declared.item.Item.{Item}
use Rattle.sdg_base.specs.declared.item.Item.TheVariants as item
use Rattle.tagged_agreement.specs.Machine.{call_of, part_of, Progress}
use Rattle.tagged_agreement.specs.History.{Setup, IsCell}
use Rattle.tagged_agreement.specs.Source.{Global, CallState, Fresh, At, Visiting, Ended, Program, Source, nth}
use Rattle.tagged_agreement.specs.Simulation.{Piece, port_of, IsOn, Reading, IsWork, IsVisit, IsPart}
use Rattle.tagged_agreement.proofs.Channels.{Place, InChannel, Parked, receiver, Stands, AreBounded}

-- the caller or a cell gives
abbrev pub IsSender : (ℕ → ℕ) → Port → Type 0
IsSender widths port.Caller = Unit {0}
IsSender widths p = IsCell widths p

-- the sink or a cell is given
abbrev pub IsReceiver : (ℕ → ℕ) → Port → Type 0
IsReceiver widths port.Sink = Unit {0}
IsReceiver widths p = IsCell widths p

abbrev pub IsOpen : (ℕ → ℕ) → Place → Type 0
IsOpen widths (InChannel from to index) = IsSender widths from × IsReceiver widths to
IsOpen widths (Parked call number) = Unit {0}

-- what waits at the join waits by its own call and number
abbrev pub IsTagged : Place → Item → Type 0
IsTagged (InChannel from to index) x = Unit {0}
IsTagged (Parked call number) x = (call_of x ≡ call) × (part_of port.Join x ≡ Some number)

abbrev pub IsInChannel : Place → Type 0
IsInChannel (InChannel from to index) = Unit {0}
IsInChannel (Parked call number) = ⊥

-- the parts that a call has: itself as a whole, or one for each instance that it visits
abbrev pub HasPart : {Waiting : Type 0} → CallState Waiting → Option ℕ → Type 0
HasPart (Visiting w visited) part = (number : ℕ) × (part ≡ Some number) × (number < length visited)
HasPart state part = part ≡ None

-- a part of a call is somewhere
pub record Present {State : Type 0} (cells : Port → Progress State) (place : ℕ → Option ℕ → Place) (c : ℕ) (part : Option ℕ) : Type 0 where
  pub it : Item
  pub stands : Stands cells (place c part) it
  pub of_call : call_of it ≡ c
  pub of_part : part_of (receiver (place c part)) it ≡ part

-- one of the instances that a call visits is not gathered yet
pub record Awaits (place : ℕ → Option ℕ → Place) (c : ℕ) (visited : List (Option Outcome)) : Type 0 where
  pub number : ℕ
  pub below : number < length visited
  pub ahead : IsInChannel (place c (Some number))

abbrev pub IsStart : {State : Type 0} → Setup State → ℕ → Item → Type 0
IsStart s c x = (call : Call) × (nth s.calls c ≡ Some call) × (x ≡ item.Start c call.method call.args)

module _ {State Waiting Fields Contents : Type 0} (s : Setup State) (p : Program Waiting Fields) (r : Reading State Fields Contents) (Agrees : Item → Waiting → Type 0) where
  pub record WorkAt (to : Port) (x : Item) (c : ℕ) (w : Waiting) : Type 0 where
    pub piece : Piece
    pub on : IsOn (p.site w) piece
    pub at : to ≡ port_of s piece
    pub work : IsWork c x
    pub agrees : Agrees x w

  pub record VisitAt (to : Port) (x : Item) (c : ℕ) (w : Waiting) (visited : List (Option Outcome)) : Type 0 where
    pub field : ℕ
    pub number : ℕ
    pub site : p.site w ≡ Global field
    pub at : to ≡ port.Inst field number
    pub unmade : slice_get visited number ≡ Some None
    pub visit : IsVisit c (length visited) x
    pub agrees : Agrees x w

  pub record PartAt (to : Port) (x : Item) (c : ℕ) (w : Waiting) (visited : List (Option Outcome)) : Type 0 where
    pub number : ℕ
    pub outcome : Outcome
    pub at : to ≡ port.Join
    pub made : slice_get visited number ≡ Some (Some outcome)
    pub part : IsPart c (length visited) number outcome x
    pub agrees : Agrees x w

  -- an item for a port agrees with the state of its call
  abbrev pub Fits : Port → Item → ℕ → CallState Waiting → Type 0
  Fits to x c Fresh = (to ≡ port.Front) × IsStart s c x
  Fits to x c (At w) = WorkAt to x c w
  Fits to x c (Visiting w visited) = VisitAt to x c w visited ⊎ PartAt to x c w visited
  Fits to x c (Ended outcome) = (to ≡ port.Sink) × (x ≡ item.Done c outcome)

  -- an item stands where its call and part have their place, and agrees with the state of its call
  pub record InPlace (widths : ℕ → ℕ) (src : Source Waiting Fields) (place : ℕ → Option ℕ → Place) (at : Place) (x : Item) : Type 0 where
    pub placed : place (call_of x) (part_of (receiver at) x) ≡ at
    pub tagged : IsTagged at x
    pub is_open : IsOpen widths at
    pub state : CallState Waiting
    pub is_state : nth src.calls (call_of x) ≡ Some state
    pub fits : Fits (receiver at) x (call_of x) state

  pub record Agreement (cells : Port → Progress State) (widths : ℕ → ℕ) (src : Source Waiting Fields) (place : ℕ → Option ℕ → Place) : Type 0 where
    pub values : (piece : Piece) → r.held (cells (port_of s piece)).state piece ≡ r.value src.fields piece
    pub as_wide : p.width src.fields ≡ widths
    pub some : (field : ℕ) → 1 ≤ widths field
    pub kinds : (q : Port) → r.is_kind q (cells q).state ≡ true
    pub whole : r.is_whole src.fields ≡ true
    pub sink : (from : Port) → (cells port.Sink).took from ≡ 0
    pub bounded : AreBounded cells
    pub as_many : length src.calls ≡ length s.calls
    pub items : (at : Place) (x : Item) → Stands cells at x → InPlace widths src place at x
    pub present : (c : ℕ) (state : CallState Waiting) (part : Option ℕ) → nth src.calls c ≡ Some state → HasPart state part → Present cells place c part
    pub awaits : (c : ℕ) (w : Waiting) (visited : List (Option Outcome)) → nth src.calls c ≡ Some (Visiting w visited) → Awaits place c visited
