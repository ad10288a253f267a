-- What joins one step of the annotated source and one item that a cell takes.
use Rattle.std.specs.Prelude.{◌≡◌, ◌≢◌, ℕ, ℤ, ◌<◌, ◌≤◌, List, length, Option, Some, None, slice_get, Bool, true}
use Rattle.sdg_base.specs.declared.val.Outcome.{Outcome}
use Rattle.sdg_base.specs.declared.call.Call.{Call}
use Rattle.sdg_base.specs.declared.port.Port.{Port}
use Rattle.sdg_base.specs.declared.port.Port.TheVariants as port
use Rattle.sdg_base.specs.declared.item.Item.{Item}
use Rattle.sdg_base.specs.declared.item.Item.TheVariants as item
use Rattle.tagged_agreement.specs.Machine.{Out, Send, Broadcast, ToJoin, Result, Wait, Ran, Parts}
use Rattle.tagged_agreement.specs.History.{Setup, wider, IsCell}
use Rattle.tagged_agreement.specs.Source.{Site, Keyed, Local, Global, Next, AtMark, AtEnd, Program, nth, all_there}

-- ---- fields, a piece at a time

-- what one key of a field has, or one instance
pub data Piece : Type 0 where
  OfKey : (field : ℕ) (key : ℤ) → Piece
  OfInstance : (field number : ℕ) → Piece

-- the cell that holds it
abbrev pub port_of : {State : Type 0} → Setup State → Piece → Port
port_of s (OfKey field key) = port.Slot field (s.slot_of key)
port_of s (OfInstance field number) = port.Inst field number

-- the instance that a step says
abbrev pub instance_of : Piece → Option ℕ
instance_of (OfKey field key) = None
instance_of (OfInstance field number) = Some number

-- A call at a keyed site runs on that key, and one at a local site on some instance.
abbrev pub IsOn : Site → Piece → Type 0
IsOn (Keyed field key) (OfKey own k) = (own ≡ field) × (k ≡ key)
IsOn (Local field) (OfInstance own number) = own ≡ field
IsOn _ _ = ⊥

-- What a piece holds, in a cell's state and in the source's fields. An instance that isn't there reads as an empty one. And whether a state is of the
-- kind that a port's cell holds, and fields are those of the class.
pub record Reading (State Fields Contents : Type 0) : Type 0 where
  pub held : State → Piece → Contents
  pub value : Fields → Piece → Contents
  pub is_kind : Port → State → Bool
  pub is_whole : Fields → Bool

-- ---- items by what they are for

abbrev pub IsWork : ℕ → Item → Type 0
IsWork c (item.Work call t key turns vars) = call ≡ c
IsWork c x = ⊥

-- a visit of one of so many instances
abbrev pub IsVisit : (c width : ℕ) → Item → Type 0
IsVisit c width (item.Visit call t w turns vars) = (call ≡ c) × (w ≡ width)
IsVisit c width x = ⊥

-- what one of so many instances answered
abbrev pub IsPart : (c width number : ℕ) → Outcome → Item → Type 0
IsPart c width number outcome (item.Part call t w instance turns vars value) = (call ≡ c) × (w ≡ width) × (instance ≡ number) × (value ≡ outcome)
IsPart c width number outcome x = ⊥

-- ---- one step

pub record Sends {Waiting : Type 0} (Agrees : Item → Waiting → Type 0) (c : ℕ) (out : Out) (w : Waiting) (to : Port) : Type 0 where
  pub item : Item
  pub gives : out ≡ Send to item
  pub work : IsWork c item
  pub agrees : Agrees item w

-- to an instance that there is
pub record SendsToOne {Waiting : Type 0} (Agrees : Item → Waiting → Type 0) (c : ℕ) (out : Out) (w : Waiting) (field width : ℕ) : Type 0 where
  pub number : ℕ
  pub below : number < width
  pub sends : Sends Agrees c out w (port.Inst field number)

-- to each that there is
pub record SendsToEach {Waiting : Type 0} (Agrees : Item → Waiting → Type 0) (c : ℕ) (out : Out) (w : Waiting) (field width : ℕ) : Type 0 where
  pub item : Item
  pub gives : out ≡ Broadcast field width item
  pub visit : IsVisit c width item
  pub agrees : Agrees item w

-- What a cell gives for a call that goes on to a site.
abbrev pub GoesTo : {State Waiting : Type 0} → Setup State → (Item → Waiting → Type 0) → ℕ → (ℕ → ℕ) → Out → Waiting → Site → Type 0
GoesTo s Agrees c widths out w (Keyed field key) = Sends Agrees c out w (port_of s (OfKey field key))
GoesTo s Agrees c widths out w (Local field) = SendsToOne Agrees c out w field (widths field)
GoesTo s Agrees c widths out w (Global field) = SendsToEach Agrees c out w field (widths field)

-- What a cell gives where the source comes to a mark, or to the end.
abbrev pub Answers : {State Waiting Fields : Type 0} → Setup State → Program Waiting Fields → (Item → Waiting → Type 0) → ℕ → (ℕ → ℕ) → Out → Next Waiting → Type 0
Answers s p Agrees c widths out (AtMark w) = GoesTo s Agrees c widths out w (p.site w)
Answers s p Agrees c widths out (AtEnd outcome) = out ≡ Result (item.Done c outcome)

-- A cell's state and the fields change at one piece alone and agree there. The widths and the kinds stay.
pub record ChangesAt {State Waiting Fields Contents : Type 0} (s : Setup State) (p : Program Waiting Fields) (r : Reading State Fields Contents) (piece : Piece) (state state' : State) (fields fields' : Fields) : Type 0 where
  pub same : r.held state' piece ≡ r.value fields' piece
  pub cell_others : (q : Piece) → port_of s q ≡ port_of s piece → q ≢ piece → r.held state' q ≡ r.held state q
  pub field_others : (q : Piece) → q ≢ piece → r.value fields' q ≡ r.value fields q
  pub widths : (field : ℕ) → p.width fields' field ≡ p.width fields field
  pub kind : r.is_kind (port_of s piece) state' ≡ true
  pub whole : r.is_whole fields' ≡ true

-- A part comes to the join: it is what its instance answered, and so is each part that waits there.
pub record Gathers {Waiting : Type 0} (Agrees : Item → Waiting → Type 0) (c : ℕ) (w : Waiting) (visited : List (Option Outcome)) (number : ℕ) (outcome : Outcome) (x : Item) (parts : Parts) : Type 0 where
  pub answered : slice_get visited number ≡ Some (Some outcome)
  pub part : IsPart c (length visited) number outcome x
  pub agrees : Agrees x w
  pub own : parts number ≡ None
  pub others : (i : ℕ) (y : Item) → parts i ≡ Some y → (o : Outcome) × (slice_get visited i ≡ Some (Some o)) × IsPart c (length visited) i o y × Agrees y w

-- a cell that holds no piece sends a call on
pub record GoesOn {State Waiting Fields Contents : Type 0} (s : Setup State) (p : Program Waiting Fields) (r : Reading State Fields Contents) (Agrees : Item → Waiting → Type 0) (c : ℕ) (widths : ℕ → ℕ) (own : Port) (ran : Ran State) (next : Next Waiting) : Type 0 where
  pub answers : Answers s p Agrees c widths ran.out next
  pub kind : r.is_kind own ran.state ≡ true

-- or keeps a part
pub record Keeps {State Fields Contents : Type 0} (r : Reading State Fields Contents) (ran : Ran State) : Type 0 where
  pub waits : ran.out ≡ Wait
  pub kind : r.is_kind port.Join ran.state ≡ true

-- the cell's answer to an item, and the source's step beside it
pub record Blocks {State Waiting Fields Contents : Type 0} (s : Setup State) (p : Program Waiting Fields) (r : Reading State Fields Contents) (Agrees : Item → Waiting → Type 0) (c : ℕ) (w : Waiting) (piece : Piece) (ran : Ran State) (state : State) (fields : Fields) : Type 0 where
  pub answers : Answers s p Agrees c (p.width fields) ran.out (p.block w (instance_of piece) fields).0
  pub changes : ChangesAt s p r piece state ran.state fields (p.block w (instance_of piece) fields).1

pub record Visits {State Waiting Fields Contents : Type 0} (s : Setup State) (p : Program Waiting Fields) (r : Reading State Fields Contents) (Agrees : Item → Waiting → Type 0) (c width : ℕ) (w : Waiting) (field number : ℕ) (ran : Ran State) (state : State) (fields : Fields) : Type 0 where
  pub part : Item
  pub gives : ran.out ≡ ToJoin part
  pub is_part : IsPart c width number (p.visit w number fields).0 part
  pub agrees : Agrees part w
  pub changes : ChangesAt s p r (OfInstance field number) state ran.state fields (p.visit w number fields).1

-- every field has an instance
abbrev pub AreWide : (ℕ → ℕ) → Type 0
AreWide widths = (field : ℕ) → 1 ≤ widths field

-- The machine does what the program does, an item and a step at a time.
pub record Simulates {State Waiting Fields Contents : Type 0} (s : Setup State) (p : Program Waiting Fields) (r : Reading State Fields Contents) (Agrees : Item → Waiting → Type 0) : Type 0 where
  pub some_instance : 1 ≤ s.width
  pub as_wide : (field : ℕ) → p.width p.first field ≡ s.width
  pub same_partial : (field : ℕ) → p.is_partial field ≡ s.is_partial field
  pub starts : (piece : Piece) → r.held (s.machine.first (port_of s piece)) piece ≡ r.value p.first piece
  pub first_kinds : (q : Port) → r.is_kind q (s.machine.first q) ≡ true
  pub first_whole : r.is_whole p.first ≡ true
  pub begins : (c : ℕ) (call : Call) (parts : Parts) (state : State) (pick : ℕ) (widths : ℕ → ℕ) → AreWide widths → r.is_kind port.Front state ≡ true → nth s.calls c ≡ Some call
      → GoesOn s p r Agrees c widths port.Front (s.machine.runs port.Front (item.Start c call.method call.args) parts state pick widths) (p.begun call)
  pub blocks : (c : ℕ) (w : Waiting) (piece : Piece) (x : Item) (parts : Parts) (state : State) (fields : Fields) (pick : ℕ) → AreWide (p.width fields) → IsCell (p.width fields) (port_of s piece)
      → r.is_kind (port_of s piece) state ≡ true → r.is_whole fields ≡ true
      → IsOn (p.site w) piece → IsWork c x → Agrees x w → r.held state piece ≡ r.value fields piece
      → Blocks s p r Agrees c w piece (s.machine.runs (port_of s piece) x parts state pick (p.width fields)) state fields
  pub visits : (c width : ℕ) (w : Waiting) (field number : ℕ) (x : Item) (parts : Parts) (state : State) (fields : Fields) (pick : ℕ) → number < p.width fields field
      → r.is_kind (port.Inst field number) state ≡ true → r.is_whole fields ≡ true
      → p.site w ≡ Global field → number < width → IsVisit c width x → Agrees x w → r.held state (OfInstance field number) ≡ r.value fields (OfInstance field number)
      → Visits s p r Agrees c width w field number (s.machine.runs (port.Inst field number) x parts state pick (p.width fields)) state fields
  pub waits : (c : ℕ) (w : Waiting) (visited : List (Option Outcome)) (number : ℕ) (outcome : Outcome) (x : Item) (parts : Parts) (state : State) (pick : ℕ) (widths : ℕ → ℕ) → r.is_kind port.Join state ≡ true
      → Gathers Agrees c w visited number outcome x parts
      → (i : ℕ) → i < length visited → i ≢ number → parts i ≡ None
      → Keeps r (s.machine.runs port.Join x parts state pick widths)
  pub joins : (c : ℕ) (w : Waiting) (visited : List (Option Outcome)) (number : ℕ) (outcome : Outcome) (x : Item) (parts : Parts) (state : State) (pick : ℕ) (widths : ℕ → ℕ) → AreWide widths → r.is_kind port.Join state ≡ true
      → Gathers Agrees c w visited number outcome x parts
      → ((i : ℕ) → i < length visited → i ≢ number → (y : Item) × (parts i ≡ Some y))
      → (outcomes : List Outcome) → all_there visited ≡ Some outcomes
      → GoesOn s p r Agrees c widths port.Join (s.machine.runs port.Join x parts state pick widths) (p.joined w outcomes)
  pub grows : (field : ℕ) (fields : Fields) (piece : Piece) → r.is_whole fields ≡ true → r.value (p.grown field fields) piece ≡ r.value fields piece
  pub widens : (field : ℕ) (fields : Fields) (f : ℕ) → r.is_whole fields ≡ true → p.width (p.grown field fields) f ≡ wider field (p.width fields) f
  pub whole_still : (field : ℕ) (fields : Fields) → r.is_whole fields ≡ true → r.is_whole (p.grown field fields) ≡ true
