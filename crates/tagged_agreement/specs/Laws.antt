-- What holds of every history of a machine that does what its program does.
use Rattle.std.specs.Prelude.{◌≡◌, ◌≢◌, ℕ, ◌+◌, ◌*◌, ◌<◌, ◌≤◌, List, [], ◌∷◌, ◌++◌, length, map, take, Option, Some, None, slice_get}
use Rattle.std.specs.List.{AllByRecursion}
use Rattle.sdg_base.specs.declared.val.Outcome.{Outcome}
use Rattle.sdg_base.specs.declared.call.Call.{Call}
use Rattle.sdg_base.specs.declared.call.Step.TheVariants as step
use Rattle.sdg_base.specs.declared.port.Port.{Port}
use Rattle.sdg_base.specs.declared.port.Port.TheVariants as port
use Rattle.sdg_base.specs.declared.item.Item.{Item}
use Rattle.sdg_base.specs.declared.item.Item.TheVariants as item
use Rattle.tagged_agreement.specs.Machine.{Machine, Taken, Progress, progress_after, cell_after, call_of}
use Rattle.tagged_agreement.specs.History.{Setup, Happening, Took, Grew, Now, Follows, port_at_start, now_of, IsCell, most_wide, HappensAfter, IsHistory, entries_of, steps_of}
use Rattle.tagged_agreement.specs.Source.{AtMark, Visiting, Program, Source, nth, step_of, source, outcome}
use Rattle.tagged_agreement.specs.Simulation.{Reading, Simulates}

-- ---- cells and their entries

-- A cell is what its own entries make of it, whatever else happened between them.
abbrev pub CellsAreTheirEntries : (State : Type 0) → Type 0
CellsAreTheirEntries State = (s : Setup State) (hist : List Happening) (p : Port) → (now_of s hist).cells p ≡ cell_after s.machine (entries_of p hist) (port_at_start s p)

-- A history that gains a happening that follows stays one.
abbrev pub HistoriesGrow : (State : Type 0) → Type 0
HistoriesGrow State = (s : Setup State) (hist : List Happening) (h : Happening) → IsHistory s hist → HappensAfter s (now_of s hist) h → IsHistory s (hist ++ h ∷ [])

-- the entry of a cell that takes the next item of a channel
abbrev pub next_entry : {State : Type 0} → Now State → (cell from : Port) → (pick at : ℕ) → Item → Taken
next_entry now cell from pick at x =
    record { cell = cell; from = from; number = (now.cells cell).took from + 1; pick = pick; growths = now.growths; step = at; widths = now.widths; item = x }

-- Whatever a cell can take it may take, with any pick; what was given stays given; and no cell took more than it was given.
pub record ItemsAreTaken (State : Type 0) : Type 0 where
  pub takes : (now : Now State) (cell from : Port) (pick at : ℕ) (x : Item) → IsCell now.widths cell → slice_get ((now.cells from).gave cell) ((now.cells cell).took from) ≡ Some x
      → Follows now (next_entry now cell from pick at x)
  pub stays : (s : Setup State) (hist late : List Happening) (from to : Port) (index : ℕ) (x : Item) → slice_get (((now_of s hist).cells from).gave to) index ≡ Some x
      → slice_get (((now_of s (hist ++ late)).cells from).gave to) index ≡ Some x
  pub bounded : (s : Setup State) (hist : List Happening) → IsHistory s hist → (from to : Port) → ((now_of s hist).cells to).took from ≤ length (((now_of s hist).cells from).gave to)

-- whether a happening is no entry of this cell
abbrev pub IsElsewhere : Port → Happening → Type 0
IsElsewhere p (Took e) = e.cell ≢ p
IsElsewhere p (Grew number field at) = Unit {0}

-- An entry that becomes known late stands in front of what other cells did since: it follows there, and what they did follows from it too.
abbrev pub LateEntriesFollow : (State : Type 0) → Type 0
LateEntriesFollow State =
    (s : Setup State) (early late : List Happening) (e : Taken) → IsHistory s (early ++ late) → Follows (now_of s early) e → AllByRecursion (IsElsewhere e.cell) late
    → IsHistory s (early ++ Took e ∷ late)

-- A cell after so many of its entries is at that position, and the next entry brings it one further.
pub record CellsAreReplayed (State : Type 0) : Type 0 where
  pub position : (m : Machine State) (entries : List Taken) (now : Progress State) → (cell_after m entries now).position ≡ now.position + length entries
  pub next : (m : Machine State) (entries : List Taken) (now : Progress State) (n : ℕ) (e : Taken) → slice_get entries n ≡ Some e
      → cell_after m (take (n + 1) entries) now ≡ progress_after m e (cell_after m (take n entries) now)

-- what a cell is that has come as far as its position
abbrev pub held_at : {State : Type 0} → Setup State → List Happening → (Port → ℕ) → Port → Progress State
held_at s hist position p = cell_after s.machine (take (position p) (entries_of p hist)) (port_at_start s p)

-- Some cells are behind their entries. The earliest entry that is not replayed finds its item, as its number says.
abbrev pub ReplayFindsItems : (State : Type 0) → Type 0
ReplayFindsItems State =
    (s : Setup State) (early late : List Happening) (e : Taken) (position : Port → ℕ) → IsHistory s (early ++ Took e ∷ late)
    → ((p : Port) → length (entries_of p early) ≤ position p) → position e.cell ≡ length (entries_of e.cell early)
    → (e.number ≡ (held_at s (early ++ Took e ∷ late) position e.cell).took e.from + 1)
    × (slice_get ((held_at s (early ++ Took e ∷ late) position e.from).gave e.cell) ((held_at s (early ++ Took e ∷ late) position e.cell).took e.from) ≡ Some e.item)

-- ---- numbers

-- what a log says of a happening: numbers, and neither an item nor widths
pub data Note : Type 0 where
  OfEntry : (cell from : Port) (number pick growths step : ℕ) → Note
  OfGrowth : (number field step : ℕ) → Note

abbrev pub note : Happening → Note
note (Took e) = OfEntry e.cell e.from e.number e.pick e.growths e.step
note (Grew number field at) = OfGrowth number field at

-- The notes determine the history.
abbrev pub NotesDetermine : (State : Type 0) → Type 0
NotesDetermine State = (s : Setup State) (hist other : List Happening) → IsHistory s hist → IsHistory s other → map note hist ≡ map note other → hist ≡ other

-- ---- relations as the pairs that are in them

pub record Links (Waiting Link : Type 0) : Type 0 where
  pub item_of : Link → Item
  pub waiting_of : Link → Waiting

abbrev pub AreLinked : {Waiting Link : Type 0} → Links Waiting Link → Item → Waiting → Type 0
AreLinked {Link = Link} l x w = (k : Link) × (l.item_of k ≡ x) × (l.waiting_of k ≡ w)

-- ---- results

-- the item of this index, from 0, that a port gave to the sink
abbrev pub IsGiven : {State : Type 0} → Setup State → List Happening → Port → ℕ → Item → Type 0
IsGiven s hist from index x = slice_get (((now_of s hist).cells from).gave port.Sink) index ≡ Some x

-- It is the end of a call, as the source ends it.
pub record IsOutcome {Waiting Fields : Type 0} (end : Source Waiting Fields) (x : Item) : Type 0 where
  pub call : ℕ
  pub how : Outcome
  pub is_end : x ≡ item.Done call how
  pub outcome : outcome end call ≡ Some how

-- The steps shown are legal for the source, and whatever the sink is given is an outcome of theirs.
pub record Explained {State Waiting Fields : Type 0} (s : Setup State) (p : Program Waiting Fields) (hist : List Happening) : Type 0 where
  pub end : Source Waiting Fields
  pub legal : source p s.calls (steps_of s hist) ≡ Some end
  pub gives : (from : Port) (index : ℕ) (x : Item) → IsGiven s hist from index x → IsOutcome end x

abbrev pub EveryHistoryIsExplained : (State Waiting Fields Contents Link : Type 0) → Type 0
EveryHistoryIsExplained State Waiting Fields Contents Link =
    (s : Setup State) (p : Program Waiting Fields) (r : Reading State Fields Contents) (l : Links Waiting Link) (hist : List Happening)
    → Simulates s p r (AreLinked l) → IsHistory s hist → Explained s p hist

-- The sink is given one result of a call at most: two of them are the same item of the same channel.
abbrev pub EveryCallEndsOnce : (State Waiting Fields Contents Link : Type 0) → Type 0
EveryCallEndsOnce State Waiting Fields Contents Link =
    (s : Setup State) (p : Program Waiting Fields) (r : Reading State Fields Contents) (l : Links Waiting Link) (hist : List Happening)
    → Simulates s p r (AreLinked l) → IsHistory s hist
    → (one other : Port) (i j : ℕ) (x y : Item) → IsGiven s hist one i x → IsGiven s hist other j y → call_of x ≡ call_of y → (one ≡ other) × (i ≡ j) × (x ≡ y)

-- ---- completeness

-- no cell has an item that it could take
abbrev pub NothingIsLeft : {State : Type 0} → Now State → Type 0
NothingIsLeft now = (from to : Port) → IsCell now.widths to → slice_get ((now.cells from).gave to) ((now.cells to).took from) ≡ None

pub record HasResult {State : Type 0} (s : Setup State) (hist : List Happening) (c : ℕ) : Type 0 where
  pub from : Port
  pub index : ℕ
  pub how : Outcome
  pub given : IsGiven s hist from index (item.Done c how)

-- Where nothing is left to take, every call has its result.
abbrev pub EveryCallEnds : (State Waiting Fields Contents Link : Type 0) → Type 0
EveryCallEnds State Waiting Fields Contents Link =
    (s : Setup State) (p : Program Waiting Fields) (r : Reading State Fields Contents) (l : Links Waiting Link) (hist : List Happening)
    → Simulates s p r (AreLinked l) → IsHistory s hist → NothingIsLeft (now_of s hist)
    → (c : ℕ) (call : Call) → nth s.calls c ≡ Some call → HasResult s hist c

-- ---- how long a history can be

-- A measure of what waits at a mark, as the turns that are left: it falls from mark to mark, and is below so much at the first.
pub record Falls {Waiting Fields : Type 0} (p : Program Waiting Fields) (left : Waiting → ℕ) (most : ℕ) : Type 0 where
  pub begun : (call : Call) (w : Waiting) → p.begun call ≡ AtMark w → left w < most
  pub block : (w : Waiting) (instance : Option ℕ) (fields : Fields) (v : Waiting) → (p.block w instance fields).0 ≡ AtMark v → left v < left w
  pub joined : (w : Waiting) (outcomes : List Outcome) (v : Waiting) → p.joined w outcomes ≡ AtMark v → left v < left w

abbrev pub entries_in : List Happening → ℕ
entries_in [] = 0
entries_in (Took e ∷ hist) = entries_in hist + 1
entries_in (Grew number field at ∷ hist) = entries_in hist

-- A call has a beginning, and for each mark at most one block, or a visit and a part for each of the instances.
abbrev pub HistoriesAreShort : (State Waiting Fields Contents Link : Type 0) → Type 0
HistoriesAreShort State Waiting Fields Contents Link =
    (s : Setup State) (p : Program Waiting Fields) (r : Reading State Fields Contents) (l : Links Waiting Link) (left : Waiting → ℕ) (most : ℕ) (hist : List Happening)
    → Simulates s p r (AreLinked l) → Falls p left most → s.width ≤ most_wide → IsHistory s hist
    → entries_in hist ≤ length s.calls * (1 + 2 * most_wide * most)

-- ---- visits

-- an instance that a call may visit: one of those that there were when it came to the mark, and not visited yet
pub record MayVisit {Waiting Fields : Type 0} (now : Source Waiting Fields) (c number : ℕ) : Type 0 where
  pub waiting : Waiting
  pub visited : List (Option Outcome)
  pub visits : nth now.calls c ≡ Some (Visiting waiting visited)
  pub below : number < length visited
  pub unmade : slice_get visited number ≡ Some None

-- Each visit is of such an instance, and a growth adds none to them: it changes no call.
pub record VisitsAreOfTheNoted (Waiting Fields : Type 0) : Type 0 where
  pub visit : (p : Program Waiting Fields) (calls : List Call) (now next : Source Waiting Fields) (c number : ℕ) → step_of p calls now (step.Visit c number) ≡ Some next → MayVisit now c number
  pub growth : (p : Program Waiting Fields) (calls : List Call) (now next : Source Waiting Fields) (field : ℕ) → step_of p calls now (step.Grow field) ≡ Some next → next.calls ≡ now.calls
