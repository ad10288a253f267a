-- The history of a run: one list of entries and growths, what it makes of every cell, and the steps that are shown of it.
use Rattle.std.specs.Prelude.{◌≡◌, ℕ, ℤ, ◌+◌, ◌<◌, ◌==◌, Bool, true, if◌then◌else◌, List, [], ◌∷◌, ◌++◌, Some, None, slice_get}
use Rattle.sdg_base.specs.declared.call.Call.{Call}
use Rattle.sdg_base.specs.declared.call.Step.{Step}
use Rattle.sdg_base.specs.declared.call.Step.TheVariants as step
use Rattle.sdg_base.specs.declared.port.Port.{Port}
use Rattle.sdg_base.specs.declared.port.Port.TheVariants as port
use Rattle.sdg_base.specs.declared.item.Item.{Item}
use Rattle.sdg_base.specs.declared.item.Item.TheVariants as item
use Rattle.sdg_base.specs.Ports.{same_port}
use Rattle.tagged_agreement.specs.Machine.{Out, Wait, Ignore, Machine, Taken, Progress, call_of, ran_at, progress_after}

-- what a run stands on: the machine, the calls, which fields are partial, how many instances each has at the start, and the slot of a key
pub record Setup (State : Type 0) : Type 0 where
  pub machine : Machine State
  pub calls : List Call
  pub is_partial : ℕ → Bool
  pub width : ℕ
  pub slot_of : ℤ → ℕ

-- What happened, in the order of the step numbers: a cell took an item, or a field grew by an instance. Growths count from 1.
pub data Happening : Type 0 where
  Took : Taken → Happening
  Grew : (number field step : ℕ) → Happening

-- what every port has come to, how many instances each partial field has, and how many growths there were
pub record Now (State : Type 0) : Type 0 where
  pub cells : Port → Progress State
  pub widths : ℕ → ℕ
  pub growths : ℕ

-- ---- at the start

-- call number n is item n of the channel from the caller
abbrev pub starts_from : ℕ → List Call → List Item
starts_from n [] = []
starts_from n (call ∷ calls) = item.Start n call.method call.args ∷ starts_from (n + 1) calls

-- the caller gave its calls, to the cell that begins them
abbrev pub given_at_start : List Call → Port → Port → List Item
given_at_start calls port.Caller port.Front = starts_from 1 calls
given_at_start calls from to = []

abbrev pub port_at_start : {State : Type 0} → Setup State → Port → Progress State
port_at_start s p = record { state = s.machine.first p; gave = λ to. given_at_start s.calls p to; took = λ _. 0; gathered = λ _ _. None; position = 0 }

abbrev pub at_start : {State : Type 0} → Setup State → Now State
at_start s = record { cells = λ p. port_at_start s p; widths = λ _. s.width; growths = 0 }

-- ---- along a history

abbrev pub cell_takes : {State : Type 0} → Machine State → Taken → Port → Progress State → Progress State
cell_takes m e p now = if same_port e.cell p then progress_after m e now else now

abbrev pub wider : ℕ → (ℕ → ℕ) → ℕ → ℕ
wider field widths f = if f == field then widths f + 1 else widths f

abbrev pub after : {State : Type 0} → Setup State → Happening → Now State → Now State
after s (Took e) now = record { cells = λ p. cell_takes s.machine e p (now.cells p); widths = now.widths; growths = now.growths }
after s (Grew number field at) now = record { cells = now.cells; widths = λ f. wider field now.widths f; growths = now.growths + 1 }

abbrev pub after_all : {State : Type 0} → Setup State → List Happening → Now State → Now State
after_all s [] now = now
after_all s (h ∷ hist) now = after_all s hist (after s h now)

abbrev pub now_of : {State : Type 0} → Setup State → List Happening → Now State
now_of s hist = after_all s hist (at_start s)

-- ---- what a history is

-- the cells that there are at these widths
abbrev pub IsCell : (ℕ → ℕ) → Port → Type 0
IsCell widths port.Caller = ⊥
IsCell widths port.Sink = ⊥
IsCell widths (port.Inst field number) = number < widths field
IsCell widths p = Unit {0}

-- A cell that there is took the item after the last that it took from that port, and saw the widths of this moment.
pub record Follows {State : Type 0} (now : Now State) (e : Taken) : Type 0 where
  pub is_cell : IsCell now.widths e.cell
  pub next : e.number ≡ (now.cells e.cell).took e.from + 1
  pub given : slice_get ((now.cells e.from).gave e.cell) ((now.cells e.cell).took e.from) ≡ Some e.item
  pub growths : e.growths ≡ now.growths
  pub widths : e.widths ≡ now.widths

-- a field grows to this width at most
abbrev pub most_wide : ℕ
most_wide = 64

-- It is the next growth, of a partial field that has room for one more instance.
pub record Grows {State : Type 0} (s : Setup State) (now : Now State) (number field : ℕ) : Type 0 where
  pub next : number ≡ now.growths + 1
  pub is_partial : s.is_partial field ≡ true
  pub room : now.widths field < most_wide

abbrev pub HappensAfter : {State : Type 0} → Setup State → Now State → Happening → Type 0
HappensAfter s now (Took e) = Follows now e
HappensAfter s now (Grew number field at) = Grows s now number field

abbrev pub IsHistoryFrom : {State : Type 0} → Setup State → Now State → List Happening → Type 0
IsHistoryFrom s now [] = Unit {0}
IsHistoryFrom s now (h ∷ hist) = HappensAfter s now h × IsHistoryFrom s (after s h now) hist

-- Each happening follows from those before it. No event is spoken of: an event is right where the history stays one.
abbrev pub IsHistory : {State : Type 0} → Setup State → List Happening → Type 0
IsHistory s hist = IsHistoryFrom s (at_start s) hist

-- ---- the entries of one cell

abbrev pub entry_for : Port → Happening → List Taken → List Taken
entry_for p (Took e) entries = if same_port e.cell p then e ∷ entries else entries
entry_for p (Grew number field at) entries = entries

abbrev pub entries_of : Port → List Happening → List Taken
entries_of p [] = []
entries_of p (h ∷ hist) = entry_for p h (entries_of p hist)

-- ---- what is shown

-- the last part of a call shows the join, and any other shows nothing
abbrev pub shown_join : ℕ → Out → List Step
shown_join c Wait = []
shown_join c Ignore = []
shown_join c out = step.Join c ∷ []

-- The cell that begins calls shows a begin, a slot a block, and an instance a block for work or a visit.
abbrev pub shown_entry : Port → Item → Out → List Step
shown_entry port.Front x out = step.Begin (call_of x) ∷ []
shown_entry port.Join x out = shown_join (call_of x) out
shown_entry (port.Slot field at) x out = step.Block (call_of x) None ∷ []
shown_entry (port.Inst field number) (item.Visit c t width turns vars) out = step.Visit c number ∷ []
shown_entry (port.Inst field number) x out = step.Block (call_of x) (Some number) ∷ []
shown_entry p x out = []

abbrev pub shown : {State : Type 0} → Setup State → Now State → Happening → List Step
shown s now (Took e) = shown_entry e.cell e.item (ran_at s.machine e (now.cells e.cell)).out
shown s now (Grew number field at) = step.Grow field ∷ []

abbrev pub steps_from : {State : Type 0} → Setup State → Now State → List Happening → List Step
steps_from s now [] = []
steps_from s now (h ∷ hist) = shown s now h ++ steps_from s (after s h now) hist

-- the history as steps of the annotated source
abbrev pub steps_of : {State : Type 0} → Setup State → List Happening → List Step
steps_of s hist = steps_from s (at_start s) hist
