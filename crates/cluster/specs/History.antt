-- The history of a run, and what each port has come to by it.
use Rattle.std.specs.Prelude.{◌≡◌, ℕ, ◌+◌, if◌then◌else◌, List, [], ◌∷◌, Some, None, slice_get}
use Rattle.std.specs.List.{flat_map}
use Rattle.sdg_base.specs.declared.call.Call.{Call}
use Rattle.sdg_base.specs.declared.call.Step.{Step}
use Rattle.sdg_base.specs.declared.call.Step.TheVariants as step
use Rattle.sdg_base.specs.declared.port.Port.{Port}
use Rattle.sdg_base.specs.declared.port.Port.TheVariants as port
use Rattle.sdg_base.specs.declared.item.Item.{Item}
use Rattle.sdg_base.specs.declared.item.Item.TheVariants as item
use Rattle.sdg_base.specs.Ports.{same_port}
use Rattle.placement.specs.declared.event.Header.{Header}
use Rattle.early_task_code.specs.declared.graph.Graph.{Graph}
use Rattle.early_task_code.specs.Progress.{Taken, Progress, progress_after, state_at_start}

-- what a run stands on
pub record Setup : Type 0 where
  pub graph : Graph
  pub calls : List Call
  pub header : Header

-- what happened, in the order of the step numbers
pub data Happening : Type 0 where
  Took : Taken → Happening

-- ---- at the start

-- call number n is item n of the channel from the caller
abbrev pub starts_from : ℕ → List Call → List Item
starts_from n [] = []
starts_from n (call ∷ calls) = item.Start n call.method call.args ∷ starts_from (n + 1) calls

abbrev pub starts : List Call → List Item
starts calls = starts_from 1 calls

-- what each port gave before anything happened: the caller its calls, to the cell that begins them
abbrev pub given_at_start : List Call → Port → Port → List Item
given_at_start calls port.Caller port.Front = starts calls
given_at_start calls from to = []

abbrev pub at_start : List Call → Port → Progress
at_start calls p = record { state = state_at_start p; gave = given_at_start calls p; took = λ _. 0; position = 0 }

-- ---- along a history

abbrev pub after_entry : Setup → Taken → (Port → Progress) → Port → Progress
after_entry s e cells p = if same_port e.cell p then progress_after s.graph s.header.slots e (cells p) else cells p

abbrev pub after_happening : Setup → Happening → (Port → Progress) → Port → Progress
after_happening s (Took e) cells p = after_entry s e cells p

abbrev pub after_all : Setup → (Port → Progress) → List Happening → Port → Progress
after_all s cells [] p = cells p
after_all s cells (h ∷ hist) p = after_all s (λ q. after_happening s h cells q) hist p

-- what each port has come to
abbrev pub cells_after : Setup → List Happening → Port → Progress
cells_after s hist = after_all s (at_start s.calls) hist

-- ---- what a history is

-- whether a port is a cell
abbrev pub IsCell : Port → Type 0
IsCell port.Caller = ⊥
IsCell port.Sink = ⊥
IsCell p = Unit {0}

-- The cell took the item after the last that it took from that port.
pub record Follows (cells : Port → Progress) (e : Taken) : Type 0 where
  pub is_cell : IsCell e.cell
  pub next : e.number ≡ (cells e.cell).took e.from + 1
  pub given : slice_get ((cells e.from).gave e.cell) ((cells e.cell).took e.from) ≡ Some e.item

abbrev pub HappensAfter : (Port → Progress) → Happening → Type 0
HappensAfter cells (Took e) = Follows cells e

abbrev pub IsHistoryFrom : Setup → (Port → Progress) → List Happening → Type 0
IsHistoryFrom s cells [] = Unit {0}
IsHistoryFrom s cells (h ∷ hist) = HappensAfter cells h × IsHistoryFrom s (λ q. after_happening s h cells q) hist

-- Each happening follows from those before it.
abbrev pub IsHistory : Setup → List Happening → Type 0
IsHistory s hist = IsHistoryFrom s (at_start s.calls) hist

-- ---- what is shown of it

-- the call that an item is of
abbrev pub call_of : Item → ℕ
call_of (item.Start call method args) = call
call_of (item.Work call t key turns vars) = call
call_of (item.Visit call t width turns vars) = call
call_of (item.Part call t width instance turns vars value) = call
call_of (item.Done call outcome) = call

-- the cell that begins calls shows a begin, and a slot a block
abbrev pub shown_entry : Port → ℕ → List Step
shown_entry port.Front call = step.Begin call ∷ []
shown_entry (port.Slot field at) call = step.Block call None ∷ []
shown_entry p call = []

abbrev pub shown : Happening → List Step
shown (Took e) = shown_entry e.cell (call_of e.item)

-- the history as steps of the annotated source
abbrev pub steps_of : List Happening → List Step
steps_of hist = flat_map shown hist
