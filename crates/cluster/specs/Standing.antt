-- What a cluster stands for.
use Rattle.std.specs.Prelude.{◌≡◌, ℕ, ◌+◌, ◌*◌, ◌≤◌, false, length, map, Some, slice_get}
use Rattle.std.specs.List.{AllByRecursion}
use Rattle.sdg_base.specs.declared.port.Port.{Port}
use Rattle.sdg_base.specs.declared.port.Port.TheVariants as port
use Rattle.sdg_base.specs.declared.item.Line.TheVariants as line
use Rattle.sdg_base.specs.declared.item.Note.TheVariants as note
use Rattle.placement.specs.declared.event.Header.{Header}
use Rattle.placement.specs.declared.event.Event.{Event}
use Rattle.placement.specs.declared.event.Event.TheVariants as event
use Rattle.placement.specs.Ports.{IsCellAmong, IsSenderAmong}
use Rattle.channels.specs.Outboxes.{outbox_of}
use Rattle.channels.specs.Sent.{trimmed}
use Rattle.early_task_code.specs.declared.graph.Graph.{Graph}
use Rattle.early_task_code.specs.Safe.{IsSafe}
use Rattle.cell_machine.specs.declared.cell.Cell.{Cell}
use Rattle.cell_machine.specs.Shows.{Shows}
use Rattle.cluster.specs.declared.cells.PortCell.{PortCell}
use Rattle.cluster.specs.declared.cluster.Cluster.{Cluster}
use Rattle.cluster.specs.declared.past.Past.{Past}
use Rattle.cluster.specs.History.{Setup, Happening, Took, shown, starts, IsHistory}
use Rattle.cluster.specs.World.{World, cell, committed, cells_of, last_step, results_of}

-- ---- the contents of a cluster

-- the note of what happened, and the step that it is printed as
abbrev pub past : Happening → Past
past (Took e) =
    record {
      line = line.Cell e.cell;
      note = note.Take (record { from = e.from; seq = e.number; pick = e.pick; growths = e.growths; step = e.step });
      shown = slice_get (shown (Took e)) 0;
    }

-- how many items from a port to another are no longer kept: the results that were committed
abbrev pub dropped : World → Port → Port → ℕ
dropped w from port.Sink = committed from w.commits
dropped w from to = 0

-- The cell of a port has come as far as its entries say.
pub record StandsForCell (held : Cell) (s : Setup) (w : World) (p : Port) : Type 0 where
  pub shows : Shows held (cell s w p)
  pub dropped : (to : Port) → trimmed (outbox_of held.outboxes to) ≡ dropped w p to

-- It has the calls and the header of the setup, each cell in port order, and the history, the commits and the next step of the world.
pub record StandsFor (cluster : Cluster) (s : Setup) (w : World) : Type 0 where
  pub calls : cluster.calls ≡ s.calls
  pub header : cluster.header ≡ s.header
  pub ports : map (λ held. held.port) cluster.cells.items ≡ cells_of s
  pub cells : (at : ℕ) (held : PortCell) → slice_get cluster.cells.items at ≡ Some held → StandsForCell held.cell s w held.port
  pub history : cluster.history ≡ map past w.hist
  pub commits : map {B = Port × ℕ} (λ c. (c.from, c.seq)) cluster.commits ≡ w.commits
  pub results : map (λ c. (c.shown.call, c.shown.outcome)) cluster.commits ≡ results_of s w
  pub next_step : cluster.next_step ≡ w.next_step
  pub going : cluster.spent ≡ false

-- ---- what has to hold beside it

-- A run can be made of it: no call goes wrong, and the numbers are in their ranges.
pub record IsReady (s : Setup) : Type 0 where
  pub some_slots : 1 ≤ s.header.slots
  pub most_slots : s.header.slots ≤ 64
  pub most_calls : length s.calls ≤ 65536
  pub most_fields : length s.graph.fields ≤ 65536
  pub safe : AllByRecursion (IsSafe s.graph s.header.slots port.Front) (starts s.calls)

-- a result that was given
abbrev pub IsGiven : Setup → World → Port × ℕ → Type 0
IsGiven s w c = (1 ≤ c.1) × (c.1 ≤ length ((cell s w c.0).gave port.Sink))

-- What holds of each world to which events lead.
pub record IsReached (s : Setup) (w : World) : Type 0 where
  pub history : IsHistory s w.hist
  pub next_step : w.next_step ≡ length w.hist + 1
  pub in_range : w.next_step ≤ last_step
  pub given : AllByRecursion (IsGiven s w) w.commits
  pub in_turn : (from : Port) → committed from w.commits ≤ length ((cell s w from).gave port.Sink)

-- The cluster stands for such a world.
pub record Holds (cluster : Cluster) (s : Setup) (w : World) : Type 0 where
  pub stands : StandsFor cluster s w
  pub ready : IsReady s
  pub reached : IsReached s w

-- The cluster of a graph stands for some world.
pub record HasWorld (graph : Graph) (cluster : Cluster) : Type 0 where
  pub s : Setup
  pub w : World
  pub of_graph : s.graph ≡ graph
  pub holds : Holds cluster s w

-- Unless it is spent, it stands for some world.
abbrev pub IsSound : Graph → Cluster → Type 0
IsSound graph cluster = cluster.spent ≡ false → HasWorld graph cluster

-- ---- the ports that events name

-- the cells of a graph with so many slots a field
abbrev pub IsCellOf : Graph → Header → Port → Type 0
IsCellOf graph header p = IsCellAmong (length graph.fields) header.slots p

abbrev pub IsSenderOf : Graph → Header → Port → Type 0
IsSenderOf graph header p = IsSenderAmong (length graph.fields) header.slots p

-- A take names a cell, and the caller or a cell; a commit names a cell.
abbrev pub NamesPorts : Graph → Header → Event → Type 0
NamesPorts graph header (event.Take to from pick) = IsCellOf graph header to × IsSenderOf graph header from
NamesPorts graph header (event.Sink from) = IsCellOf graph header from

-- the place of a cell in port order
abbrev pub place_of : ℕ → Port → ℕ
place_of slots port.Front = 0
place_of slots port.Join = 1
place_of slots (port.Slot field at) = 2 + field * slots + at
place_of slots p = 0
