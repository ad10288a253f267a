-- The cells of a cluster before the first event.
use Rattle.std.specs.Prelude.{ℕ, List, map}
use Rattle.sdg_base.specs.declared.port.Port.{Port}
use Rattle.sdg_base.specs.declared.port.Port.TheVariants as port
use Rattle.early_task_code.specs.Progress.{first_progress}
use Rattle.cell_machine.specs.Shows.{Shows}
use Rattle.cluster.specs.declared.cells.PortCell.{PortCell}
use Rattle.cluster.specs.World.{numbers_from}

abbrev pub port_in : PortCell → Port
port_in held = held.port

-- a cell that took nothing yet
abbrev pub IsFirst : PortCell → Type 0
IsFirst held = Shows held.cell (first_progress held.port)

-- the slots of a field
abbrev pub row : ℕ → ℕ → List Port
row slots field = map (λ at. port.Slot field at) (numbers_from 0 slots)
