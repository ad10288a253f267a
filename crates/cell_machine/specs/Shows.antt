-- When a cell of the program is a cell that has come so far.
use Rattle.std.specs.Prelude.{◌≡◌, length, drop}
use Rattle.sdg_base.specs.declared.port.Port.{Port}
use Rattle.channels.specs.Marks.{mark_of}
use Rattle.channels.specs.Outboxes.{outbox_of}
use Rattle.channels.specs.Sent.{trimmed}
use Rattle.early_task_code.specs.Progress.{Progress}
use Rattle.cell_machine.specs.declared.cell.Cell.{Cell}
use Rattle.cell_machine.specs.Held.{state_held}

-- It holds the state, took as much from each port, and sent to each port as many items, of which it keeps the last.
pub record Shows (cell : Cell) (p : Progress) : Type 0 where
  pub state : state_held cell.state ≡ p.state
  pub took : (from : Port) → mark_of cell.marks from ≡ p.took from
  pub sent : (to : Port) → (outbox_of cell.outboxes to).last ≡ length (p.gave to)
  pub kept : (to : Port) → (outbox_of cell.outboxes to).kept ≡ drop (trimmed (outbox_of cell.outboxes to)) (p.gave to)
  pub position : cell.position ≡ p.position
