-- When a cell of the program is a cell that has come so far.
use Rattle.std.specs.Prelude.{◌≡◌, ◌≢◌, ℕ, ◌+◌, ◌-◌, List, length, drop, Option, Some}
use Rattle.sdg_base.specs.declared.port.Port.{Port}
use Rattle.sdg_base.specs.declared.item.Item.{Item}
use Rattle.state_classes.specs.States.{State}
use Rattle.channels.specs.declared.mark.Mark.{Mark}
use Rattle.channels.specs.Marks.{mark_of}
use Rattle.channels.specs.Outboxes.{outbox_of, SameButAt}
use Rattle.channels.specs.Sent.{trimmed}
use Rattle.flat_code.specs.declared.graph.Graph.{Graph}
use Rattle.tagged_agreement.specs.Machine.{Ran, Progress, Taken}
use Rattle.graph_cells.specs.declared.cell.Cell.{Cell}
use Rattle.graph_cells.specs.Held.{held}
use Rattle.graph_cells.specs.Gathered.{parts_of, listed, IsGathered, IsKept}
use Rattle.graph_cells.specs.Processing.{widths_for}
use Rattle.graph_cells.specs.Sending.{IsSent}

-- It holds the state, took as much from each port, sent to each port as many items, of which it keeps the last, and keeps the parts that wait.
pub record Shows (cell : Cell) (now : Progress (Option State)) : Type 0 where
  pub state : held cell.state ≡ now.state
  pub took : (from : Port) → mark_of cell.marks from ≡ now.took from
  pub sent : (to : Port) → (outbox_of cell.outboxes to).last ≡ length (now.gave to)
  pub kept : (to : Port) → (outbox_of cell.outboxes to).kept ≡ drop (trimmed (outbox_of cell.outboxes to)) (now.gave to)
  pub gathered : (call : ℕ) → parts_of cell.gather call ≡ listed (now.gathered call)
  pub waiting : (call instance : ℕ) (part : Item) → now.gathered call instance ≡ Some part → IsKept instance part
  pub position : cell.position ≡ now.position

-- one more was taken from a port
pub record IsRaised (from : Port) (old new : List Mark) : Type 0 where
  pub here : mark_of new from ≡ mark_of old from + 1
  pub others : (other : Port) → other ≢ from → mark_of new other ≡ mark_of old other

-- what an item made of a cell
pub record Took (from : Port) (x : Item) (ran : Ran (Option State)) (old new : Cell) : Type 0 where
  pub state : held new.state ≡ ran.state
  pub sends : IsSent ran.out old.outboxes new.outboxes
  pub gathers : IsGathered x ran.out old.gather new.gather
  pub marks : IsRaised from old.marks new.marks
  pub position : new.position ≡ old.position + 1

-- Of what was sent to a port the items up to a number are no longer kept. The cell is the same in all else.
pub record IsTrimmed (to : Port) (upto : ℕ) (old new : Cell) : Type 0 where
  pub last : (outbox_of new.outboxes to).last ≡ (outbox_of old.outboxes to).last
  pub kept : (outbox_of new.outboxes to).kept ≡ drop (upto - trimmed (outbox_of old.outboxes to)) (outbox_of old.outboxes to).kept
  pub others : SameButAt to old.outboxes new.outboxes
  pub state : new.state ≡ old.state
  pub gather : new.gather ≡ old.gather
  pub marks : new.marks ≡ old.marks
  pub position : new.position ≡ old.position

-- An entry of this cell has this item, sender and pick, and saw these widths.
pub record IsEntry (graph : Graph) (slots : ℕ) (own sender : Port) (x : Item) (chosen : ℕ) (seen : List ℕ) (e : Taken) : Type 0 where
  pub cell : e.cell ≡ own
  pub from : e.from ≡ sender
  pub item : e.item ≡ x
  pub pick : e.pick ≡ chosen
  pub widths : widths_for graph slots e.widths ≡ seen
