-- When a cell is safe to run: what it holds is of its field's class, and the parts that wait in it fit the join.
use Rattle.std.specs.Prelude.{◌≡◌, ℕ, List, [], Some, IsSome, IsTrue, slice_get}
use Rattle.sdg_base.specs.declared.port.Port.{Port}
use Rattle.sdg_base.specs.declared.port.Port.TheVariants as port
use Rattle.sdg_base.specs.declared.item.Item.{Item}
use Rattle.flat_code.specs.declared.graph.Graph.{Graph}
use Rattle.flat_code.specs.Fits.{fits}
use Rattle.graph_cells.specs.declared.cell.Cell.{Cell}
use Rattle.graph_cells.specs.Held.{held, IsHeldAt}
use Rattle.graph_cells.specs.Gathered.{Waiting, parts_of}

-- a part that the join takes, however wide the fields are
abbrev pub IsJoinable : Graph → Item → Type 0
IsJoinable graph part = IsTrue (fits graph [] port.Join part)

abbrev pub AreJoinable : Graph → List Item → Type 0
AreJoinable graph parts = (n : ℕ) (part : Item) → slice_get parts n ≡ Some part → IsJoinable graph part

abbrev pub AllJoinable : Graph → Waiting → Type 0
AllJoinable graph waiting = (call : ℕ) → AreJoinable graph (parts_of waiting call)

pub record IsSound (graph : Graph) (at : Port) (cell : Cell) : Type 0 where
  pub state : IsHeldAt graph at (held cell.state)
  pub parts : AllJoinable graph cell.gather

-- the graph has the field of a port
abbrev pub HasFieldOf : Graph → Port → Type 0
HasFieldOf graph (port.Slot f n) = IsSome (slice_get graph.fields f)
HasFieldOf graph (port.Inst f n) = IsSome (slice_get graph.fields f)
HasFieldOf graph _ = Unit {0}
