-- What a cell holds: an object of the class of its field, or nothing in a cell without a field.
use Rattle.std.specs.Prelude.{◌≡◌, pos, Option, Some, None, slice_get}
use Rattle.sdg_base.specs.declared.port.Port.{Port}
use Rattle.sdg_base.specs.declared.port.Port.TheVariants as port
use Rattle.state_classes.specs.States.{State, OfCounter, empty_state, class_of}
use Rattle.flat_code.specs.declared.graph.Graph.{Graph}
use Rattle.flat_code.specs.declared.graph.GraphField.{GraphField}
use Rattle.graph_cells.specs.declared.state.CellState.{CellState}
use Rattle.graph_cells.specs.declared.state.CellState.TheVariants as cell_state

abbrev pub held : CellState → Option State
held cell_state.Nothing = None
held (cell_state.Object state) = Some state

-- what code is run on: in a cell that holds nothing, a counter that is not looked at
abbrev pub standing : Option State → State
standing None = OfCounter (pos 0)
standing (Some state) = state

-- A cell that holds nothing holds nothing after it.
abbrev pub left : Option State → State → Option State
left None state = None
left (Some before) state = Some state

-- ---- at the start

abbrev pub empty_of : Option GraphField → Option State
empty_of None = None
empty_of (Some field) = Some (empty_state field.class)

abbrev pub first_held : Graph → Port → Option State
first_held graph (port.Slot f n) = empty_of (slice_get graph.fields f)
first_held graph (port.Inst f n) = empty_of (slice_get graph.fields f)
first_held graph _ = None

-- ---- the right thing

abbrev pub IsObjectOf : Option GraphField → Option State → Type 0
IsObjectOf (Some field) (Some state) = class_of state ≡ field.class
IsObjectOf _ _ = ⊥

-- A slot and an instance hold an object of their field's class, and the other cells nothing.
abbrev pub IsHeldAt : Graph → Port → Option State → Type 0
IsHeldAt graph (port.Slot f n) state = IsObjectOf (slice_get graph.fields f) state
IsHeldAt graph (port.Inst f n) state = IsObjectOf (slice_get graph.fields f) state
IsHeldAt graph _ state = state ≡ None
