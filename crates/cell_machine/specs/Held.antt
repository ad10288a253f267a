-- What a cell holds, as a state.
use Rattle.early_tables.specs.States.{State, Nothing, OfTable}
use Rattle.cell_machine.specs.declared.state.CellState.{CellState}
use Rattle.cell_machine.specs.declared.state.CellState.TheVariants as held

abbrev pub state_held : CellState → State
state_held held.Nothing = Nothing
state_held (held.Table entries) = OfTable entries
