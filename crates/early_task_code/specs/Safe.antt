-- Items that never go wrong: whatever the state of their cell, they run, and what they give never goes wrong either.
use Rattle.std.specs.Prelude.{◌≡◌, ℕ, zero, suc, Some}
use Rattle.std.specs.List.{AllByRecursion}
use Rattle.sdg_base.specs.declared.port.Port.{Port}
use Rattle.sdg_base.specs.declared.port.Port.TheVariants as port
use Rattle.sdg_base.specs.declared.item.Item.{Item}
use Rattle.early_tables.specs.States.{State, Nothing, OfTable}
use Rattle.early_task_code.specs.declared.graph.Graph.{Graph}
use Rattle.early_task_code.specs.Machine.{Ran, runs}

-- whether a state is of the kind that the port's cell holds: a slot holds a table, and each other cell nothing
abbrev pub IsStateOf : Port → State → Type 0
IsStateOf (port.Slot field at) (OfTable entries) = Unit {0}
IsStateOf (port.Slot field at) Nothing = ⊥
IsStateOf (port.Inst field number) state = ⊥
IsStateOf _ Nothing = Unit {0}
IsStateOf _ (OfTable entries) = ⊥

-- So many steps from here on go right. What the sink is given is no work.
abbrev pub IsSafeFor : Graph → ℕ → ℕ → Port → Item → Type 0
IsSafeFor graph slots n port.Sink x = Unit {0}
IsSafeFor graph slots zero to x = Unit {0}
IsSafeFor graph slots (suc n) to x =
    (state : State) → IsStateOf to state
    → (r : Ran) × (runs graph slots to x state ≡ Some r) × IsStateOf to r.state × AllByRecursion (λ o. IsSafeFor graph slots n o.0 o.1) r.outputs

abbrev pub IsSafe : Graph → ℕ → Port → Item → Type 0
IsSafe graph slots to x = (n : ℕ) → IsSafeFor graph slots n to x
