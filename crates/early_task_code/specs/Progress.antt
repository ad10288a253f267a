-- Cells as what their entries make of them, one entry after the other.
use Rattle.std.specs.Prelude.{ℕ, ◌+◌, if◌then◌else◌, List, [], ◌∷◌, ◌++◌, Some, None}
use Rattle.sdg_base.specs.declared.port.Port.{Port}
use Rattle.sdg_base.specs.declared.port.Port.TheVariants as port
use Rattle.sdg_base.specs.declared.item.Item.{Item}
use Rattle.sdg_base.specs.Ports.{same_port}
use Rattle.early_tables.specs.States.{State, Nothing, OfTable}
use Rattle.early_task_code.specs.declared.graph.Graph.{Graph}
use Rattle.early_task_code.specs.Machine.{Ran, Runs, runs}

-- A cell took an item: the number of the item in its channel, from 1, the pick of an instance, the growths so far, and the step number.
pub record Taken : Type 0 where
  pub cell : Port
  pub from : Port
  pub number : ℕ
  pub pick : ℕ
  pub growths : ℕ
  pub step : ℕ
  pub item : Item

-- What a cell has come to: what it holds, what it gave to each port, whole and in order, how many items it took from each, and of how many entries.
pub record Progress : Type 0 where
  pub state : State
  pub gave : Port → List Item
  pub took : Port → ℕ
  pub position : ℕ

-- a slot holds an empty table, and each other cell nothing
abbrev pub state_at_start : Port → State
state_at_start (port.Slot field at) = OfTable []
state_at_start p = Nothing

-- a cell that took nothing yet
abbrev pub first_progress : Port → Progress
first_progress p = record { state = state_at_start p; gave = λ _. []; took = λ _. 0; position = 0 }

-- An item that goes wrong would change nothing and give nothing; none of an accepted class does.
abbrev pub ran_or_nothing : State → Runs → Ran
ran_or_nothing state None = record { outputs = []; state = state }
ran_or_nothing state (Some r) = r

-- the outputs for one port
abbrev pub outputs_to : Port → List (Port × Item) → List Item
outputs_to p [] = []
outputs_to p (o ∷ os) = if same_port o.0 p then o.1 ∷ outputs_to p os else outputs_to p os

abbrev pub progress_with : Port → Ran → Progress → Progress
progress_with from r now =
    record {
      state = r.state;
      gave = λ p. now.gave p ++ outputs_to p r.outputs;
      took = λ p. if same_port p from then now.took p + 1 else now.took p;
      position = now.position + 1;
    }

-- a cell after one more entry
abbrev pub progress_after : Graph → ℕ → Taken → Progress → Progress
progress_after graph slots e now = progress_with e.from (ran_or_nothing now.state (runs graph slots e.cell e.item now.state)) now
