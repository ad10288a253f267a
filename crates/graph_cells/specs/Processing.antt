-- One item that a cell takes: what it gives on the graph, and the cell as the machine that the laws of histories are over.
use Rattle.std.specs.Prelude.{ℕ, suc, ◌+◌, ◌==◌, if◌then◌else◌, List, [], ◌∷◌, Option, Some, None}
use Rattle.sdg_base.specs.declared.port.Port.{Port}
use Rattle.sdg_base.specs.declared.item.Item.{Item}
use Rattle.state_classes.specs.States.{State}
use Rattle.flat_code.specs.declared.graph.FieldKind.{FieldKind}
use Rattle.flat_code.specs.declared.graph.FieldKind.TheVariants as field_kind
use Rattle.flat_code.specs.declared.graph.Graph.{Graph}
use Rattle.flat_code.specs.declared.graph.GraphField.{GraphField}
use Rattle.flat_code.specs.Items as items
use Rattle.task_code.specs.declared.out.Out as task
use Rattle.task_code.specs.Given.{output_of}
use Rattle.tagged_agreement.specs.Machine.{Out, Send, Broadcast, ToJoin, Result, Wait, Ignore, Ran, Parts, Machine, Taken, Progress, progress_after}
use Rattle.graph_cells.specs.Held.{standing, left, first_held}
use Rattle.graph_cells.specs.Gathered.{others_of, all_beside}

-- ---- what an item gives

abbrev pub out_of : items.Output → Out
out_of (items.Send to x) = Send to x
out_of (items.Broadcast field width x) = Broadcast field width x
out_of (items.Part x) = ToJoin x
out_of (items.Result x) = Result x
out_of items.Wait = Wait

abbrev pub ran_so : Out → Option State → Ran (Option State)
ran_so out state = record { out = out; state = state }

abbrev pub ran_from : Option State → items.Gives → Ran (Option State)
ran_from state None = ran_so Ignore state
ran_from state (Some given) = ran_so (out_of given.output) (left state given.state)

-- what the program gave; None for a part that does not belong to those that wait
abbrev pub outcome_of : Option task.Out → Out
outcome_of None = Ignore
outcome_of (Some out) = out_of (output_of out)

-- An item at a port, beside the parts of its call that wait: a part that does not belong to them changes nothing.
unfoldable pub processed : Graph → Port → Item → List Item → Option State → ℕ → List ℕ → Ran (Option State)
processed graph at x others state pick widths =
    if all_beside x others then ran_from state (items.runs graph at x others (standing state) pick widths) else ran_so Ignore state

-- ---- how wide the fields are

-- a partitioned field has always as many slots, and a partial one the instances that there are
abbrev pub width_for : FieldKind → ℕ → ℕ → ℕ
width_for field_kind.Partitioned slots instances = slots
width_for field_kind.Partial slots instances = instances

abbrev pub widths_from : ℕ → List GraphField → ℕ → (ℕ → ℕ) → List ℕ
widths_from f [] slots widths = []
widths_from f (field ∷ fields) slots widths = width_for field.kind slots (widths f) ∷ widths_from (suc f) fields slots widths

abbrev pub widths_for : Graph → ℕ → (ℕ → ℕ) → List ℕ
widths_for graph slots widths = widths_from 0 graph.fields slots widths

-- ---- the machine

abbrev pub runs_at : Graph → ℕ → Port → Item → Parts → Option State → ℕ → (ℕ → ℕ) → Ran (Option State)
runs_at graph slots at x parts state pick widths = processed graph at x (others_of x parts) state pick (widths_for graph slots widths)

-- the cells of a graph
abbrev pub cells_of : Graph → ℕ → Machine (Option State)
cells_of graph slots = record { first = first_held graph; runs = runs_at graph slots }

-- ---- a delivery

-- The next item of its channel is taken, and any other is dropped.
abbrev pub delivered : {S : Type 0} → Machine S → Taken → Progress S → Progress S
delivered m e now = if e.number == now.took e.from + 1 then progress_after m e now else now
