-- The small graph, by hand: what is live in its code, its tasks, and the runs of both.
use Rattle.std.specs.Prelude.{◌≡◌, ℕ, pos, List, [], ◌∷◌, Some, None, codes}
use Rattle.sdg_base.specs.declared.val.Val.{Val}
use Rattle.sdg_base.specs.declared.val.Val.TheVariants as val
use Rattle.sdg_base.specs.declared.val.Outcome.TheVariants as outcome
use Rattle.sdg_base.specs.declared.port.Port.TheVariants as port
use Rattle.sdg_base.specs.declared.item.Item.TheVariants as item
use Rattle.state_classes.specs.States.{State, OfTable}
use Rattle.flat_code.specs.declared.graph.Flat.{Flat}
use Rattle.flat_code.specs.Items.{Result, setting, runs}
use Rattle.flat_code.specs.Machine.{Frame, Returned, CutTo, run}
use Rattle.graph_safety.specs.Small.{small_field, small_method, small_code, small_graph}
use Rattle.live_vars.specs.Sets.{AreLiveSets}
use Rattle.task_cutter.specs.Tasks.{graph_of}

abbrev pub small_flat : Flat
small_flat = record { class = codes "C"; fields = small_field ∷ []; methods = small_method ∷ [] }

-- The argument is live where it is loaded, and nothing behind that.
abbrev pub small_live : List (List (List ℕ))
small_live = ((0 ∷ []) ∷ [] ∷ [] ∷ [] ∷ [] ∷ [] ∷ []) ∷ []

-- a table with 5 at the key 7
abbrev pub small_table : State
small_table = OfTable ((pos 7, pos 5) ∷ [])

abbrev pub small_frame : ℕ → List Val → Val → ℕ → Frame
small_frame at stack x turns = record { at = at; stack = stack; variables = x ∷ []; turns = turns }

-- The start ends at the cut with its argument as the key. Behind the cut the run ends alike whatever the variable holds, and so
-- the item of the keyed task carries nothing, and its result is what the table has.
pub record SmallRuns : Type 0 where
  pub live : AreLiveSets small_flat.methods small_live
  pub cut : graph_of small_flat small_live ≡ small_graph
  pub starts : run (setting small_graph None None []) small_code (small_frame 0 [] (val.Long (pos 7)) 1) small_table
      ≡ Some (record { ending = CutTo 1; frame = small_frame 2 (val.Long (pos 7) ∷ []) (val.Long (pos 7)) 0; state = small_table })
  pub ends : (x : Val) → run (setting small_graph (Some (codes "t")) (Some (pos 7)) []) small_code (small_frame 3 [] x 0) small_table
      ≡ Some (record { ending = Returned (val.Long (pos 5)); frame = small_frame 5 (val.Long (pos 5) ∷ []) x 0; state = small_table })
  pub gives : (n call pick : ℕ) (widths : List ℕ)
      → runs small_graph (port.Slot 0 n) (item.Work call 1 (Some (pos 7)) 0 []) [] small_table pick widths ≡ Some (record { output = Result (item.Done call (outcome.Value (val.Long (pos 5)))); state = small_table })
