-- The graph of a class: its flat code, and the tasks with the variables that are live where they begin.
use Rattle.std.specs.Prelude.{◌≡◌, ℕ, List}
use Rattle.access_blocks.specs.declared.programs.Marked.{Marked}
use Rattle.flat_code.specs.declared.graph.Graph.{Graph}
use Rattle.live_vars.specs.Sets.{AreLiveSets}
use Rattle.task_cutter.specs.Tasks.{graph_of}
use Rattle.body_code.specs.ClassCode.{flat_of}

pub record IsGraphOf (class : Marked) (graph : Graph) : Type 0 where
  pub live : List (List (List ℕ))
  pub are_live : AreLiveSets (flat_of class).methods live
  pub is_cut : graph ≡ graph_of (flat_of class) live
