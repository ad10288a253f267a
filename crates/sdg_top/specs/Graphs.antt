-- The graph file of an accepted class, as it is printed.
use Rattle.std.specs.Prelude.{◌≡◌, ◌++◌, [], ◌∷◌}
use Rattle.java_tree.specs.declared.tree.Class.{Class}
use Rattle.access_blocks.specs.declared.programs.Marked.{Marked}
use Rattle.flat_code.specs.declared.graph.Graph.{Graph}
use Rattle.class_graph.specs.Correct.{Implements}
use Rattle.class_graph.specs.Graphs.{IsGraphOf}
use Rattle.graph_file.specs.Written.{graph_text}
use Rattle.sdg_top.specs.Accepted.{annotated_of, program_of}
use Rattle.sdg_top.specs.Commands.{Text}

-- a class beside its program
abbrev pub marked_of : Class → Marked
marked_of class = record { annotated = annotated_of class; program = program_of class }

-- one line, which has the graph of the class; the graph implements the class
pub record IsGraphText (class : Class) (text : Text) : Type 0 where
  pub graph : Graph
  pub is_graph : IsGraphOf (marked_of class) graph
  pub implements : Implements class (program_of class) graph
  pub written : text ≡ graph_text graph ++ 10 ∷ []
