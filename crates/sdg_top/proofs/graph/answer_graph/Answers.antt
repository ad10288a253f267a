use Rattle.std.proofs.Common.{◌≡◌, List, refl, sym, subst, ap, ◌∙◌}
use Rattle.java_tree.specs.declared.token.Token.{Token}
use Rattle.java_tree.specs.declared.tree.Class.{Class}
use Rattle.java_lexer.specs.Places.{first_place}
use Rattle.java_lexer.specs.Spelling.{Spells}
use Rattle.access_blocks.specs.declared.body.Program.{Program}
use Rattle.access_blocks.specs.declared.programs.Marked.{Marked}
use Rattle.access_blocks.specs.Programs.{program_of}
use Rattle.annotations.specs.declared.class.Annotated.{Annotated}
use Rattle.flat_code.specs.declared.graph.Graph.{Graph}
use Rattle.body_code.specs.Checking.{IsTyped}
use Rattle.class_graph.specs.Correct.{EntriesArePlaced, Implements}
use Rattle.class_graph.specs.Graphs.{IsGraphOf}
use Rattle.accepted_classes.specs.Classes.{IsSpelled}
use Rattle.typed_bodies.specs.Bodies.{BreaksNoRule}
use Rattle.sdg_top.specs.Accepted.{Accepts, annotated_of}
use Rattle.sdg_top.specs.Commands.{Text}
use Rattle.sdg_top.specs.Due.{ShowsGraph}
use Rattle.sdg_top.specs.Graphs.{marked_of}
use Rattle.sdg_top.proofs.graph.answer_graph.Goals as goal

-- a class beside a program is told by its two parts
same_parts : (m n : Marked) → m.annotated ≡ n.annotated → m.program ≡ n.program → m ≡ n
same_parts m n e f =
    subst (λ (a : Annotated). m ≡ record n { annotated = a }) e (subst (λ (p : Program). m ≡ record m { program = p }) f refl)

-- An accepted text has the class's tokens in its places, and no rule finds anything.
accepted_spelled : (text : Text) (class : Class) → Accepts text class → IsSpelled class
accepted_spelled text class a = record {
  text = text;
  begins = first_place;
  ends = a.is_class.end;
  spelled = subst (λ (tokens : List Token). Spells first_place tokens a.is_class.end text) (sym a.is_class.are_tokens) a.is_class.spelled;
  placed = a.is_class.placed;
}

breaks_none : (text : Text) (class : Class) → Accepts text class → BreaksNoRule class
breaks_none text class a = record { types = a.accepted.typed; flow = a.accepted.flows; annotations = a.accepted.annotated }

abbrev IsImplementedBy : Marked → Graph → Type 0
IsImplementedBy marked graph = IsTyped marked.annotated.typed.class marked.program → EntriesArePlaced marked.annotated.typed.class marked.program
    → Implements marked.annotated.typed.class marked.program graph

pub returns-clause-due : goal.returns-clause-due
returns-clause-due c = λ text class accepts is.
    let same : c.in_ok-marked.marked ≡ marked_of class =
    same_parts c.in_ok-marked.marked (marked_of class) (c.in_ok-marked.ensures.same ∙ is) (c.in_ok-marked.ensures.program ∙ ap program_of is) in
    let spelled = accepted_spelled text class accepts in
    let quiet = breaks_none text class accepts in
    ShowsGraph text class _ accepts (record {
      graph = c.in_ok-graph.graph;
      is_graph = subst (λ (m : Marked). IsGraphOf m c.in_ok-graph.graph) same c.in_ok-graph.ensures.is_graph;
      implements =
          subst (λ (m : Marked). IsImplementedBy m c.in_ok-graph.graph) same c.in_ok-graph.ensures.implements
          (c.accepted_classes_are_typed.ensures.typed class spelled quiet) (c.accepted_classes_are_typed.ensures.placed class spelled quiet);
      written = c.in_ok-graph_line.ensures;
    })
