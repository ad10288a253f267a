-- The class that a text writes is accepted where no phase refuses it.
use Rattle.std.specs.Prelude.{IfOk, Result, Ok, Err}
use Rattle.std.proofs.Common.{◌≡◌, ℕ, List, [], sym, ap, subst, ◌∙◌}
use Rattle.java_tree.specs.declared.token.Token.{Token}
use Rattle.java_tree.specs.declared.token.Place.{Place}
use Rattle.java_tree.specs.declared.tree.Class.{Class}
use Rattle.java_tree.specs.declared.types.Typed.{Typed}
use Rattle.java_tree.specs.Tokens.{tokens_of}
use Rattle.java_tree.specs.Placed.{IsWellPlaced}
use Rattle.java_lexer.specs.Places.{first_place}
use Rattle.java_lexer.specs.Spelling.{Spells}
use Rattle.java_types.specs.Check.{findings_of, types_of}
use Rattle.java_flow.specs.Findings.{findings}
use Rattle.annotations.specs.declared.class.Annotated.{Annotated}
use Rattle.annotations.specs.Check.{findings_of as findings_on_annotations, sites_of, first_partial}
use Rattle.annotations.specs.Kinds.{kinds_of}
use Rattle.access_blocks.specs.declared.programs.Marked.{Marked}
use Rattle.access_blocks.specs.Programs.{program_of}
use Rattle.accepted_classes.specs.Classes.{IsSpelled}
use Rattle.body_code.specs.Checking.{IsTyped}
use Rattle.class_graph.specs.Correct.{EntriesArePlaced, Implements}
use Rattle.flat_code.specs.declared.graph.Graph.{Graph}
use Rattle.flat_code.specs.Verified.{IsVerified}
use Rattle.typed_bodies.specs.Bodies.{BreaksNoRule, typed_of, annotated_of, resolved_of}
use Rattle.typed_classes.specs.Laws.{AcceptedClassesAreTyped, AcceptedEntriesArePlaced}
use Rattle.graph_tests.specs.Accepted.{IsAccepted}

-- what each phase has found
pub record Phases (text : List ℕ) (tokens : List Token) (end : Place) (tree : Class) (typed : Typed) (annotated : Annotated) (marked : Marked) : Type 0 where
  pub spelled : Spells first_place tokens end text
  pub are_tokens : tokens_of tree ≡ tokens
  pub placed : IsWellPlaced tree
  pub same_tree : typed.class ≡ tree
  pub are_types : typed.types ≡ types_of tree
  pub no_types : findings_of tree ≡ []
  pub no_flow : findings typed.class ≡ []
  pub same_typed : annotated.typed ≡ typed
  pub kinds : annotated.kinds ≡ kinds_of typed.class
  pub sites : annotated.sites ≡ sites_of typed
  pub partial : annotated.partial ≡ first_partial typed
  pub no_annotations : findings_on_annotations typed ≡ []
  pub same_annotated : marked.annotated ≡ annotated
  pub program : marked.program ≡ program_of annotated

pub accepted : (text : List ℕ) (tokens : List Token) (end : Place) (tree : Class) (typed : Typed) (annotated : Annotated) (marked : Marked) → Phases text tokens end tree typed annotated marked
    → IsAccepted marked
accepted text tokens end tree typed annotated marked p =
    let typed_is : typed ≡ typed_of tree = λ i. record { class = p.same_tree i; types = p.are_types i } in
    let annotated_is : annotated ≡ annotated_of tree = λ i. record {
      typed = (p.same_typed ∙ typed_is) i;
      kinds = (p.kinds ∙ ap kinds_of p.same_tree) i;
      sites = (p.sites ∙ ap sites_of typed_is) i;
      partial = (p.partial ∙ ap first_partial typed_is) i;
    } in
    let class_is : tree ≡ marked.annotated.typed.class = sym (ap (λ (a : Annotated). a.typed.class) (p.same_annotated ∙ annotated_is)) in
    let spelled : IsSpelled tree = record { text = text; begins = first_place; ends = end; spelled = subst (λ (ts : List Token). Spells first_place ts end text) (sym p.are_tokens) p.spelled; placed = p.placed } in
    let quiet : BreaksNoRule tree = record {
      types = p.no_types;
      flow = subst (λ (c : Class). findings c ≡ []) p.same_tree p.no_flow;
      annotations = subst (λ (t : Typed). findings_on_annotations t ≡ []) typed_is p.no_annotations;
    } in
    record {
      spelled = subst IsSpelled class_is spelled;
      quiet = subst BreaksNoRule class_is quiet;
      program = p.program ∙ ap program_of annotated_is ∙ ap resolved_of class_is;
    }

-- ---- its graph

pub graph_verified : {E : Type 0} (marked : Marked) (r : Result Graph E) → IsAccepted marked → AcceptedClassesAreTyped → AcceptedEntriesArePlaced
    → (IsTyped marked.annotated.typed.class marked.program → EntriesArePlaced marked.annotated.typed.class marked.program → IfOk r (Implements marked.annotated.typed.class marked.program))
    → IfOk r IsVerified
graph_verified marked (Err e) is typed placed law = tt
graph_verified marked (Ok graph) is typed placed law =
    let class = marked.annotated.typed.class in
    let it = law (subst (IsTyped class) (sym is.program) (typed class is.spelled is.quiet)) (subst (EntriesArePlaced class) (sym is.program) (placed class is.spelled is.quiet)) in
    it.verified
