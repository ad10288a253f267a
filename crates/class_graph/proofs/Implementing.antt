-- The graph of a class that is typed, with its blocks where steps come to, implements it.
use Rattle.std.specs.Prelude.{IfOk, Result, Ok, Err}
use Rattle.std.proofs.Common.{◌≡◌, ◌+◌, ℕ, zero, suc, List, [], ◌∷◌, slice_get, Some, sym, ap, subst, ◌∙◌}
use Rattle.java_tree.specs.declared.tree.Class.{Class}
use Rattle.java_tree.specs.declared.tree.Method.{Method}
use Rattle.access_blocks.specs.declared.body.Body.{Body}
use Rattle.access_blocks.specs.declared.body.Program.{Program}
use Rattle.access_blocks.specs.declared.programs.Marked.{Marked}
use Rattle.access_blocks.specs.Programs.{methods_in}
use Rattle.flat_code.specs.declared.graph.Graph.{Graph}
use Rattle.flat_code.specs.declared.graph.GraphField.{GraphField}
use Rattle.flat_code.specs.declared.graph.GraphMethod.{GraphMethod}
use Rattle.flat_code.specs.Verified.{IsVerified}
use Rattle.body_code.specs.declared.callee.Callee.{Callee}
use Rattle.body_code.specs.Checking.{IsTyped}
use Rattle.body_code.specs.ClassCode.{graph_method, graph_methods, tasks_of, fields_of, callees_of, flat_of}
use Rattle.code_meaning.specs.Entries.{IsEntry, EntriesRest}
use Rattle.code_meaning.specs.Standing.{Entered, IsEntered, RestsStand, BlocksRest, VisitsBring, JoinsRest}
use Rattle.verified_code.specs.Verified.{TypedClassesAreVerified}
use Rattle.class_graph.specs.Graphs.{IsGraphOf}
use Rattle.class_graph.specs.Correct.{DoesWhatItMeans, IsImplemented, Implements, EntriesArePlaced, entry}

the_same : {A : Type 0} {x y : A} → Some x ≡ Some y → x ≡ y
the_same e = cc

-- the code of a method by its number
pub record IsCode (fields : List GraphField) (methods : List Callee) (m : Method) (b : Body) (all : List GraphMethod) (n : ℕ) : Type 0 where
  pub task : ℕ
  pub is : slice_get all n ≡ Some (graph_method fields methods m b task)

code_at : (fields : List GraphField) (methods : List Callee) (ms : List Method) (bs : List Body) (from n : ℕ) (m : Method) (b : Body) → slice_get ms n ≡ Some m → slice_get bs n ≡ Some b
    → IsCode fields methods m b (graph_methods fields methods ms bs from) n
code_at fields methods [] bs from n m b at_m at_b = absurd (cc)
code_at fields methods (k ∷ ms) [] from n m b at_m at_b = absurd (cc)
code_at fields methods (k ∷ ms) (d ∷ bs) from zero m b at_m at_b =
    record { task = from; is = ap (λ (x : Method). Some (graph_method fields methods x d from)) (the_same at_m) ∙ ap (λ (x : Body). Some (graph_method fields methods m x from)) (the_same at_b) }
code_at fields methods (k ∷ ms) (d ∷ bs) from (suc n) m b at_m at_b =
    let it = code_at fields methods ms bs (from + tasks_of fields methods d) n m b at_m at_b in
    record { task = it.task; is = it.is }

pub record Laws : Type 0 where
  pub verified : TypedClassesAreVerified
  pub starts : EntriesRest
  pub rests : RestsStand
  pub blocks : BlocksRest
  pub visits : VisitsBring
  pub joins : JoinsRest

does : Laws → (e : Entered) → IsEntered e → DoesWhatItMeans e
does laws e is = record {
  starts = laws.starts e.class e.program is.typed e.number e.method e.body is.entry is.placed e.task;
  rests = laws.rests e is;
  blocks = laws.blocks e is;
  visits = laws.visits e is;
  joins = laws.joins e is;
}

implemented : Laws → (class : Class) (program : Program) (graph : Graph) → graph.methods ≡ graph_methods (fields_of class program) (callees_of class program) (methods_in class.members) program.methods 0
    → IsTyped class program → EntriesArePlaced class program → (n : ℕ) (m : Method) (b : Body) → IsEntry class program n m b → IsImplemented class program graph n m b
implemented laws class program graph methods typed placed n m b is =
    let code = code_at (fields_of class program) (callees_of class program) (methods_in class.members) program.methods 0 n m b is.is_method is.is_body in
    let entered : IsEntered (entry class program n m b code.task) = record { typed = typed; entry = is; placed = placed n m b is } in
    record {
      task = code.task;
      is_code = ap (λ (ms : List GraphMethod). slice_get ms n) methods ∙ code.is;
      entered = entered;
      does = does laws (entry class program n m b code.task) entered;
    }

implements : Laws → (marked : Marked) (graph : Graph) → IsTyped marked.annotated.typed.class marked.program → EntriesArePlaced marked.annotated.typed.class marked.program → IsGraphOf marked graph
    → Implements marked.annotated.typed.class marked.program graph
unfolding TypedClassesAreVerified flat_of
implements laws marked graph typed placed of =
    let class = marked.annotated.typed.class in
    record {
      fields = ap (λ (g : Graph). g.fields) of.is_cut;
      methods = ap (λ (g : Graph). g.methods) of.is_cut;
      verified = subst IsVerified (sym of.is_cut) (laws.verified class marked.program of.live typed of.are_live);
      entries = implemented laws class marked.program graph (ap (λ (g : Graph). g.methods) of.is_cut) typed placed;
    }

pub implement : {E : Type 0} (marked : Marked) (r : Result Graph E) → Laws → IfOk r (IsGraphOf marked) → IsTyped marked.annotated.typed.class marked.program
    → EntriesArePlaced marked.annotated.typed.class marked.program → IfOk r (Implements marked.annotated.typed.class marked.program)
implement marked (Ok graph) laws of typed placed = implements laws marked graph typed placed of
implement marked (Err e) laws of typed placed = of
