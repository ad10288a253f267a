-- When a graph implements a class: it is the code of the class, cut into tasks, and verified; and the code of each entry method does
-- what the annotated source means, from each rest of a call to the next.
use Rattle.std.specs.Prelude.{◌≡◌, ℕ, true, List, [], ◌∷◌, map, slice_get, Some}
use Rattle.sdg_base.specs.Limits.{turns_at_start}
use Rattle.sdg_base.specs.Types as values
use Rattle.sdg_base.specs.declared.val.Val.{Val}
use Rattle.state_classes.specs.States.{State}
use Rattle.java_tree.specs.declared.tree.Class.{Class}
use Rattle.java_tree.specs.declared.tree.Method.{Method}
use Rattle.access_blocks.specs.declared.body.Body.{Body}
use Rattle.access_blocks.specs.declared.body.Program.{Program}
use Rattle.access_blocks.specs.Calls.{machine_at_start, calls_of}
use Rattle.access_blocks.specs.Source.{CallState, Then, Runs}
use Rattle.access_blocks.specs.Statements.{Field}
use Rattle.flat_code.specs.declared.graph.Graph.{Graph}
use Rattle.flat_code.specs.Machine.{first_variables}
use Rattle.flat_code.specs.Verified.{IsVerified}
use Rattle.body_code.specs.ClassCode.{taken_types, code_of_class}
use Rattle.code_meaning.specs.Entries.{IsEntry, on_nothing}
use Rattle.code_meaning.specs.Placed.{are_placed}
use Rattle.code_meaning.specs.Standing.{Entered, IsEntered, code_for, RestsNow, RestsOf, BlocksOf, VisitsOf, JoinsOf}

-- From the start of its code a call comes to where the source rests first.
abbrev pub StartsOf : Entered → Type 0
StartsOf e =
    (args : List Val) → map values.type_of args ≡ taken_types (e.body).arity (e.body).variables → (fields next : List Field) (state : State) (call : CallState)
    → Runs (calls_of (e.program).methods) (Then (e.body).statements ∷ []) (machine_at_start e.body args [] turns_at_start fields) call next
    → RestsNow e on_nothing fields 0 (first_variables (code_for e) args) turns_at_start state call next

-- The code of an entry method does what its body means: from its start; where it rests, it stands at a block or at visits; a block is
-- run on its part; a visit brings what its instance answers; and a join goes on with what was brought.
pub record DoesWhatItMeans (e : Entered) : Type 0 where
  pub starts : StartsOf e
  pub rests : RestsOf e
  pub blocks : BlocksOf e
  pub visits : VisitsOf e
  pub joins : JoinsOf e

abbrev pub entry : Class → Program → ℕ → Method → Body → ℕ → Entered
entry class program n m b task = record { class = class; program = program; number = n; method = m; body = b; task = task }

-- the code of an entry method in the graph, where its tasks count from some number on
pub record IsImplemented (class : Class) (program : Program) (graph : Graph) (n : ℕ) (m : Method) (b : Body) : Type 0 where
  pub task : ℕ
  pub is_code : slice_get graph.methods n ≡ Some (code_for (entry class program n m b task))
  pub entered : IsEntered (entry class program n m b task)
  pub does : DoesWhatItMeans (entry class program n m b task)

-- The graph has the fields and the code of the class and no others, and it is verified.
pub record Implements (class : Class) (program : Program) (graph : Graph) : Type 0 where
  pub fields : graph.fields ≡ (code_of_class class program).fields
  pub methods : graph.methods ≡ (code_of_class class program).methods
  pub verified : IsVerified graph
  pub entries : (n : ℕ) (m : Method) (b : Body) → IsEntry class program n m b → IsImplemented class program graph n m b

-- In the body of each entry method blocks are marked only where steps come to.
abbrev pub EntriesArePlaced : Class → Program → Type 0
EntriesArePlaced class program = (n : ℕ) (m : Method) (b : Body) → IsEntry class program n m b → are_placed b.statements ≡ true
