-- Sound code: what every class whose bodies are typed is as flat code, whatever its tasks are.
use Rattle.std.specs.Prelude.{◌≡◌, ◌≢◌, ℕ, ◌≤◌, ◌<◌, List, length, map, Some, slice_get}
use Rattle.java_tree.specs.declared.tree.Class.{Class}
use Rattle.flat_code.specs.declared.graph.Flat.{Flat}
use Rattle.flat_code.specs.declared.graph.Graph.{Graph}
use Rattle.flat_code.specs.declared.graph.GraphMethod.{GraphMethod}
use Rattle.flat_code.specs.declared.graph.Instr.{Instr}
use Rattle.flat_code.specs.declared.graph.MethodKind.TheVariants as method_kind
use Rattle.flat_code.specs.declared.graph.Task.{Task}
use Rattle.flat_code.specs.Ways.{IsFree, IsNeeded}
use Rattle.flat_code.specs.Verified.{AreNames, IsMethod, IsOfBody, Calls}
use Rattle.access_blocks.specs.declared.body.Program.{Program}
use Rattle.body_code.specs.Checking.{IsTyped}
use Rattle.body_code.specs.ClassCode.{code_of_class}

-- flat code with some tasks
abbrev pub with_tasks : Flat → List Task → Graph
with_tasks flat tasks = record { class = flat.class; fields = flat.fields; methods = flat.methods; tasks = tasks }

pub record IsSound (graph : Graph) : Type 0 where
  pub few_fields : length graph.fields ≤ 64
  pub few_methods : length graph.methods ≤ 256
  pub field_names : AreNames (map (λ field. field.name) graph.fields)
  pub method_names : AreNames (map (λ m. m.name) graph.methods)
  pub parameters : (n : ℕ) (m : GraphMethod) → IsMethod graph n m → m.params ≤ length m.vars
  -- each instruction stands in a method of its kind
  pub bodies : (n : ℕ) (m : GraphMethod) (at : ℕ) (i : Instr) → IsMethod graph n m → slice_get m.code at ≡ Some i → IsOfBody m.kind i
  -- what a helper or a merge method reads is a parameter, or it is written before
  pub helpers : (n : ℕ) (m : GraphMethod) (v : ℕ) → IsMethod graph n m → m.kind ≢ method_kind.Entry → IsNeeded graph.tasks m.code v 0 → v < m.params
  pub no_cycle : (n : ℕ) → Calls graph n n → ⊥
  -- every way back spends a turn
  pub turns : (n : ℕ) (m : GraphMethod) (at : ℕ) → IsMethod graph n m → IsFree m.code at at → ⊥

unfoldable pub TypedClassesAreSound : Type 0
TypedClassesAreSound = (class : Class) (program : Program) (tasks : List Task) → IsTyped class program → IsSound (with_tasks (code_of_class class program) tasks)
