-- A small graph: one field, and an entry method with one keyed access to it.
use Rattle.std.specs.Prelude.{List, [], ◌∷◌, Some, None, codes}
use Rattle.sdg_base.specs.declared.store.ClassName.TheVariants as class_name
use Rattle.state_classes.specs.declared.method.Method.TheVariants as method
use Rattle.flat_code.specs.declared.graph.FieldKind.TheVariants as field_kind
use Rattle.flat_code.specs.declared.graph.GraphField.{GraphField}
use Rattle.flat_code.specs.declared.graph.GraphMethod.{GraphMethod}
use Rattle.flat_code.specs.declared.graph.Graph.{Graph}
use Rattle.flat_code.specs.declared.graph.MethodKind.TheVariants as method_kind
use Rattle.flat_code.specs.declared.graph.VarType.TheVariants as var
use Rattle.flat_code.specs.declared.graph.VariableType.TheVariants.{One}
use Rattle.flat_code.specs.declared.graph.Task.{Task}
use Rattle.flat_code.specs.declared.graph.TaskKind.TheVariants as kind
use Rattle.flat_code.specs.declared.graph.Instr.{Instr}
use Rattle.flat_code.specs.declared.graph.Instr.TheVariants as instr

abbrev pub small_field : GraphField
small_field = record { name = codes "t"; class = class_name.Table; kind = field_kind.Partitioned }

-- the value of the key that is the argument
abbrev pub small_code : List Instr
small_code = instr.Load 0 ∷ instr.Turn ∷ instr.Cut 1 ∷ instr.Key ∷ instr.Access (codes "t") method.Get ∷ instr.Return ∷ []

abbrev pub small_method : GraphMethod
small_method = record { code = small_code; kind = method_kind.Entry; name = codes "get"; params = 1; result = Some var.Long; vars = One var.Long ∷ [] }

abbrev pub small_start : Task
small_start = record { at = 0; field = None; kind = kind.Start; method = 0; vars = 0 ∷ [] }

abbrev pub small_keyed : Task
small_keyed = record { at = 3; field = Some (codes "t"); kind = kind.Keyed; method = 0; vars = [] }

abbrev pub small_graph : Graph
small_graph = record { class = codes "C"; fields = small_field ∷ []; methods = small_method ∷ []; tasks = small_start ∷ small_keyed ∷ [] }
