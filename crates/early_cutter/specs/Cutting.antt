-- The tasks of a class's flat code, and the class as a graph.
use Rattle.std.specs.Prelude.{ℕ, ◌+◌, List, [], ◌∷◌, ◌++◌, length, map, Option, Some, None}
use Rattle.std.specs.List.{range_with_len}
use Rattle.early_task_code.specs.declared.graph.Instr.{Instr}
use Rattle.early_task_code.specs.declared.graph.Instr.TheVariants as instr
use Rattle.early_task_code.specs.declared.graph.TaskKind.TheVariants as task_kind
use Rattle.early_task_code.specs.declared.graph.GraphMethod.{GraphMethod}
use Rattle.early_task_code.specs.declared.graph.Task.{Task}
use Rattle.early_task_code.specs.declared.graph.Graph.{Graph}
use Rattle.early_forms.specs.declared.straight.StraightClass.{StraightClass}
use Rattle.early_cutter.specs.Lowering.{lowered_methods, table_field}
use Rattle.early_cutter.specs.Liveness.{live_variables}

abbrev pub field_before : Instr → Option ℕ → Option ℕ
field_before (instr.Access field m) behind = Some field
field_before _ behind = behind

-- the field of the first access
abbrev pub first_field : List Instr → Option ℕ
first_field [] = None
first_field (i ∷ is) = field_before i (first_field is)

-- A call begins with all of its arguments.
abbrev pub start_task : ℕ → GraphMethod → Task
start_task method m = record { at = 0; field = None; kind = task_kind.Start; method = method; vars = range_with_len 0 m.params }

-- the task of the code behind a cut
abbrev pub keyed_task : ℕ → ℕ → ℕ → List Instr → Task
keyed_task method count at code =
    record { at = at; field = first_field code; kind = task_kind.Keyed; method = method; vars = live_variables count code }

abbrev pub task_of_cut : ℕ → ℕ → ℕ → Instr → List Instr → List Task
task_of_cut method count at (instr.Cut t) code = keyed_task method count at code ∷ []
task_of_cut method count at _ code = []

-- the tasks of the cuts in the code of a method with so many variables, from the instruction of this number on
abbrev pub cut_tasks : ℕ → ℕ → ℕ → List Instr → List Task
cut_tasks method count at [] = []
cut_tasks method count at (i ∷ is) = task_of_cut method count (at + 1) i is ++ cut_tasks method count (at + 1) is

abbrev pub method_tasks : ℕ → GraphMethod → List Task
method_tasks method m = start_task method m ∷ cut_tasks method (length m.vars) 0 m.code

abbrev pub tasks_from : ℕ → List GraphMethod → List Task
tasks_from method [] = []
tasks_from method (m ∷ ms) = method_tasks method m ++ tasks_from (method + 1) ms

abbrev pub graph_of : StraightClass → Graph
graph_of c =
    let methods = lowered_methods c.fields 0 c.methods in
    record { class = c.name; fields = map table_field c.fields; methods = methods; tasks = tasks_from 0 methods }
