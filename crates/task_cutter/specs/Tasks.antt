-- The tasks of flat code, and the flat code with its tasks as a graph.
use Rattle.std.specs.Prelude.{ℕ, zero, suc, Bool, true, false, if◌then◌else◌, List, [], ◌∷◌, ◌++◌, Option, Some, None, slice_get, unwrap_or}
use Rattle.flat_code.specs.declared.graph.FieldKind.{FieldKind}
use Rattle.flat_code.specs.declared.graph.FieldKind.TheVariants as field_kind
use Rattle.flat_code.specs.declared.graph.Flat.{Flat}
use Rattle.flat_code.specs.declared.graph.Graph.{Graph}
use Rattle.flat_code.specs.declared.graph.GraphField.{GraphField}
use Rattle.flat_code.specs.declared.graph.GraphMethod.{GraphMethod}
use Rattle.flat_code.specs.declared.graph.Instr.{Instr}
use Rattle.flat_code.specs.declared.graph.Instr.TheVariants as instr
use Rattle.flat_code.specs.declared.graph.MethodKind.{MethodKind}
use Rattle.flat_code.specs.declared.graph.MethodKind.TheVariants as method_kind
use Rattle.flat_code.specs.declared.graph.Task.{Task}
use Rattle.flat_code.specs.declared.graph.TaskKind.{TaskKind}
use Rattle.flat_code.specs.declared.graph.TaskKind.TheVariants as kind
use Rattle.flat_code.specs.Types.{field_named}
use Rattle.flat_code.specs.Fits.{parameters}

-- ---- the first access in code

abbrev pub is_access : Instr → Bool
is_access (instr.Access name m) = true
is_access _ = false

abbrev pub from_access : List Instr → List Instr
from_access [] = []
from_access (i ∷ code) = if is_access i then i ∷ code else from_access code

abbrev pub accessed : Option Instr → Option (List ℕ)
accessed (Some (instr.Access name m)) = Some name
accessed _ = None

-- the name of the field of the first access
abbrev pub first_field : List Instr → Option (List ℕ)
first_field code = accessed (slice_get (from_access code) 0)

abbrev pub is_part : Option Instr → Bool
is_part (Some (instr.Part t)) = true
is_part _ = false

-- A part stands right behind the first access.
abbrev pub is_visit : List Instr → Bool
is_visit code = is_part (slice_get (from_access code) 1)

-- ---- what a cut begins

abbrev pub is_partitioned_kind : FieldKind → Bool
is_partitioned_kind field_kind.Partitioned = true
is_partitioned_kind field_kind.Partial = false

abbrev pub is_partitioned : Option GraphField → Bool
is_partitioned None = false
is_partitioned (Some field) = is_partitioned_kind field.kind

abbrev pub kind_by : Bool → Bool → TaskKind
kind_by true visit = kind.Keyed
kind_by false true = kind.Visit
kind_by false false = kind.Local

-- the kind of a task that accesses this field, and whose visit ends in a part or not
abbrev pub cut_kind : List GraphField → Option (List ℕ) → Bool → TaskKind
cut_kind fields None visit = kind_by false visit
cut_kind fields (Some name) visit = kind_by (is_partitioned (field_named name fields)) visit

-- ---- tasks

abbrev pub set_in : Option (List (List ℕ)) → ℕ → List ℕ
set_in None at = []
set_in (Some sets) at = unwrap_or (slice_get sets at) []

-- the set of live variables of an instruction of a method
abbrev pub set_at : List (List (List ℕ)) → ℕ → ℕ → List ℕ
set_at live method at = set_in (slice_get live method) at

-- the start of an entry method, which has all of its arguments
abbrev pub start_task : ℕ → GraphMethod → Task
start_task method m = record { at = zero; field = None; kind = kind.Start; method = method; vars = parameters m }

-- the task that a cut begins with the code behind it
abbrev pub cut_task : List GraphField → List (List (List ℕ)) → ℕ → ℕ → List Instr → Task
cut_task fields live method at code =
    record { at = at; field = first_field code; kind = cut_kind fields (first_field code) (is_visit code); method = method; vars = set_at live method at }

-- the task that goes on behind a part
abbrev pub join_task : List (List (List ℕ)) → ℕ → ℕ → Task
join_task live method at = record { at = at; field = None; kind = kind.Join; method = method; vars = set_at live method at }

abbrev pub task_behind : List GraphField → List (List (List ℕ)) → ℕ → ℕ → Instr → List Instr → List Task
task_behind fields live method at (instr.Cut t) code = cut_task fields live method at code ∷ []
task_behind fields live method at (instr.Part t) code = join_task live method at ∷ []
task_behind fields live method at _ code = []

-- the tasks behind the cuts and parts of a method's code, from the instruction of this number on
abbrev pub tasks_behind : List GraphField → List (List (List ℕ)) → ℕ → ℕ → List Instr → List Task
tasks_behind fields live method at [] = []
tasks_behind fields live method at (i ∷ code) = task_behind fields live method (suc at) i code ++ tasks_behind fields live method (suc at) code

-- Only entry methods have tasks.
abbrev pub method_tasks : List GraphField → List (List (List ℕ)) → ℕ → GraphMethod → MethodKind → List Task
method_tasks fields live method m method_kind.Entry = start_task method m ∷ tasks_behind fields live method zero m.code
method_tasks fields live method m _ = []

-- the tasks of methods, from the one of this number on
abbrev pub tasks_from : List GraphField → List (List (List ℕ)) → ℕ → List GraphMethod → List Task
tasks_from fields live method [] = []
tasks_from fields live method (m ∷ ms) = method_tasks fields live method m m.kind ++ tasks_from fields live (suc method) ms

abbrev pub graph_of : Flat → List (List (List ℕ)) → Graph
graph_of flat live = record { class = flat.class; fields = flat.fields; methods = flat.methods; tasks = tasks_from flat.fields live zero flat.methods }
