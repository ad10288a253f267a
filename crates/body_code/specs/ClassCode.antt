-- The flat code of a class.
use Rattle.std.specs.Prelude.{ℕ, zero, suc, ◌+◌, Bool, true, false, nat_eq, if◌then◌else◌, List, [], ◌∷◌, ◌++◌, length, map, Option, Some, None, slice_get, pos}
use Rattle.std.specs.List.{flat_map, list_any}
use Rattle.sdg_base.specs.declared.value_type.ValueType.{ValueType}
use Rattle.sdg_base.specs.declared.value_type.ValueType.TheVariants as type
use Rattle.java_tree.specs.declared.tree.Class.{Class}
use Rattle.java_tree.specs.declared.tree.Field.{Field}
use Rattle.java_tree.specs.declared.tree.Method.{Method}
use Rattle.java_tree.specs.declared.tree.ResultType.{ResultType}
use Rattle.java_tree.specs.declared.tree.ResultType.TheVariants as result
use Rattle.java_tree.specs.declared.method_kinds.MethodKind.{MethodKind as SourceKind}
use Rattle.java_tree.specs.declared.method_kinds.MethodKind.TheVariants as source_kind
use Rattle.java_tree.specs.declared.types.ValueType.{ValueType as VariableType}
use Rattle.java_tree.specs.declared.types.ValueType.TheVariants as variable
use Rattle.flat_code.specs.declared.graph.FieldKind.{FieldKind}
use Rattle.flat_code.specs.declared.graph.FieldKind.TheVariants as field_kind
use Rattle.flat_code.specs.declared.graph.Flat.{Flat}
use Rattle.flat_code.specs.declared.graph.GraphField.{GraphField}
use Rattle.flat_code.specs.declared.graph.GraphMethod.{GraphMethod}
use Rattle.flat_code.specs.declared.graph.Instr.{Instr}
use Rattle.flat_code.specs.declared.graph.Instr.TheVariants as instr
use Rattle.flat_code.specs.declared.graph.MethodKind.{MethodKind}
use Rattle.flat_code.specs.declared.graph.MethodKind.TheVariants as kind
use Rattle.flat_code.specs.declared.graph.VarType.{VarType}
use Rattle.flat_code.specs.declared.graph.VarType.TheVariants as var
use Rattle.flat_code.specs.declared.graph.VariableType.{VariableType as FlatType}
use Rattle.flat_code.specs.declared.graph.VariableType.TheVariants.{One, Collection}
use Rattle.access_blocks.specs.declared.body.Body.{Body}
use Rattle.access_blocks.specs.declared.body.Holder.{Holder}
use Rattle.access_blocks.specs.declared.body.Program.{Program}
use Rattle.access_blocks.specs.declared.programs.Marked.{Marked}
use Rattle.access_blocks.specs.ResolvingStatements.{declared_type}
use Rattle.access_blocks.specs.Programs.{fields_in, methods_in}
use Rattle.body_code.specs.declared.callee.Callee.{Callee}
use Rattle.body_code.specs.Typing.{Context, type_by}
use Rattle.body_code.specs.Completing.{body_completes}
use Rattle.body_code.specs.Early.{early}
use Rattle.body_code.specs.StatementCode.{Place, Exits, Piece, Scope, pieces_of}

-- ---- fields

abbrev pub kind_by : Bool → FieldKind
kind_by true = field_kind.Partial
kind_by false = field_kind.Partitioned

abbrev pub graph_field : Field → Holder → GraphField
graph_field f h = record { name = f.name; class = h.class; kind = kind_by h.is_partial }

-- each field of the text beside what it holds
abbrev pub graph_fields : List Field → List Holder → List GraphField
graph_fields (f ∷ fs) (h ∷ hs) = graph_field f h ∷ graph_fields fs hs
graph_fields _ _ = []

-- ---- methods as their callers know them

abbrev pub var_type_by : VariableType → VarType
var_type_by variable.Int = var.Int
var_type_by variable.Long = var.Long
var_type_by variable.Boolean = var.Boolean
var_type_by variable.Vector = var.Vector

abbrev pub result_of : ResultType → Option VarType
result_of result.Void = None
result_of (result.Type name) = Some (var_type_by (declared_type name))

abbrev pub result_type : ResultType → ValueType
result_type result.Void = type.Void
result_type (result.Type name) = type_by (declared_type name)

abbrev pub taken_types : ℕ → List VariableType → List ValueType
taken_types zero variables = []
taken_types (suc n) [] = []
taken_types (suc n) (t ∷ variables) = type_by t ∷ taken_types n variables

abbrev pub callee : Method → Body → Callee
callee m b = record { kind = b.kind; params = taken_types b.arity b.variables; result = result_type m.result }

abbrev pub callees : List Method → List Body → List Callee
callees (m ∷ ms) (b ∷ bs) = callee m b ∷ callees ms bs
callees _ _ = []

-- ---- bodies

abbrev pub first_type : List VariableType → Option ValueType
first_type [] = None
first_type (t ∷ ts) = Some (type_by t)

-- the type of the members of the collection that a merge method takes
abbrev pub members_of : SourceKind → List VariableType → Option ValueType
members_of source_kind.Merge variables = first_type variables
members_of _ variables = None

abbrev pub context_of : List Callee → Body → Context
context_of methods b = record { variables = b.variables; methods = methods; members = members_of b.kind b.variables }

abbrev pub scope_of : List GraphField → List Callee → Body → Scope
scope_of fields methods b = record { fields = fields; context = context_of methods b }

-- what a local holds that nothing was assigned to
abbrev pub start_code : VarType → List Instr
start_code var.Int = instr.Int (pos 0) ∷ []
start_code var.Long = instr.Long (pos 0) ∷ []
start_code var.Boolean = instr.Bool false ∷ []
start_code var.Vector = instr.Int (pos 0) ∷ instr.NewVector ∷ []

abbrev pub start_of : Option VariableType → List Instr
start_of None = []
start_of (Some t) = start_code (var_type_by t)

abbrev pub set_at_start : Body → ℕ → List Instr
set_at_start b v = start_of (slice_get b.variables v) ++ instr.Store v ∷ []

abbrev pub started : Body → List Instr
started b = flat_map (set_at_start b) (early b)

-- Tasks count over the whole class. The start task of an entry method comes before those that it cuts.
abbrev pub first_cut : SourceKind → ℕ → ℕ
first_cut source_kind.Entry task = suc task
first_cut _ task = task

abbrev pub body_place : Body → ℕ → Place
body_place b task = record { at = length (started b); task = first_cut b.kind task; variable = length b.variables }

-- No loop is around a body.
abbrev pub no_exits : Exits
no_exits = record { break_to = 0; continue_to = 0 }

abbrev pub is_jump_to : ℕ → Instr → Bool
is_jump_to at (instr.Jump to) = nat_eq to at
is_jump_to at (instr.IfFalse to) = nat_eq to at
is_jump_to at _ = false

-- what stands behind the last statement: a void body's end, or, where no run comes, something for a jump to go to
abbrev pub ending : Bool → List Instr → List Instr
ending true code = instr.ReturnVoid ∷ []
ending false code = if list_any (is_jump_to (length code)) code then instr.Turn ∷ instr.Jump (length code) ∷ [] else []

abbrev pub ended : Bool → List Instr → List Instr
ended completes code = code ++ ending completes code

abbrev pub body_piece : List GraphField → List Callee → Body → Piece
body_piece fields methods b = pieces_of (scope_of fields methods b) b.statements

abbrev pub body_code : List GraphField → List Callee → Body → ℕ → List Instr
body_code fields methods b task =
    ended (body_completes b.statements) (started b ++ (body_piece fields methods b).from (body_place b task) no_exits)

-- ---- methods

abbrev pub graph_kind : SourceKind → MethodKind
graph_kind source_kind.Entry = kind.Entry
graph_kind source_kind.Helper = kind.Helper
graph_kind source_kind.Merge = kind.Merge

abbrev pub one_of : VariableType → FlatType
one_of t = One (var_type_by t)

abbrev pub with_collection : List VariableType → List FlatType
with_collection [] = []
with_collection (t ∷ ts) = Collection (var_type_by t) ∷ map one_of ts

abbrev pub variables_of : SourceKind → List VariableType → List FlatType
variables_of source_kind.Merge variables = with_collection variables
variables_of _ variables = map one_of variables

abbrev pub graph_method : List GraphField → List Callee → Method → Body → ℕ → GraphMethod
graph_method fields methods m b task = record {
  code = body_code fields methods b task;
  kind = graph_kind b.kind;
  name = m.name;
  params = b.arity;
  result = result_of m.result;
  vars = variables_of b.kind b.variables ++ map One (body_piece fields methods b).carried;
}

abbrev pub tasks_of : List GraphField → List Callee → Body → ℕ
tasks_of fields methods b = first_cut b.kind (body_piece fields methods b).tasks

abbrev pub graph_methods : List GraphField → List Callee → List Method → List Body → ℕ → List GraphMethod
graph_methods fields methods (m ∷ ms) (b ∷ bs) task =
    graph_method fields methods m b task ∷ graph_methods fields methods ms bs (task + tasks_of fields methods b)
graph_methods fields methods _ _ task = []

-- ---- the class

abbrev pub fields_of : Class → Program → List GraphField
fields_of class program = graph_fields (fields_in class.members) program.fields

abbrev pub callees_of : Class → Program → List Callee
callees_of class program = callees (methods_in class.members) program.methods

abbrev pub code_of_class : Class → Program → Flat
code_of_class class program = record {
  class = class.name;
  fields = fields_of class program;
  methods = graph_methods (fields_of class program) (callees_of class program) (methods_in class.members) program.methods 0;
}

unfoldable pub flat_of : Marked → Flat
flat_of m = code_of_class m.annotated.typed.class m.program
