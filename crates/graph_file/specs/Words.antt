-- The words of a graph file: for each kind of thing that it names by a word, that word, and all that it may name so.
use Rattle.std.specs.Prelude.{ℕ, List, [], ◌∷◌, Option, Some, None, codes, if◌then◌else◌}
use Rattle.std.specs.Str.{bytes_eq}
use Rattle.state_classes.specs.declared.method.Method.{Method}
use Rattle.state_classes.specs.declared.method.Method.TheVariants as method
use Rattle.flat_code.specs.declared.graph.VarType.{VarType}
use Rattle.flat_code.specs.declared.graph.VarType.TheVariants as var
use Rattle.flat_code.specs.declared.graph.VariableType.{VariableType}
use Rattle.flat_code.specs.declared.graph.VariableType.TheVariants.{One, Collection}
use Rattle.sdg_base.specs.declared.store.ClassName.{ClassName}
use Rattle.sdg_base.specs.declared.store.ClassName.TheVariants as class
use Rattle.flat_code.specs.declared.graph.FieldKind.{FieldKind}
use Rattle.flat_code.specs.declared.graph.FieldKind.TheVariants as field_kind
use Rattle.flat_code.specs.declared.graph.MethodKind.{MethodKind}
use Rattle.flat_code.specs.declared.graph.MethodKind.TheVariants as method_kind
use Rattle.flat_code.specs.declared.graph.TaskKind.{TaskKind}
use Rattle.flat_code.specs.declared.graph.TaskKind.TheVariants as task_kind
use Rattle.flat_code.specs.declared.graph.OperandType.{OperandType}
use Rattle.flat_code.specs.declared.graph.OperandType.TheVariants as operand
use Rattle.sdg_base.specs.declared.val.Num.{Num}
use Rattle.sdg_base.specs.declared.val.Num.TheVariants as num
use Rattle.sdg_base.specs.declared.operator.BinOp.{BinOp}
use Rattle.sdg_base.specs.declared.operator.BinOp.TheVariants as bin
use Rattle.sdg_base.specs.declared.operator.UnOp.{UnOp}
use Rattle.sdg_base.specs.declared.operator.UnOp.TheVariants as un

-- the first of some things with this word
abbrev pub first_named : {A : Type 0} → (A → List ℕ) → List ℕ → List A → Option A
first_named word text [] = None
first_named word text (x ∷ xs) = if bytes_eq text (word x) then Some x else first_named word text xs

abbrev pub class_word : ClassName → List ℕ
class_word class.Table = codes "Table"
class_word class.Matrix = codes "Matrix"
class_word class.Counter = codes "Counter"

abbrev pub classes : List ClassName
classes = class.Table ∷ class.Matrix ∷ class.Counter ∷ []

abbrev pub field_kind_word : FieldKind → List ℕ
field_kind_word field_kind.Partitioned = codes "partitioned"
field_kind_word field_kind.Partial = codes "partial"

abbrev pub field_kinds : List FieldKind
field_kinds = field_kind.Partitioned ∷ field_kind.Partial ∷ []

abbrev pub method_kind_word : MethodKind → List ℕ
method_kind_word method_kind.Entry = codes "entry"
method_kind_word method_kind.Helper = codes "helper"
method_kind_word method_kind.Merge = codes "merge"

abbrev pub method_kinds : List MethodKind
method_kinds = method_kind.Entry ∷ method_kind.Helper ∷ method_kind.Merge ∷ []

abbrev pub task_kind_word : TaskKind → List ℕ
task_kind_word task_kind.Start = codes "start"
task_kind_word task_kind.Keyed = codes "keyed"
task_kind_word task_kind.Local = codes "local"
task_kind_word task_kind.Visit = codes "visit"
task_kind_word task_kind.Join = codes "join"

abbrev pub task_kinds : List TaskKind
task_kinds = task_kind.Start ∷ task_kind.Keyed ∷ task_kind.Local ∷ task_kind.Visit ∷ task_kind.Join ∷ []

abbrev pub operand_word : OperandType → List ℕ
operand_word operand.Int = codes "int"
operand_word operand.Long = codes "long"
operand_word operand.Boolean = codes "boolean"

abbrev pub operand_types : List OperandType
operand_types = operand.Int ∷ operand.Long ∷ operand.Boolean ∷ []

abbrev pub num_word : Num → List ℕ
num_word num.Int = codes "int"
num_word num.Long = codes "long"

abbrev pub nums : List Num
nums = num.Int ∷ num.Long ∷ []

abbrev pub bin_word : BinOp → List ℕ
bin_word bin.Mul = codes "*"
bin_word bin.Div = codes "/"
bin_word bin.Rem = codes "%"
bin_word bin.Add = codes "+"
bin_word bin.Sub = codes "-"
bin_word bin.Shl = codes "<<"
bin_word bin.Shr = codes ">>"
bin_word bin.UShr = codes ">>>"
bin_word bin.Lt = codes "<"
bin_word bin.Le = codes "<="
bin_word bin.Gt = codes ">"
bin_word bin.Ge = codes ">="
bin_word bin.Eq = codes "=="
bin_word bin.Ne = codes "!="
bin_word bin.And = codes "&"
bin_word bin.Xor = codes "^"
bin_word bin.Or = codes "|"
bin_word bin.AndAlso = codes "&&"
bin_word bin.OrElse = codes "||"

-- `&&` and `||` are jumps in flat code.
abbrev pub bin_ops : List BinOp
bin_ops = bin.Mul ∷ bin.Div ∷ bin.Rem ∷ bin.Add ∷ bin.Sub ∷ bin.Shl ∷ bin.Shr ∷ bin.UShr ∷ bin.Lt ∷ bin.Le ∷ bin.Gt ∷ bin.Ge ∷ bin.Eq ∷ bin.Ne ∷ bin.And ∷ bin.Xor ∷ bin.Or ∷ []

abbrev pub un_word : UnOp → List ℕ
un_word un.Plus = codes "+"
un_word un.Minus = codes "-"
un_word un.Complement = codes "~"
un_word un.Not = codes "!"

-- A unary plus adds nothing to flat code.
abbrev pub un_ops : List UnOp
un_ops = un.Minus ∷ un.Complement ∷ un.Not ∷ []

abbrev pub methods : List Method
methods = method.Get ∷ method.Has ∷ method.Put ∷ method.Add ∷ method.Remove ∷ method.Size ∷ method.GetElement ∷ method.SetElement ∷ method.AddElement ∷ method.GetRow ∷ method.Multiply ∷ method.Set ∷ []

abbrev pub variable_word : VariableType → List ℕ
variable_word (One var.Int) = codes "int"
variable_word (One var.Long) = codes "long"
variable_word (One var.Boolean) = codes "boolean"
variable_word (One var.Vector) = codes "Vector"
variable_word (Collection var.Int) = codes "int[]"
variable_word (Collection var.Long) = codes "long[]"
variable_word (Collection var.Boolean) = codes "boolean[]"
variable_word (Collection var.Vector) = codes "Vector[]"

abbrev pub variable_types : List VariableType
variable_types =
    One var.Int ∷ One var.Long ∷ One var.Boolean ∷ One var.Vector ∷ Collection var.Int ∷ Collection var.Long ∷ Collection var.Boolean ∷ Collection var.Vector ∷ []

-- the type of a result; a void method has none
abbrev pub result_word : Option VarType → List ℕ
result_word None = codes "void"
result_word (Some t) = variable_word (One t)

abbrev pub result_types : List (Option VarType)
result_types = None ∷ Some var.Int ∷ Some var.Long ∷ Some var.Boolean ∷ Some var.Vector ∷ []
