-- What a writable graph is written as is exact.
use Rattle.std.proofs.Common.{ℕ, ℤ, pos, negsuc, List, [], ◌∷◌, map, Option, Some, None, refl, subst, sym, arith}
use Rattle.std.specs.Prelude.{All, FitsSigned}
use Rattle.std.specs.Int.{w32, w64}
use Rattle.std.specs.Str.{IsUtf8}
use Rattle.std.proofs.lemmas.Str.{utf8_lossy-IsUtf8}
use Rattle.std.proofs.lemmas.List.Elements.{All-head, All-tail}
use Rattle.json.proofs.Printed.Utf8.{IsUtf8-are_ascii}
use Rattle.serde_json.specs.Data.{Data}
use Rattle.serde_json.specs.Find.{of_integer}
use Rattle.serde_json.specs.View.{items_of}
use Rattle.sdg_base.specs.declared.store.ClassName.{ClassName}
use Rattle.sdg_base.specs.declared.store.ClassName.TheVariants as class
use Rattle.sdg_base.specs.declared.operator.BinOp.{BinOp}
use Rattle.sdg_base.specs.declared.operator.BinOp.TheVariants as bin
use Rattle.sdg_base.specs.declared.operator.UnOp.{UnOp}
use Rattle.sdg_base.specs.declared.operator.UnOp.TheVariants as un
use Rattle.sdg_base.specs.declared.val.Num.{Num}
use Rattle.sdg_base.specs.declared.val.Num.TheVariants as num
use Rattle.state_classes.specs.declared.method.Method.{Method}
use Rattle.state_classes.specs.declared.method.Method.TheVariants as method
use Rattle.state_classes.specs.Methods.{method_text}
use Rattle.flat_code.specs.declared.graph.FieldKind.{FieldKind}
use Rattle.flat_code.specs.declared.graph.FieldKind.TheVariants as field_kind
use Rattle.flat_code.specs.declared.graph.MethodKind.{MethodKind}
use Rattle.flat_code.specs.declared.graph.MethodKind.TheVariants as method_kind
use Rattle.flat_code.specs.declared.graph.OperandType.{OperandType}
use Rattle.flat_code.specs.declared.graph.OperandType.TheVariants as operand
use Rattle.flat_code.specs.declared.graph.VarType.{VarType}
use Rattle.flat_code.specs.declared.graph.VarType.TheVariants as var
use Rattle.flat_code.specs.declared.graph.VariableType.{VariableType}
use Rattle.flat_code.specs.declared.graph.VariableType.TheVariants.{One, Collection}
use Rattle.flat_code.specs.declared.graph.TaskKind.{TaskKind}
use Rattle.flat_code.specs.declared.graph.TaskKind.TheVariants as kind
use Rattle.flat_code.specs.declared.graph.GraphField.{GraphField}
use Rattle.flat_code.specs.declared.graph.Instr.{Instr}
use Rattle.flat_code.specs.declared.graph.Instr.TheVariants as instr
use Rattle.flat_code.specs.declared.graph.GraphMethod.{GraphMethod}
use Rattle.flat_code.specs.declared.graph.Task.{Task}
use Rattle.flat_code.specs.declared.graph.Graph.{Graph}
use Rattle.graph_file.specs.Words.{class_word, field_kind_word, method_kind_word, task_kind_word, operand_word, num_word, bin_word, un_word, variable_word, result_word}
use Rattle.graph_file.specs.Written.{name_data, number_data, field_data, instr_data, variable_data, method_data, task_data, graph_data}
use Rattle.graph_file.specs.Writable.{FitsBits, IsWritableInstr, IsWritableMethod, IsNamed, IsWritableTask, IsWritable}
use Rattle.graph_file.proofs.Exact.{IsExactNumber, IsExact, AreExact}

-- ---- words

class_utf8 : (x : ClassName) → IsUtf8 (class_word x)
class_utf8 class.Table = IsUtf8-are_ascii _ refl
class_utf8 class.Matrix = IsUtf8-are_ascii _ refl
class_utf8 class.Counter = IsUtf8-are_ascii _ refl

field_kind_utf8 : (x : FieldKind) → IsUtf8 (field_kind_word x)
field_kind_utf8 field_kind.Partitioned = IsUtf8-are_ascii _ refl
field_kind_utf8 field_kind.Partial = IsUtf8-are_ascii _ refl

method_kind_utf8 : (x : MethodKind) → IsUtf8 (method_kind_word x)
method_kind_utf8 method_kind.Entry = IsUtf8-are_ascii _ refl
method_kind_utf8 method_kind.Helper = IsUtf8-are_ascii _ refl
method_kind_utf8 method_kind.Merge = IsUtf8-are_ascii _ refl

kind_utf8 : (x : TaskKind) → IsUtf8 (task_kind_word x)
kind_utf8 kind.Start = IsUtf8-are_ascii _ refl
kind_utf8 kind.Keyed = IsUtf8-are_ascii _ refl
kind_utf8 kind.Local = IsUtf8-are_ascii _ refl
kind_utf8 kind.Visit = IsUtf8-are_ascii _ refl
kind_utf8 kind.Join = IsUtf8-are_ascii _ refl

operand_utf8 : (x : OperandType) → IsUtf8 (operand_word x)
operand_utf8 operand.Int = IsUtf8-are_ascii _ refl
operand_utf8 operand.Long = IsUtf8-are_ascii _ refl
operand_utf8 operand.Boolean = IsUtf8-are_ascii _ refl

num_utf8 : (x : Num) → IsUtf8 (num_word x)
num_utf8 num.Int = IsUtf8-are_ascii _ refl
num_utf8 num.Long = IsUtf8-are_ascii _ refl

bin_utf8 : (x : BinOp) → IsUtf8 (bin_word x)
bin_utf8 bin.Mul = IsUtf8-are_ascii _ refl
bin_utf8 bin.Div = IsUtf8-are_ascii _ refl
bin_utf8 bin.Rem = IsUtf8-are_ascii _ refl
bin_utf8 bin.Add = IsUtf8-are_ascii _ refl
bin_utf8 bin.Sub = IsUtf8-are_ascii _ refl
bin_utf8 bin.Shl = IsUtf8-are_ascii _ refl
bin_utf8 bin.Shr = IsUtf8-are_ascii _ refl
bin_utf8 bin.UShr = IsUtf8-are_ascii _ refl
bin_utf8 bin.Lt = IsUtf8-are_ascii _ refl
bin_utf8 bin.Le = IsUtf8-are_ascii _ refl
bin_utf8 bin.Gt = IsUtf8-are_ascii _ refl
bin_utf8 bin.Ge = IsUtf8-are_ascii _ refl
bin_utf8 bin.Eq = IsUtf8-are_ascii _ refl
bin_utf8 bin.Ne = IsUtf8-are_ascii _ refl
bin_utf8 bin.And = IsUtf8-are_ascii _ refl
bin_utf8 bin.Xor = IsUtf8-are_ascii _ refl
bin_utf8 bin.Or = IsUtf8-are_ascii _ refl
bin_utf8 bin.AndAlso = IsUtf8-are_ascii _ refl
bin_utf8 bin.OrElse = IsUtf8-are_ascii _ refl

un_utf8 : (x : UnOp) → IsUtf8 (un_word x)
un_utf8 un.Plus = IsUtf8-are_ascii _ refl
un_utf8 un.Minus = IsUtf8-are_ascii _ refl
un_utf8 un.Complement = IsUtf8-are_ascii _ refl
un_utf8 un.Not = IsUtf8-are_ascii _ refl

state_method_utf8 : (x : Method) → IsUtf8 (method_text x)
state_method_utf8 method.Get = IsUtf8-are_ascii _ refl
state_method_utf8 method.Has = IsUtf8-are_ascii _ refl
state_method_utf8 method.Put = IsUtf8-are_ascii _ refl
state_method_utf8 method.Add = IsUtf8-are_ascii _ refl
state_method_utf8 method.Remove = IsUtf8-are_ascii _ refl
state_method_utf8 method.Size = IsUtf8-are_ascii _ refl
state_method_utf8 method.GetElement = IsUtf8-are_ascii _ refl
state_method_utf8 method.SetElement = IsUtf8-are_ascii _ refl
state_method_utf8 method.AddElement = IsUtf8-are_ascii _ refl
state_method_utf8 method.GetRow = IsUtf8-are_ascii _ refl
state_method_utf8 method.Multiply = IsUtf8-are_ascii _ refl
state_method_utf8 method.Set = IsUtf8-are_ascii _ refl

variable_utf8 : (x : VariableType) → IsUtf8 (variable_word x)
variable_utf8 (One var.Int) = IsUtf8-are_ascii _ refl
variable_utf8 (One var.Long) = IsUtf8-are_ascii _ refl
variable_utf8 (One var.Boolean) = IsUtf8-are_ascii _ refl
variable_utf8 (One var.Vector) = IsUtf8-are_ascii _ refl
variable_utf8 (Collection var.Int) = IsUtf8-are_ascii _ refl
variable_utf8 (Collection var.Long) = IsUtf8-are_ascii _ refl
variable_utf8 (Collection var.Boolean) = IsUtf8-are_ascii _ refl
variable_utf8 (Collection var.Vector) = IsUtf8-are_ascii _ refl

result_utf8 : (x : Option VarType) → IsUtf8 (result_word x)
result_utf8 None = IsUtf8-are_ascii _ refl
result_utf8 (Some t) = variable_utf8 (One t)

-- ---- names and numbers

name_exact : (name : List ℕ) → IsUtf8 name → IsExact (name_data name)
name_exact name h = subst IsUtf8 (sym (utf8_lossy-IsUtf8 name h)) h

integer_exact : (n : ℤ) → FitsSigned w64 n → IsExactNumber (of_integer n)
integer_exact (pos n) h = omega arith
integer_exact (negsuc n) h = omega arith

int_exact : (n : ℤ) → FitsSigned w32 n → IsExactNumber (of_integer n)
int_exact (pos n) h = omega arith
int_exact (negsuc n) h = omega arith

number_exact : (n : ℕ) → FitsBits 32 n → IsExact (number_data n)
number_exact n h = omega arith

short_exact : (n : ℕ) → FitsBits 16 n → IsExact (number_data n)
short_exact n h = omega arith

-- ---- lists

list_exact : {A : Type 0} (data_of : A → Data) (P : A → Type 0) → ((x : A) → P x → IsExact (data_of x)) → (xs : List A) → All P xs → AreExact (items_of (map data_of xs))
list_exact data_of P exact [] h = tt
list_exact data_of P exact (x ∷ xs) h = (exact x (All-head P x xs h), list_exact data_of P exact xs (All-tail P x xs h))

-- ---- instructions

instr_exact : (i : Instr) → IsWritableInstr i → IsExact (instr_data i)
instr_exact (instr.Int n) h = (IsUtf8-are_ascii _ refl, (int_exact n h, tt))
instr_exact (instr.Long n) h = (IsUtf8-are_ascii _ refl, (integer_exact n h, tt))
instr_exact (instr.Bool b) h = (IsUtf8-are_ascii _ refl, (tt, tt))
instr_exact (instr.Load v) h = (IsUtf8-are_ascii _ refl, (number_exact v h, tt))
instr_exact (instr.Store v) h = (IsUtf8-are_ascii _ refl, (number_exact v h, tt))
instr_exact instr.Pop h = (IsUtf8-are_ascii _ refl, tt)
instr_exact (instr.Bin op t) h = (IsUtf8-are_ascii _ refl, (bin_utf8 op, (operand_utf8 t, tt)))
instr_exact (instr.Un op) h = (IsUtf8-are_ascii _ refl, (un_utf8 op, tt))
instr_exact (instr.Cast t) h = (IsUtf8-are_ascii _ refl, (num_utf8 t, tt))
instr_exact (instr.Jump i) h = (IsUtf8-are_ascii _ refl, (number_exact i h, tt))
instr_exact (instr.IfFalse i) h = (IsUtf8-are_ascii _ refl, (number_exact i h, tt))
instr_exact instr.Turn h = (IsUtf8-are_ascii _ refl, tt)
instr_exact instr.NewVector h = (IsUtf8-are_ascii _ refl, tt)
instr_exact (instr.VectorSize v) h = (IsUtf8-are_ascii _ refl, (number_exact v h, tt))
instr_exact (instr.VectorGet v) h = (IsUtf8-are_ascii _ refl, (number_exact v h, tt))
instr_exact (instr.VectorSet v) h = (IsUtf8-are_ascii _ refl, (number_exact v h, tt))
instr_exact (instr.CollectionLength v) h = (IsUtf8-are_ascii _ refl, (number_exact v h, tt))
instr_exact (instr.CollectionItem v) h = (IsUtf8-are_ascii _ refl, (number_exact v h, tt))
instr_exact (instr.CollectionSize v) h = (IsUtf8-are_ascii _ refl, (number_exact v h, tt))
instr_exact (instr.CollectionCheck v) h = (IsUtf8-are_ascii _ refl, (number_exact v h, tt))
instr_exact (instr.CollectionGet v) h = (IsUtf8-are_ascii _ refl, (number_exact v h, tt))
instr_exact (instr.Call m) h = (IsUtf8-are_ascii _ refl, (short_exact m h, tt))
instr_exact instr.Key h = (IsUtf8-are_ascii _ refl, tt)
instr_exact (instr.Access f m) h = (IsUtf8-are_ascii _ refl, (name_exact f h, (state_method_utf8 m, tt)))
instr_exact (instr.Cut t) h = (IsUtf8-are_ascii _ refl, (number_exact t h, tt))
instr_exact (instr.Part t) h = (IsUtf8-are_ascii _ refl, (number_exact t h, tt))
instr_exact (instr.Merge m) h = (IsUtf8-are_ascii _ refl, (short_exact m h, tt))
instr_exact instr.Return h = (IsUtf8-are_ascii _ refl, tt)
instr_exact instr.ReturnVoid h = (IsUtf8-are_ascii _ refl, tt)

-- ---- fields, methods, tasks and graphs

field_exact : (f : GraphField) → IsUtf8 f.name → IsExact (field_data f)
field_exact f h = (name_exact f.name h, (class_utf8 f.class, (field_kind_utf8 f.kind, tt)))

variable_exact : (x : VariableType) → Unit {0} → IsExact (variable_data x)
variable_exact x h = variable_utf8 x

method_exact : (m : GraphMethod) → IsWritableMethod m → IsExact (method_data m)
method_exact m h = (
  refl,
  (
    IsUtf8-are_ascii _ refl,
    list_exact instr_data IsWritableInstr instr_exact m.code h.code,
    (
      IsUtf8-are_ascii _ refl,
      method_kind_utf8 m.kind,
      (
        IsUtf8-are_ascii _ refl,
        name_exact m.name h.name,
        (
          IsUtf8-are_ascii _ refl,
          number_exact m.params h.params,
          (
            IsUtf8-are_ascii _ refl,
            result_utf8 m.result,
            (IsUtf8-are_ascii _ refl, list_exact variable_data (λ x. Unit {0}) variable_exact m.vars (λ k d within. tt), tt),
          ),
        ),
      ),
    ),
  ),
)

task_parts_exact : (at : ℕ) (field : Option (List ℕ)) (k : TaskKind) (m : ℕ) (vars : List ℕ) → FitsBits 32 at → IsNamed field → FitsBits 16 m → All (FitsBits 32) vars
    → IsExact (task_data (record { at = at; field = field; kind = k; method = m; vars = vars }))
task_parts_exact at None k m vars a n b v = (
  refl,
  (
    IsUtf8-are_ascii _ refl,
    number_exact at a,
    (
      IsUtf8-are_ascii _ refl,
      kind_utf8 k,
      (
        IsUtf8-are_ascii _ refl,
        short_exact m b,
        (IsUtf8-are_ascii _ refl, list_exact number_data (FitsBits 32) number_exact vars v, tt),
      ),
    ),
  ),
)
task_parts_exact at (Some f) k m vars a n b v = (
  refl,
  (
    IsUtf8-are_ascii _ refl,
    number_exact at a,
    (
      IsUtf8-are_ascii _ refl,
      name_exact f n,
      (
        IsUtf8-are_ascii _ refl,
        kind_utf8 k,
        (
          IsUtf8-are_ascii _ refl,
          short_exact m b,
          (IsUtf8-are_ascii _ refl, list_exact number_data (FitsBits 32) number_exact vars v, tt),
        ),
      ),
    ),
  ),
)

task_exact : (t : Task) → IsWritableTask t → IsExact (task_data t)
task_exact t h = task_parts_exact t.at t.field t.kind t.method t.vars h.at h.named h.method h.vars

pub graph_exact : (g : Graph) → IsWritable g → IsExact (graph_data g)
graph_exact g h = (
  refl,
  (
    IsUtf8-are_ascii _ refl,
    name_exact g.class h.class,
    (
      IsUtf8-are_ascii _ refl,
      list_exact field_data (λ f. IsUtf8 f.name) field_exact g.fields h.fields,
      (
        IsUtf8-are_ascii _ refl,
        list_exact method_data IsWritableMethod method_exact g.methods h.methods,
        (
          IsUtf8-are_ascii _ refl,
          list_exact task_data IsWritableTask task_exact g.tasks h.tasks,
          (IsUtf8-are_ascii _ refl, number_exact 1 (omega arith), tt),
        ),
      ),
    ),
  ),
)
