-- What a writable graph is written as has the form of a file, and is that graph.
use Rattle.std.proofs.Common.{◌≡◌, ◌<◌, ◌≤◌, ◌^◌, ℕ, suc, ℤ, pos, negsuc, List, [], ◌∷◌, map, Option, Some, None, Ok, refl, sym, ap, arith, lt-ltb, le-ltb}
use Rattle.std.specs.Prelude.{All, is_some, FitsSigned}
use Rattle.std.specs.Int.{w32, w64}
use Rattle.std.specs.Str.{IsUtf8}
use Rattle.std.proofs.lemmas.Str.{utf8_lossy-IsUtf8}
use Rattle.std.proofs.lemmas.List.Elements.{All-head, All-tail}
use Rattle.serde_json.specs.Data.{Data, string, number}
use Rattle.serde_json.specs.Find.{of_integer}
use Rattle.serde_json.specs.View.{items_of}
use Rattle.sdg_base.specs.declared.store.ClassName.{ClassName}
use Rattle.sdg_base.specs.declared.store.ClassName.TheVariants as class
use Rattle.sdg_base.specs.declared.operator.BinOp.{BinOp}
use Rattle.sdg_base.specs.declared.operator.BinOp.TheVariants as bin
use Rattle.sdg_base.specs.declared.operator.UnOp.{UnOp}
use Rattle.sdg_base.specs.declared.operator.UnOp.TheVariants as un
use Rattle.sdg_base.specs.declared.val.Num.{Num}
use Rattle.sdg_base.specs.declared.val.Num.TheVariants as num
use Rattle.state_classes.specs.declared.method.Method.{Method}
use Rattle.state_classes.specs.declared.method.Method.TheVariants as method
use Rattle.state_classes.specs.Methods.{method_text}
use Rattle.flat_code.specs.declared.graph.FieldKind.{FieldKind}
use Rattle.flat_code.specs.declared.graph.FieldKind.TheVariants as field_kind
use Rattle.flat_code.specs.declared.graph.MethodKind.{MethodKind}
use Rattle.flat_code.specs.declared.graph.MethodKind.TheVariants as method_kind
use Rattle.flat_code.specs.declared.graph.OperandType.{OperandType}
use Rattle.flat_code.specs.declared.graph.OperandType.TheVariants as operand
use Rattle.flat_code.specs.declared.graph.VarType.{VarType}
use Rattle.flat_code.specs.declared.graph.VarType.TheVariants as var
use Rattle.flat_code.specs.declared.graph.VariableType.{VariableType}
use Rattle.flat_code.specs.declared.graph.VariableType.TheVariants.{One, Collection}
use Rattle.flat_code.specs.declared.graph.TaskKind.{TaskKind}
use Rattle.flat_code.specs.declared.graph.TaskKind.TheVariants as kind
use Rattle.flat_code.specs.declared.graph.GraphField.{GraphField}
use Rattle.flat_code.specs.declared.graph.Instr.{Instr}
use Rattle.flat_code.specs.declared.graph.Instr.TheVariants as instr
use Rattle.flat_code.specs.declared.graph.GraphMethod.{GraphMethod}
use Rattle.flat_code.specs.declared.graph.Task.{Task}
use Rattle.flat_code.specs.declared.graph.Graph.{Graph}
use Rattle.graph_file.specs.Words.{class_word, classes, field_kind_word, field_kinds, method_kind_word, method_kinds, task_kind_word, task_kinds, operand_word, operand_types, num_word, nums, bin_word, bin_ops, un_word, un_ops, methods, variable_word, variable_types, result_word, result_types}
use Rattle.graph_file.specs.Written.{name_data, number_data, list_data, field_data, instr_data, variable_data, method_data, task_data, graph_data}
use Rattle.graph_file.specs.Found.{Found}
use Rattle.graph_file.specs.Forms.{name_form, word_of, number_form, int_form, long_form, items_form, list_form, field_form, instr_form, variable_form, method_form, has_field, task_form, graph_form}
use Rattle.graph_file.specs.Writable.{FitsBits, IsFlatBin, IsFlatUn, IsWritableInstr, IsWritableMethod, IsNamed, IsWritableTask, IsWritable}

-- ---- words

class_back : (x : ClassName) → word_of class_word classes (string (class_word x)) ≡ Some x
class_back class.Table = refl
class_back class.Matrix = refl
class_back class.Counter = refl

field_kind_back : (x : FieldKind) → word_of field_kind_word field_kinds (string (field_kind_word x)) ≡ Some x
field_kind_back field_kind.Partitioned = refl
field_kind_back field_kind.Partial = refl

method_kind_back : (x : MethodKind) → word_of method_kind_word method_kinds (string (method_kind_word x)) ≡ Some x
method_kind_back method_kind.Entry = refl
method_kind_back method_kind.Helper = refl
method_kind_back method_kind.Merge = refl

kind_back : (x : TaskKind) → word_of task_kind_word task_kinds (string (task_kind_word x)) ≡ Some x
kind_back kind.Start = refl
kind_back kind.Keyed = refl
kind_back kind.Local = refl
kind_back kind.Visit = refl
kind_back kind.Join = refl

operand_back : (x : OperandType) → word_of operand_word operand_types (string (operand_word x)) ≡ Some x
operand_back operand.Int = refl
operand_back operand.Long = refl
operand_back operand.Boolean = refl

num_back : (x : Num) → word_of num_word nums (string (num_word x)) ≡ Some x
num_back num.Int = refl
num_back num.Long = refl

bin_back : (x : BinOp) → IsFlatBin x → word_of bin_word bin_ops (string (bin_word x)) ≡ Some x
bin_back bin.AndAlso h = absurd h
bin_back bin.OrElse h = absurd h
bin_back bin.Mul h = refl
bin_back bin.Div h = refl
bin_back bin.Rem h = refl
bin_back bin.Add h = refl
bin_back bin.Sub h = refl
bin_back bin.Shl h = refl
bin_back bin.Shr h = refl
bin_back bin.UShr h = refl
bin_back bin.Lt h = refl
bin_back bin.Le h = refl
bin_back bin.Gt h = refl
bin_back bin.Ge h = refl
bin_back bin.Eq h = refl
bin_back bin.Ne h = refl
bin_back bin.And h = refl
bin_back bin.Xor h = refl
bin_back bin.Or h = refl

un_back : (x : UnOp) → IsFlatUn x → word_of un_word un_ops (string (un_word x)) ≡ Some x
un_back un.Plus h = absurd h
un_back un.Minus h = refl
un_back un.Complement h = refl
un_back un.Not h = refl

state_method_back : (x : Method) → word_of method_text methods (string (method_text x)) ≡ Some x
state_method_back method.Get = refl
state_method_back method.Has = refl
state_method_back method.Put = refl
state_method_back method.Add = refl
state_method_back method.Remove = refl
state_method_back method.Size = refl
state_method_back method.GetElement = refl
state_method_back method.SetElement = refl
state_method_back method.AddElement = refl
state_method_back method.GetRow = refl
state_method_back method.Multiply = refl
state_method_back method.Set = refl

variable_back : (x : VariableType) → word_of variable_word variable_types (string (variable_word x)) ≡ Some x
variable_back (One var.Int) = refl
variable_back (One var.Long) = refl
variable_back (One var.Boolean) = refl
variable_back (One var.Vector) = refl
variable_back (Collection var.Int) = refl
variable_back (Collection var.Long) = refl
variable_back (Collection var.Boolean) = refl
variable_back (Collection var.Vector) = refl

result_back : (x : Option VarType) → word_of result_word result_types (string (result_word x)) ≡ Some x
result_back None = refl
result_back (Some var.Int) = refl
result_back (Some var.Long) = refl
result_back (Some var.Boolean) = refl
result_back (Some var.Vector) = refl

-- ---- names and numbers

name_back : (name : List ℕ) → IsUtf8 name → name_form (name_data name) ≡ Ok name
name_back name h = ap Ok (utf8_lossy-IsUtf8 name h)

number_back : (bits n : ℕ) → FitsBits bits n → number_form bits (number_data n) ≡ Ok n
number_back bits n h = rw (lt-ltb n (2 ^ bits) h)

long_back : (n : ℤ) → FitsSigned w64 n → long_form (number (of_integer n)) ≡ Ok n
long_back (pos n) h =
    let wide : n < 2 ^ 63 = omega arith in
    rw (lt-ltb n (2 ^ 63) wide)
long_back (negsuc n) h = refl

int_back : (n : ℤ) → FitsSigned w32 n → int_form (number (of_integer n)) ≡ Ok n
int_back (pos n) h =
    let wide : n < 2 ^ 63 = omega arith in
    let most : n ≤ 2147483647 = omega arith in
    rw (lt-ltb n (2 ^ 63) wide) (rw (le-ltb 2147483647 n most))
int_back (negsuc n) h =
    let most : n ≤ 2147483647 = omega arith in
    rw (le-ltb 2147483647 n most)

-- ---- lists

items_back : {A : Type 0} (form : Data → Found A) (data_of : A → Data) (P : A → Type 0) → ((x : A) → P x → form (data_of x) ≡ Ok x)
    → (i : ℕ) (xs : List A) → All P xs → items_form form i (items_of (map data_of xs)) ≡ Ok xs
items_back form data_of P back i [] h = refl
items_back form data_of P back i (x ∷ xs) h = rw (back x (All-head P x xs h), items_back form data_of P back (suc i) xs (All-tail P x xs h))

list_back : {A : Type 0} (form : Data → Found A) (data_of : A → Data) (P : A → Type 0) → ((x : A) → P x → form (data_of x) ≡ Ok x)
    → (xs : List A) → All P xs → list_form form (list_data data_of xs) ≡ Ok xs
list_back form data_of P back xs h = items_back form data_of P back 0 xs h

variable_form_back : (x : VariableType) → Unit {0} → variable_form (variable_data x) ≡ Ok x
variable_form_back x h = rw (variable_back x)

-- ---- fields and instructions

field_back : (f : GraphField) → IsUtf8 f.name → field_form (field_data f) ≡ Ok f
field_back f h = rw (utf8_lossy-IsUtf8 f.name h, class_back f.class, field_kind_back f.kind)

instr_back : (i : Instr) → IsWritableInstr i → instr_form (instr_data i) ≡ Ok i
instr_back (instr.Int n) h = rw (int_back n h)
instr_back (instr.Long n) h = rw (long_back n h)
instr_back (instr.Bool b) h = refl
instr_back (instr.Load v) h = rw (number_back 32 v h)
instr_back (instr.Store v) h = rw (number_back 32 v h)
instr_back instr.Pop h = refl
instr_back (instr.Bin op t) h = rw (bin_back op h, operand_back t)
instr_back (instr.Un op) h = rw (un_back op h)
instr_back (instr.Cast t) h = rw (num_back t)
instr_back (instr.Jump i) h = rw (number_back 32 i h)
instr_back (instr.IfFalse i) h = rw (number_back 32 i h)
instr_back instr.Turn h = refl
instr_back instr.NewVector h = refl
instr_back (instr.VectorSize v) h = rw (number_back 32 v h)
instr_back (instr.VectorGet v) h = rw (number_back 32 v h)
instr_back (instr.VectorSet v) h = rw (number_back 32 v h)
instr_back (instr.CollectionLength v) h = rw (number_back 32 v h)
instr_back (instr.CollectionItem v) h = rw (number_back 32 v h)
instr_back (instr.CollectionSize v) h = rw (number_back 32 v h)
instr_back (instr.CollectionCheck v) h = rw (number_back 32 v h)
instr_back (instr.CollectionGet v) h = rw (number_back 32 v h)
instr_back (instr.Call m) h = rw (number_back 16 m h)
instr_back instr.Key h = refl
instr_back (instr.Access f m) h = rw (utf8_lossy-IsUtf8 f h, state_method_back m)
instr_back (instr.Cut t) h = rw (number_back 32 t h)
instr_back (instr.Part t) h = rw (number_back 32 t h)
instr_back (instr.Merge m) h = rw (number_back 16 m h)
instr_back instr.Return h = refl
instr_back instr.ReturnVoid h = refl

-- ---- methods, tasks and graphs

method_back : (m : GraphMethod) → IsWritableMethod m → method_form (method_data m) ≡ Ok m
method_back m h =
    rw (list_back instr_form instr_data IsWritableInstr instr_back m.code h.code, method_kind_back m.kind, utf8_lossy-IsUtf8 m.name h.name, number_back 32 m.params h.params, result_back m.result, list_back variable_form variable_data (λ x. Unit {0}) variable_form_back m.vars (λ k d within. tt))

task_parts_back : (at : ℕ) (field : Option (List ℕ)) (k : TaskKind) (m : ℕ) (vars : List ℕ) → FitsBits 32 at → IsNamed field → is_some field ≡ has_field k → FitsBits 16 m → All (FitsBits 32) vars
    → task_form (task_data (record { at = at; field = field; kind = k; method = m; vars = vars })) ≡ Ok (record { at = at; field = field; kind = k; method = m; vars = vars })
task_parts_back at None k m vars a n e b v =
    rw (kind_back k) (rw (sym e) (rw (number_back 32 at a, number_back 16 m b, list_back (number_form 32) number_data (FitsBits 32) (number_back 32) vars v)))
task_parts_back at (Some f) k m vars a n e b v =
    rw (kind_back k) (rw (sym e) (rw (number_back 32 at a, utf8_lossy-IsUtf8 f n, number_back 16 m b, list_back (number_form 32) number_data (FitsBits 32) (number_back 32) vars v)))

task_back : (t : Task) → IsWritableTask t → task_form (task_data t) ≡ Ok t
task_back t h = task_parts_back t.at t.field t.kind t.method t.vars h.at h.named h.suits h.method h.vars

pub graph_back : (g : Graph) → IsWritable g → graph_form (graph_data g) ≡ Ok g
graph_back g h =
    rw (utf8_lossy-IsUtf8 g.class h.class, list_back field_form field_data (λ f. IsUtf8 f.name) field_back g.fields h.fields, list_back method_form method_data IsWritableMethod method_back g.methods h.methods, list_back task_form task_data IsWritableTask task_back g.tasks h.tasks)
