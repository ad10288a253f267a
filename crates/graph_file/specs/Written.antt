-- What a graph file is: the compact JSON text of one object, with its keys in their order.
use Rattle.std.specs.Prelude.{ℕ, List, map, Option, Some, None, codes}
use Rattle.std.specs.Str.Lossy.{utf8_lossy}
use Rattle.serde_json.specs.Data.{Data, number, unsigned, boolean, string, array, object, item, no_items, Members, member, no_members}
use Rattle.serde_json.specs.Find.{of_integer}
use Rattle.serde_json.specs.View.{items_of}
use Rattle.serde_json.specs.Written.{compact_text}
use Rattle.state_classes.specs.Methods.{method_text}
use Rattle.flat_code.specs.declared.graph.GraphField.{GraphField}
use Rattle.flat_code.specs.declared.graph.Instr.{Instr}
use Rattle.flat_code.specs.declared.graph.Instr.TheVariants as instr
use Rattle.flat_code.specs.declared.graph.GraphMethod.{GraphMethod}
use Rattle.flat_code.specs.declared.graph.VariableType.{VariableType}
use Rattle.flat_code.specs.declared.graph.Task.{Task}
use Rattle.flat_code.specs.declared.graph.Graph.{Graph}
use Rattle.graph_file.specs.Words.{class_word, field_kind_word, method_kind_word, task_kind_word, operand_word, num_word, bin_word, un_word, variable_word, result_word}

-- A name is text: what is not UTF-8 in it becomes U+FFFD.
abbrev pub name_data : List ℕ → Data
name_data name = string (utf8_lossy name)

abbrev pub number_data : ℕ → Data
number_data n = number (unsigned n)

abbrev pub list_data : {A : Type 0} → (A → Data) → List A → Data
list_data data_of xs = array (items_of (map data_of xs))

abbrev pub field_data : GraphField → Data
field_data f = array (item (name_data f.name) (item (string (class_word f.class)) (item (string (field_kind_word f.kind)) no_items)))

-- ---- instructions

abbrev pub alone : List ℕ → Data
alone word = array (item (string word) no_items)

abbrev pub with_data : List ℕ → Data → Data
with_data word d = array (item (string word) (item d no_items))

abbrev pub with_two : List ℕ → Data → Data → Data
with_two word d e = array (item (string word) (item d (item e no_items)))

abbrev pub instr_data : Instr → Data
instr_data (instr.Int n) = with_data (codes "int") (number (of_integer n))
instr_data (instr.Long n) = with_data (codes "long") (number (of_integer n))
instr_data (instr.Bool b) = with_data (codes "bool") (boolean b)
instr_data (instr.Load v) = with_data (codes "load") (number_data v)
instr_data (instr.Store v) = with_data (codes "store") (number_data v)
instr_data instr.Pop = alone (codes "pop")
instr_data (instr.Bin op t) = with_two (codes "bin") (string (bin_word op)) (string (operand_word t))
instr_data (instr.Un op) = with_data (codes "un") (string (un_word op))
instr_data (instr.Cast t) = with_data (codes "cast") (string (num_word t))
instr_data (instr.Jump i) = with_data (codes "jump") (number_data i)
instr_data (instr.IfFalse i) = with_data (codes "iffalse") (number_data i)
instr_data instr.Turn = alone (codes "turn")
instr_data instr.NewVector = alone (codes "newvector")
instr_data (instr.VectorSize v) = with_data (codes "vsize") (number_data v)
instr_data (instr.VectorGet v) = with_data (codes "vget") (number_data v)
instr_data (instr.VectorSet v) = with_data (codes "vset") (number_data v)
instr_data (instr.CollectionLength v) = with_data (codes "clen") (number_data v)
instr_data (instr.CollectionItem v) = with_data (codes "citem") (number_data v)
instr_data (instr.CollectionSize v) = with_data (codes "csize") (number_data v)
instr_data (instr.CollectionCheck v) = with_data (codes "ccheck") (number_data v)
instr_data (instr.CollectionGet v) = with_data (codes "cget") (number_data v)
instr_data (instr.Call m) = with_data (codes "call") (number_data m)
instr_data instr.Key = alone (codes "key")
instr_data (instr.Access f m) = with_two (codes "access") (name_data f) (string (method_text m))
instr_data (instr.Cut t) = with_data (codes "cut") (number_data t)
instr_data (instr.Part t) = with_data (codes "part") (number_data t)
instr_data (instr.Merge m) = with_data (codes "merge") (number_data m)
instr_data instr.Return = alone (codes "return")
instr_data instr.ReturnVoid = alone (codes "returnvoid")

-- ---- methods and tasks

abbrev pub variable_data : VariableType → Data
variable_data t = string (variable_word t)

abbrev pub method_data : GraphMethod → Data
method_data m =
    object (member (codes "code") (list_data instr_data m.code)
    (member (codes "kind") (string (method_kind_word m.kind))
    (member (codes "name") (name_data m.name)
    (member (codes "params") (number_data m.params)
    (member (codes "result") (string (result_word m.result))
    (member (codes "vars") (list_data variable_data m.vars) no_members))))))

abbrev pub rest_of_task : Task → Members
rest_of_task t =
    member (codes "kind") (string (task_kind_word t.kind))
    (member (codes "method") (number_data t.method)
    (member (codes "vars") (list_data number_data t.vars) no_members))

-- A task without a field has no such key.
abbrev pub with_field : Option (List ℕ) → Members → Members
with_field None ms = ms
with_field (Some f) ms = member (codes "field") (name_data f) ms

abbrev pub task_data : Task → Data
task_data t = object (member (codes "at") (number_data t.at) (with_field t.field (rest_of_task t)))

-- ---- the graph

abbrev pub graph_data : Graph → Data
graph_data g =
    object (member (codes "class") (name_data g.class)
    (member (codes "fields") (list_data field_data g.fields)
    (member (codes "methods") (list_data method_data g.methods)
    (member (codes "tasks") (list_data task_data g.tasks)
    (member (codes "version") (number_data 1) no_members)))))

unfoldable pub graph_text : Graph → List ℕ
graph_text g = compact_text (graph_data g)
