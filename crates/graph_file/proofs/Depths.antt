-- A graph's file nests a few levels deep.
use Rattle.std.proofs.Common.{ℕ, ◌≤◌, List, [], ◌∷◌, map, Option, Some, None, arith}
use Rattle.serde_json.specs.Data.{Data, depth, items_depth, Members, members_depth}
use Rattle.serde_json.specs.View.{items_of}
use Rattle.flat_code.specs.declared.graph.GraphField.{GraphField}
use Rattle.flat_code.specs.declared.graph.Instr.{Instr}
use Rattle.flat_code.specs.declared.graph.Instr.TheVariants as instr
use Rattle.flat_code.specs.declared.graph.GraphMethod.{GraphMethod}
use Rattle.flat_code.specs.declared.graph.VariableType.{VariableType}
use Rattle.flat_code.specs.declared.graph.Task.{Task}
use Rattle.flat_code.specs.declared.graph.Graph.{Graph}
use Rattle.graph_file.specs.Written.{number_data, field_data, instr_data, variable_data, method_data, rest_of_task, with_field, task_data, graph_data}

list_depth : {A : Type 0} (f : A → Data) (k : ℕ) → ((x : A) → depth (f x) ≤ k) → (xs : List A) → items_depth (items_of (map f xs)) ≤ k
list_depth f k within [] = omega arith
list_depth f k within (x ∷ xs) = omega (arith, within x, list_depth f k within xs)

number_depth : (n : ℕ) → depth (number_data n) ≤ 0
number_depth n = omega arith

variable_depth : (t : VariableType) → depth (variable_data t) ≤ 0
variable_depth t = omega arith

field_depth : (f : GraphField) → depth (field_data f) ≤ 1
field_depth f = omega arith

instr_depth : (i : Instr) → depth (instr_data i) ≤ 1
instr_depth (instr.Int n) = omega arith
instr_depth (instr.Long n) = omega arith
instr_depth (instr.Bool b) = omega arith
instr_depth (instr.Load v) = omega arith
instr_depth (instr.Store v) = omega arith
instr_depth instr.Pop = omega arith
instr_depth (instr.Bin op t) = omega arith
instr_depth (instr.Un op) = omega arith
instr_depth (instr.Cast t) = omega arith
instr_depth (instr.Jump i) = omega arith
instr_depth (instr.IfFalse i) = omega arith
instr_depth instr.Turn = omega arith
instr_depth instr.NewVector = omega arith
instr_depth (instr.VectorSize v) = omega arith
instr_depth (instr.VectorGet v) = omega arith
instr_depth (instr.VectorSet v) = omega arith
instr_depth (instr.CollectionLength v) = omega arith
instr_depth (instr.CollectionItem v) = omega arith
instr_depth (instr.CollectionSize v) = omega arith
instr_depth (instr.CollectionCheck v) = omega arith
instr_depth (instr.CollectionGet v) = omega arith
instr_depth (instr.Call m) = omega arith
instr_depth instr.Key = omega arith
instr_depth (instr.Access f m) = omega arith
instr_depth (instr.Cut t) = omega arith
instr_depth (instr.Part t) = omega arith
instr_depth (instr.Merge m) = omega arith
instr_depth instr.Return = omega arith
instr_depth instr.ReturnVoid = omega arith

method_depth : (m : GraphMethod) → depth (method_data m) ≤ 3
method_depth m = omega (arith, list_depth instr_data 1 instr_depth m.code, list_depth variable_data 0 variable_depth m.vars)

rest_depth : (t : Task) → members_depth (rest_of_task t) ≤ 1
rest_depth t = omega (arith, list_depth number_data 0 number_depth t.vars)

with_field_depth : (field : Option (List ℕ)) (ms : Members) → members_depth ms ≤ 1 → members_depth (with_field field ms) ≤ 1
with_field_depth None ms within = within
with_field_depth (Some f) ms within = omega arith

task_depth : (t : Task) → depth (task_data t) ≤ 2
task_depth t = omega (arith, with_field_depth t.field (rest_of_task t) (rest_depth t))

pub graph_depth : (g : Graph) → depth (graph_data g) ≤ 127
graph_depth g =
    omega (arith, list_depth field_data 1 field_depth g.fields, list_depth method_data 3 method_depth g.methods, list_depth task_data 2 task_depth g.tasks)
