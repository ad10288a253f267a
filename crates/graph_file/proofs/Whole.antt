-- A graph's file has no number but integers.
use Rattle.std.proofs.Common.{◌≡◌, List, [], ◌∷◌, map, false, Option, Some, None, ℕ, ℤ, pos, negsuc, refl}
use Rattle.serde_json.specs.Data.{Data, Members}
use Rattle.serde_json.specs.Find.{is_float, of_integer}
use Rattle.serde_json.specs.View.{items_of}
use Rattle.serde_json.specs.Written.{has_float, items_have_float, members_have_float}
use Rattle.flat_code.specs.declared.graph.GraphField.{GraphField}
use Rattle.flat_code.specs.declared.graph.Instr.{Instr}
use Rattle.flat_code.specs.declared.graph.Instr.TheVariants as instr
use Rattle.flat_code.specs.declared.graph.GraphMethod.{GraphMethod}
use Rattle.flat_code.specs.declared.graph.VariableType.{VariableType}
use Rattle.flat_code.specs.declared.graph.Task.{Task}
use Rattle.flat_code.specs.declared.graph.Graph.{Graph}
use Rattle.graph_file.specs.Written.{number_data, field_data, instr_data, variable_data, method_data, rest_of_task, with_field, task_data, graph_data}

whole_list : {A : Type 0} (f : A → Data) → ((x : A) → has_float (f x) ≡ false) → (xs : List A) → items_have_float (items_of (map f xs)) ≡ false
whole_list f whole [] = refl
whole_list f whole (x ∷ xs) = rw (whole x) (whole_list f whole xs)

whole_integer : (n : ℤ) → is_float (of_integer n) ≡ false
whole_integer (pos n) = refl
whole_integer (negsuc n) = refl

whole_number : (n : ℕ) → has_float (number_data n) ≡ false
whole_number n = refl

whole_variable : (t : VariableType) → has_float (variable_data t) ≡ false
whole_variable t = refl

whole_field : (f : GraphField) → has_float (field_data f) ≡ false
whole_field f = refl

whole_instr : (i : Instr) → has_float (instr_data i) ≡ false
whole_instr (instr.Int n) = rw (whole_integer n)
whole_instr (instr.Long n) = rw (whole_integer n)
whole_instr _ = refl

whole_method : (m : GraphMethod) → has_float (method_data m) ≡ false
whole_method m = rw (whole_list instr_data whole_instr m.code, whole_list variable_data whole_variable m.vars)

whole_rest : (t : Task) → members_have_float (rest_of_task t) ≡ false
whole_rest t = rw (whole_list number_data whole_number t.vars)

whole_with_field : (field : Option (List ℕ)) (ms : Members) → members_have_float ms ≡ false → members_have_float (with_field field ms) ≡ false
whole_with_field None ms whole = whole
whole_with_field (Some f) ms whole = whole

whole_task : (t : Task) → has_float (task_data t) ≡ false
whole_task t = whole_with_field t.field (rest_of_task t) (whole_rest t)

pub whole_graph : (g : Graph) → has_float (graph_data g) ≡ false
whole_graph g = rw (whole_list field_data whole_field g.fields, whole_list method_data whole_method g.methods, whole_list task_data whole_task g.tasks)
