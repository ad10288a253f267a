-- The fields and methods of a class, in text order.
use Rattle.std.specs.Prelude.{ℕ, List, [], map, Option, Some, None}
use Rattle.std.specs.List.{filter_map, zip}
use Rattle.sdg_base.specs.declared.val.Val.{Val}
use Rattle.java_tree.specs.declared.tree.Class.{Class}
use Rattle.java_tree.specs.declared.tree.Member.{Member}
use Rattle.java_tree.specs.declared.tree.Member.TheVariants as member
use Rattle.java_tree.specs.declared.tree.Method.{Method}
use Rattle.early_source.specs.Variables.{Variables, Tables}

abbrev pub field_name : Member → Option (List ℕ)
field_name (member.Field f) = Some f.name
field_name (member.Method m) = None

abbrev pub method_in : Member → Option Method
method_in (member.Field f) = None
method_in (member.Method m) = Some m

abbrev pub fields : Class → List (List ℕ)
fields c = filter_map field_name c.members

-- an entry method is named by its place among the methods
abbrev pub methods : Class → List Method
methods c = filter_map method_in c.members

-- each partitioned field without entries
abbrev pub empty_tables : Class → Tables
empty_tables c = map (λ name. (name, [])) (fields c)

-- the parameters with the arguments
abbrev pub variables_of : Method → List Val → Variables
variables_of m args = zip (map (λ p. p.name) m.params) args
