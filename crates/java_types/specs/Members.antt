-- The rules on fields and methods.
use Rattle.std.specs.Prelude.{ℕ, ◌+◌, false, not, ◌&&◌, ◌||◌, nat_le, List, [], length, fold, Option, Some, None, is_some}
use Rattle.std.specs.Str.{bytes_eq}
use Rattle.java_tree.specs.declared.tree.QualifiedName.{QualifiedName}
use Rattle.java_tree.specs.declared.tree.Import.{Import}
use Rattle.java_tree.specs.declared.tree.Class.{Class}
use Rattle.java_tree.specs.declared.tree.Member.{Member}
use Rattle.java_tree.specs.declared.tree.Member.TheVariants as member
use Rattle.java_tree.specs.declared.tree.FieldModifier.{FieldModifier}
use Rattle.java_tree.specs.declared.tree.FieldModifier.TheVariants as field_modifier
use Rattle.java_tree.specs.declared.tree.Field.{Field}
use Rattle.java_tree.specs.declared.tree.Method.{Method}
use Rattle.java_tree.specs.declared.tree.Param.{Param}
use Rattle.java_tree.specs.declared.tree.ResultType.{ResultType}
use Rattle.java_tree.specs.declared.tree.ResultType.TheVariants as result_types
use Rattle.java_tree.specs.declared.types.Declaration.TheVariants as declaration
use Rattle.java_types.specs.declared.walk.Env.{Env}
use Rattle.java_types.specs.declared.walk.Signature.{Signature}
use Rattle.java_types.specs.declared.walk.Walk.{Walk}
use Rattle.java_types.specs.declared.members.Seen.{Seen}
use Rattle.java_types.specs.Names.{entry_of, with_entry}
use Rattle.java_tree.specs.Words.{state_class, is_reserved, is_type}
use Rattle.java_types.specs.Walks.{past, past_if, noted, most_fields, most_methods}
use Rattle.java_types.specs.Expressions.{past_none}
use Rattle.java_types.specs.Simples.{typed_name, declared}
use Rattle.java_types.specs.Declarations.{param_type, result_type}
use Rattle.java_types.specs.Statements.{in_block, item_walk}
use Rattle.std.specs.Prelude.{map}

-- what is known, and the names of the fields or methods before
pub record Naming : Type 0 where
  pub seen : List (List ℕ × Unit {0})
  pub walk : Walk

-- Rules 2 and 14: the name of a field or a method that begins at a token, of which there may be some number.
unfoldable pub named_member : List ℕ → ℕ → ℕ → List (List ℕ × Unit {0}) → Walk → Naming
named_member name most at seen w =
    let twice = is_some (entry_of name seen) in
    record { seen = with_entry name tt seen; walk = noted (not twice && nat_le most (length seen)) at 14 (noted (twice || is_reserved name) at 2 w) }

abbrev pub past_field_modifier : Env → Walk → FieldModifier → Walk
past_field_modifier env w field_modifier.Partitioned = past env 2 w
past_field_modifier env w field_modifier.Partial = past env 2 w
past_field_modifier env w field_modifier.Public = past env 1 w
past_field_modifier env w field_modifier.Private = past env 1 w

-- Rules 3 and 4: the class of a field, and what makes it.
unfoldable pub field_walk : Env → Field → ℕ → Walk → Walk
field_walk env f at w =
    let n = noted (not (is_some (state_class f.type_name)) || not (bytes_eq f.type_name f.maker)) at 4 w in
    let t = fold (past_field_modifier env) n f.modifiers in
    let m = past env 4 (noted (not (is_type env.class_name f.type_name)) t.at 3 t) in
    past env 4 (noted (not (is_type env.class_name f.maker)) m.at 3 m)

-- a parameter, with the token before it
unfoldable pub param_walk : Env → ℕ → Param → Walk → Walk
param_walk env number p w =
    let behind = past env 1 w in
    declared env behind.at p.name (record { declaration = declaration.Parameter number; found = param_type p })
    (past_if env p.is_array 2 (typed_name env behind.at p.type_name (past_if env p.is_collection 2 behind)).walk)

-- parameters so far: how many, and what is known
pub record Counted : Type 0 where
  pub count : ℕ
  pub walk : Walk

abbrev pub counted : Env → Counted → Param → Counted
counted env c p = record { count = c.count + 1; walk = param_walk env c.count p c.walk }

unfoldable pub params_walk : Env → List Param → Walk → Walk
params_walk env all w = past env 1 (past_none env all (fold (counted env) (record { count = 0; walk = w }) all).walk)

abbrev pub result_walk : Env → ResultType → Walk → Walk
result_walk env result_types.Void w = past env 1 w
result_walk env (result_types.Type name) w = (typed_name env w.at name w).walk

abbrev pub number_in : Option Signature → ℕ
number_in None = 0
number_in (Some s) = s.number

-- Nothing is in scope where a method begins.
unfoldable pub entered : Env → List ℕ → Walk → Walk
entered env name w = record w { variables = []; locals = []; caller = number_in (entry_of name env.methods) }

unfoldable pub method_walk : Env → Method → Walk → Walk
method_walk env m w =
    in_block env (map (item_walk env) m.body) (record { result = result_type m.result; in_loop = false })
    (params_walk env m.params (entered env m.name (past env 1 (result_walk env m.result (past env (length m.modifiers) w)))))

-- what is known, and the names of the members before
pub record Membering : Type 0 where
  pub seen : Seen
  pub walk : Walk

abbrev pub member_walk : Env → Membering → Member → Membering
member_walk env b (member.Field f) =
    let n = named_member f.name most_fields b.walk.at b.seen.fields b.walk in
    record { seen = record { fields = n.seen; methods = b.seen.methods }; walk = field_walk env f b.walk.at n.walk }
member_walk env b (member.Method m) =
    let n = named_member m.name most_methods b.walk.at b.seen.methods b.walk in
    record { seen = record { fields = b.seen.fields; methods = n.seen }; walk = method_walk env m n.walk }

unfoldable pub past_qualified : Env → QualifiedName → Walk → Walk
past_qualified env q w = past env (length q.others) (past env (length q.others) (past env 1 w))

abbrev pub past_package : Env → Option QualifiedName → Walk → Walk
past_package env None w = w
past_package env (Some q) w = past_qualified env q (past env 2 w)

unfoldable pub past_import : Env → Walk → Import → Walk
past_import env w i =
    past_if env i.is_on_demand 2 (past_qualified env i.name (past_if env i.is_static 1 (past env 2 w)))

-- Rule 2 of the class, and up to its first member.
unfoldable pub head_walk : Env → Class → Walk → Walk
head_walk env c w =
    past env 3 (past env (length c.modifiers) (fold (past_import env) (past_package env c.package (noted (is_reserved c.name) 0 2 w)) c.imports))

abbrev pub members_walk : Env → Class → Walk → Walk
members_walk env c w =
    (fold (member_walk env) (record { seen = record { fields = []; methods = [] }; walk = head_walk env c w }) c.members).walk
