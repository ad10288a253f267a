-- The rules on fields and methods.
use Rattle.std.specs.Prelude.{ℕ, ◌+◌, Bool, true, false, not, ◌&&◌, ◌||◌, nat_eq, List, [], ◌∷◌, ◌++◌, length, map, fold, Option, Some, None, if◌then◌else◌}
use Rattle.std.specs.List.{list_any}
use Rattle.sdg_base.specs.declared.store.ClassName.{ClassName}
use Rattle.sdg_base.specs.declared.store.ClassName.TheVariants as class_name
use Rattle.java_tree.specs.declared.tree.QualifiedName.{QualifiedName}
use Rattle.java_tree.specs.declared.tree.Import.{Import}
use Rattle.java_tree.specs.declared.tree.Class.{Class}
use Rattle.java_tree.specs.declared.tree.Member.{Member}
use Rattle.java_tree.specs.declared.tree.Member.TheVariants as member
use Rattle.java_tree.specs.declared.tree.FieldModifier.{FieldModifier}
use Rattle.java_tree.specs.declared.tree.FieldModifier.TheVariants as modifier
use Rattle.java_tree.specs.declared.tree.Field.{Field}
use Rattle.java_tree.specs.declared.tree.Method.{Method}
use Rattle.java_tree.specs.declared.tree.Param.{Param}
use Rattle.java_tree.specs.declared.method_kinds.MethodKind.{MethodKind}
use Rattle.java_tree.specs.declared.method_kinds.MethodKind.TheVariants.{Entry, Helper, Merge}
use Rattle.java_tree.specs.Kinds.{kind_of}
use Rattle.java_tree.specs.Words.{state_class}
use Rattle.annotations.specs.declared.walk.Env.{Env}
use Rattle.annotations.specs.declared.walk.Walk.{Walk}
use Rattle.annotations.specs.declared.site.FieldKind.{FieldKind}
use Rattle.annotations.specs.declared.site.FieldKind.TheVariants.{Partitioned, Partial}
use Rattle.annotations.specs.Kinds.{is_partitioned_modifier, kind_of_field}
use Rattle.annotations.specs.Walks.{past, past_if, past_none, noted}
use Rattle.annotations.specs.Statements.{in_block, item_walk}

-- ---- fields

abbrev pub is_annotation : FieldModifier → Bool
is_annotation modifier.Partitioned = true
is_annotation modifier.Partial = true
is_annotation modifier.Public = false
is_annotation modifier.Private = false

abbrev pub one_more : ℕ → FieldModifier → ℕ
one_more count m = if is_annotation m then count + 1 else count

-- how many annotations there are
abbrev pub annotations : List FieldModifier → ℕ
annotations = fold one_more 0

abbrev pub is_counter : Option ClassName → Bool
is_counter (Some class_name.Counter) = true
is_counter _ = false

abbrev pub past_modifier : Env → Walk → FieldModifier → Walk
past_modifier env w m = past env 1 (past_if env (is_annotation m) 1 w)

abbrev pub first_of : Option ℕ → ℕ → Option ℕ
first_of (Some first) token = Some first
first_of None token = Some token

-- A field of this kind begins.
abbrev pub met : FieldKind → Walk → Walk
met Partitioned w = w
met Partial w = record w { partial = first_of w.partial w.at }

-- Rule 1: not exactly one annotation. Rule 2: a counter that is `@Partitioned`.
unfoldable pub field_walk : Env → Field → Walk → Walk
field_walk env f w =
    past env 8 (fold (past_modifier env) (noted (list_any is_partitioned_modifier f.modifiers && is_counter (state_class f.type_name)) w.at 2
    (noted (not (nat_eq (annotations f.modifiers) 1)) w.at 1 (met (kind_of_field f) w))) f.modifiers)

-- ---- methods

-- Rule 11: an array without `@Collection`, behind one token.
unfoldable pub param_walk : Env → Walk → Param → Walk
param_walk env w p =
    let b = past env 1 w in
    let n = noted (p.is_array && not p.is_collection) b.at 11 b in
    past env 2 (past_if env p.is_array 2 (past_if env p.is_collection 2 (record n { collections = n.collections ++ p.is_array ∷ [] })))

unfoldable pub params_walk : Env → List Param → Walk → Walk
params_walk env all w = past env 1 (past_none env all (fold (param_walk env) w all))

abbrev pub is_entry : MethodKind → Bool
is_entry Entry = true
is_entry Helper = false
is_entry Merge = false

-- No name has a meaning yet where a method begins.
unfoldable pub entered : Bool → Walk → Walk
entered entry w = record w { in_entry = entry; collections = []; locals = [] }

-- With `@Collection` a method has one parameter, an array.
abbrev pub is_ill_collected : List Param → Bool
is_ill_collected params = list_any (λ p. p.is_collection) params && (not (nat_eq (length params) 1) || list_any (λ p. not p.is_array) params)

-- Rule 11.
unfoldable pub method_walk : Env → Method → Walk → Walk
method_walk env m w =
    in_block env (map (item_walk env) m.body) (params_walk env m.params (past env 2 (past env (length m.modifiers)
    (entered (is_entry (kind_of m)) (noted (is_ill_collected m.params) w.at 11 w)))))

abbrev pub member_walk : Env → Walk → Member → Walk
member_walk env w (member.Field f) = field_walk env f w
member_walk env w (member.Method m) = method_walk env m w

-- ---- the class

unfoldable pub past_qualified : Env → QualifiedName → Walk → Walk
past_qualified env q w = past env (length q.others) (past env (length q.others) (past env 1 w))

abbrev pub past_package : Env → Option QualifiedName → Walk → Walk
past_package env None w = w
past_package env (Some q) w = past_qualified env q (past env 2 w)

unfoldable pub past_import : Env → Walk → Import → Walk
past_import env w i =
    past_if env i.is_on_demand 2 (past_qualified env i.name (past_if env i.is_static 1 (past env 2 w)))

-- up to its first member
unfoldable pub past_head : Env → Class → Walk → Walk
past_head env c w = past env 3 (past env (length c.modifiers) (fold (past_import env) (past_package env c.package w) c.imports))

abbrev pub members_walk : Env → Class → Walk → Walk
members_walk env c w = fold (member_walk env) (past_head env c w) c.members
