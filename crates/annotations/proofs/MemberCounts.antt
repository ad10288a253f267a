-- The walk passes as many tokens as a member has, and those of a class up to its closing brace.
use Rattle.std.proofs.Common.{◌≡◌, ℕ, suc, ◌+◌, ◌-◌, ◌≤◌, min, Bool, true, false, not, ◌&&◌, List, [], ◌∷◌, ◌++◌, length, map, Option, None, Some, if◌then◌else◌, flat_map, codes, refl, sym, arith}
use Rattle.std.proofs.lemmas.List.{length-append}
use Rattle.java_tree.specs.declared.token.Kind.TheVariants as k
use Rattle.java_tree.specs.declared.token.Reserved.TheVariants as word
use Rattle.java_tree.specs.declared.token.Symbol.TheVariants as symbol
use Rattle.java_tree.specs.declared.tree.QualifiedName.{QualifiedName}
use Rattle.java_tree.specs.declared.tree.Import.{Import}
use Rattle.java_tree.specs.declared.tree.Modifier.{Modifier}
use Rattle.java_tree.specs.declared.tree.Modifier.TheVariants as modifier
use Rattle.java_tree.specs.declared.tree.FieldModifier.{FieldModifier}
use Rattle.java_tree.specs.declared.tree.FieldModifier.TheVariants as field_modifier
use Rattle.java_tree.specs.declared.tree.Field.{Field}
use Rattle.java_tree.specs.declared.tree.ResultType.{ResultType}
use Rattle.java_tree.specs.declared.tree.ResultType.TheVariants as result_type
use Rattle.java_tree.specs.declared.tree.Param.{Param}
use Rattle.java_tree.specs.declared.tree.Method.{Method}
use Rattle.java_tree.specs.declared.tree.Member.{Member}
use Rattle.java_tree.specs.declared.tree.Member.TheVariants as member
use Rattle.java_tree.specs.declared.tree.Class.{Class}
use Rattle.java_tree.specs.Tokens.{Kinds, annotation, separated, qualified, package_tokens, import_tokens, modifier_tokens, field_modifier_tokens, field_tokens, result_tokens, param_tokens, method_tokens, member_tokens, item_tokens, kinds_of}
use Rattle.java_tree.specs.declared.types.Declaration.{Declaration}
use Rattle.annotations.specs.declared.walk.Env.{Env}
use Rattle.annotations.specs.declared.walk.Walk.{Walk}
use Rattle.annotations.specs.Walks.{past}
use Rattle.annotations.specs.Statements.{item_walk}
use Rattle.annotations.specs.Members.{past_modifier, met, field_walk, param_walk, params_walk, entered, method_walk, member_walk, past_qualified, past_package, past_import, past_head, members_walk}
use Rattle.annotations.specs.Environment.{env_of}
use Rattle.annotations.specs.Check.{start, whole}
use Rattle.annotations.specs.Laws.{PassesEachToken}
use Rattle.annotations.proofs.Lists.{length_map}
use Rattle.annotations.specs.declared.site.FieldKind.{FieldKind}
use Rattle.annotations.specs.declared.site.FieldKind.TheVariants.{Partitioned, Partial}
use Rattle.annotations.specs.Kinds.{kind_of_field}
use Rattle.annotations.proofs.Counting.{Stays, here, Passed, none, within, over, over_if, further, stays, counted, from_none, noted_stays, all_pass, past_none_passes, flat_pass}
use Rattle.annotations.proofs.ExpressionCounts.{expr_counts, value_counts, call_counts}
use Rattle.annotations.proofs.SimpleCounts.{type_length, local_passes, simple_passes}
use Rattle.annotations.proofs.StatementCounts.{header_passes, block_passes, item_counts, statement_counts}

-- ---- fields

modifier_passes : (env : Env) (w : Walk) (m : FieldModifier) → w.at ≤ env.limit → Passed env (length (field_modifier_tokens m)) w (past_modifier env w m)
modifier_passes env w field_modifier.Partitioned h = over 1 (over 1 (none w h))
modifier_passes env w field_modifier.Partial h = over 1 (over 1 (none w h))
modifier_passes env w field_modifier.Public h = over 1 (none w h)
modifier_passes env w field_modifier.Private h = over 1 (none w h)

met_stays : (kind : FieldKind) (w : Walk) → Stays w (met kind w)
met_stays Partitioned w = here w
met_stays Partial w = record { at = refl }

module _ {env : Env} {n : ℕ} {w v : Walk} where
  field_passes : (f : Field) → Passed env n w v → Passed env (n + length (field_tokens f)) w (field_walk env f v)
  unfolding field_walk
  field_passes f p =
      let first = stays (stays (stays p (met_stays (kind_of_field f) v)) (noted_stays _ v.at 1 _)) (noted_stays _ v.at 2 _) in
      let modifiers = further first (flat_pass env (λ (u : Walk). u) (past_modifier env) field_modifier_tokens (modifier_passes env) f.modifiers _ (within first)) in
      counted (over 8 modifiers) (simp length-append (omega arith))

-- ---- methods

collection_length : (is_collection : Bool) → length (if is_collection then annotation (codes "Collection") else []) ≡ (if is_collection then 2 else 0)
collection_length true = refl
collection_length false = refl

array_length : (is_array : Bool) → length (if is_array then k.Symbol symbol.OpenBracket ∷ k.Symbol symbol.CloseBracket ∷ [] else []) ≡ (if is_array then 2 else 0)
array_length true = refl
array_length false = refl

module _ {env : Env} {n : ℕ} {w v : Walk} where
  param_passes : (x : Param) → Passed env n w v → Passed env (n + suc (length (param_tokens x))) w (param_walk env v x)
  unfolding param_walk
  param_passes x p =
      let first = collection_length x.is_collection in
      let one = type_length x.type_name in
      let last = array_length x.is_array in
      let s = noted_stays (x.is_array && not x.is_collection) (past env 1 v).at 11 (past env 1 v) in
      counted (over 2 (over_if x.is_array 2 (over_if x.is_collection 2 (stays (over 1 p) (record { at = s.at })))))
      (simp length-append (omega arith))

  entered_passes : (entry : Bool) → Passed env n w v → Passed env n w (entered entry v)
  unfolding entered
  entered_passes entry p = stays p (record { at = refl })

result_length : (r : ResultType) → length (result_tokens r) ≡ 1
result_length result_type.Void = refl
result_length (result_type.Type t) = type_length t

modifier_length : (m : Modifier) → length (modifier_tokens m) ≡ 1
modifier_length modifier.Public = refl
modifier_length modifier.Private = refl
modifier_length modifier.Static = refl

modifiers_length : (ms : List Modifier) → length (flat_map modifier_tokens ms) ≡ length ms
modifiers_length [] = refl
modifiers_length (m ∷ ms) = let one = modifier_length m in let rest = modifiers_length ms in simp length-append (omega arith)

one_param_passes : (env : Env) (w : Walk) (x : Param) → w.at ≤ env.limit → Passed env (suc (length (param_tokens x))) w (param_walk env w x)
one_param_passes env w x h = from_none (param_passes {env = env} x (none w h))

module _ {env : Env} {n : ℕ} {w v : Walk} where
  params_pass : (all : List Param) → Passed env n w v → Passed env (n + suc (suc (length (separated (map param_tokens all))))) w (params_walk env all v)
  unfolding params_walk
  params_pass all p =
      let q = all_pass env (λ (u : Walk). u) (param_walk env) param_tokens (one_param_passes env) all v (within p) in
      counted (further p (over 1 (past_none_passes all (map param_tokens all) (sym (length_map param_tokens all)) q))) (omega arith)

module _ {env : Env} {n : ℕ} {w v : Walk} where
  method_passes : (m : Method) → Passed env n w v → Passed env (n + length (method_tokens m)) w (method_walk env m v)
  unfolding method_walk
  method_passes m p =
      let modifiers = modifiers_length m.modifiers in
      let one = result_length m.result in
      let name = over 2 (over (length m.modifiers) (entered_passes _ (stays p (noted_stays _ v.at 11 v)))) in
      counted (block_passes env (item_walk env) item_tokens (item_counts env) m.body (params_pass m.params name))
      (simp length-append (omega arith))

member_passes : (env : Env) (w : Walk) (m : Member) → w.at ≤ env.limit → Passed env (length (member_tokens m)) w (member_walk env w m)
member_passes env w (member.Field f) h = from_none (field_passes {env = env} f (none w h))
member_passes env w (member.Method m) h = from_none (method_passes {env = env} m (none w h))

-- ---- the class

qualified_length : (others : List (List ℕ)) → length (flat_map (λ name. k.Symbol symbol.Dot ∷ k.Identifier name ∷ []) others) ≡ length others + length others
qualified_length [] = refl
qualified_length (x ∷ others) = let rest = qualified_length others in omega arith

module _ {env : Env} {n : ℕ} {w v : Walk} where
  qualified_passes : (q : QualifiedName) → Passed env n w v → Passed env (n + length (qualified q)) w (past_qualified env q v)
  unfolding past_qualified
  qualified_passes q p = let rest = qualified_length q.others in counted (over (length q.others) (over (length q.others) (over 1 p))) (omega arith)

static_length : (is_static : Bool) → length (if is_static then k.Reserved word.Static ∷ [] else []) ≡ (if is_static then 1 else 0)
static_length true = refl
static_length false = refl

on_demand_length : (is_on_demand : Bool) → length (if is_on_demand then k.Symbol symbol.Dot ∷ k.Symbol symbol.Star ∷ [] else []) ≡ (if is_on_demand then 2 else 0)
on_demand_length true = refl
on_demand_length false = refl

module _ {env : Env} {n : ℕ} {w v : Walk} where
  package_passes : (q : Option QualifiedName) → Passed env n w v → Passed env (n + length (package_tokens q)) w (past_package env q v)
  package_passes None p = counted p (omega arith)
  package_passes (Some q) p = counted (qualified_passes q (over 2 p)) (simp length-append (omega arith))

  import_passes : (i : Import) → Passed env n w v → Passed env (n + length (import_tokens i)) w (past_import env v i)
  unfolding past_import
  import_passes i p =
      let first = static_length i.is_static in
      let last = on_demand_length i.is_on_demand in
      counted (over_if i.is_on_demand 2 (qualified_passes i.name (over_if i.is_static 1 (over 2 p)))) (simp length-append (omega arith))

one_import_passes : (env : Env) (w : Walk) (i : Import) → w.at ≤ env.limit → Passed env (length (import_tokens i)) w (past_import env w i)
one_import_passes env w i h = from_none (import_passes {env = env} i (none w h))

module _ (env : Env) (c : Class) (w : Walk) (h : w.at ≤ env.limit) where
  -- the tokens before `class`
  abbrev front : Kinds
  front = package_tokens c.package ++ (flat_map import_tokens c.imports ++ (flat_map modifier_tokens c.modifiers ++ []))

  head_passes : Passed env (length front + 3) w (past_head env c w)
  unfolding past_head
  head_passes =
      let named = package_passes c.package (none w h) in
      let imports = further named (flat_pass env (λ (u : Walk). u) (past_import env) import_tokens (one_import_passes env) c.imports _ (within named)) in
      let modifiers = modifiers_length c.modifiers in
      counted (over 3 (over (length c.modifiers) imports)) (simp length-append (omega arith))

  members_pass : Passed env (length (kinds_of c) - 1) w (members_walk env c w)
  members_pass =
      let all = flat_pass env (λ (u : Walk). u) (member_walk env) member_tokens (member_passes env) c.members (past_head env c w) (within head_passes) in
      counted (further head_passes all) (simp length-append (omega arith))

-- ---- all of it

class_passes : (c : Class) (names : List Declaration) → Passed (env_of c names) (length (kinds_of c) - 1) start (whole c names)
unfolding whole
class_passes c names = members_pass (env_of c names) c start (omega arith)

class_at : (c : Class) (names : List Declaration) → (whole c names).at ≡ min (length (kinds_of c) - 1) (length c.places)
class_at c names = let p = class_passes c names in omega (arith, p.at)

pub passes_each_token : PassesEachToken
passes_each_token = record {
  expressions = λ env x position g w h. (expr_counts env x position g w h).at;
  values = λ env v position w h. (value_counts env v position w h).at;
  calls = λ env c position g w h. (call_counts env c position g w h).at;
  locals = λ env l w h. (from_none (local_passes l (none {env = env} w h))).at;
  simples = λ env s w h. (from_none (simple_passes s (none {env = env} w h))).at;
  headers = λ env x w h. (from_none (header_passes x (none {env = env} w h))).at;
  items = λ env i w h. (item_counts env i w h).at;
  statements = λ env s w h. (statement_counts env s w h).at;
  members = λ env m w h. (member_passes env w m h).at;
  class = class_at;
}
