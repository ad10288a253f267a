-- The walk passes as many tokens as a member has, and those of a class up to its closing brace.
use Rattle.std.proofs.Common.{◌≡◌, ℕ, suc, ◌+◌, ◌-◌, ◌≤◌, min, Bool, true, false, List, [], ◌∷◌, ◌++◌, length, map, Option, None, Some, if◌then◌else◌, flat_map, codes, refl, sym, arith}
use Rattle.std.proofs.lemmas.List.{length-append}
use Rattle.java_tree.specs.declared.token.Kind.TheVariants as k
use Rattle.java_tree.specs.declared.token.Reserved.TheVariants as word
use Rattle.java_tree.specs.declared.token.Symbol.TheVariants as symbol
use Rattle.java_tree.specs.declared.tree.QualifiedName.{QualifiedName}
use Rattle.java_tree.specs.declared.tree.Import.{Import}
use Rattle.java_tree.specs.declared.tree.Modifier.{Modifier}
use Rattle.java_tree.specs.declared.tree.Modifier.TheVariants as modifier
use Rattle.java_tree.specs.declared.tree.FieldModifier.{FieldModifier}
use Rattle.java_tree.specs.declared.tree.FieldModifier.TheVariants as field_modifier
use Rattle.java_tree.specs.declared.tree.Field.{Field}
use Rattle.java_tree.specs.declared.tree.ResultType.{ResultType}
use Rattle.java_tree.specs.declared.tree.ResultType.TheVariants as result_type
use Rattle.java_tree.specs.declared.tree.Param.{Param}
use Rattle.java_tree.specs.declared.tree.Method.{Method}
use Rattle.java_tree.specs.declared.tree.Member.{Member}
use Rattle.java_tree.specs.declared.tree.Member.TheVariants as member
use Rattle.java_tree.specs.declared.tree.Class.{Class}
use Rattle.java_tree.specs.Tokens.{Kinds, annotation, separated, qualified, package_tokens, import_tokens, modifier_tokens, field_modifier_tokens, field_tokens, result_tokens, param_tokens, method_tokens, member_tokens, item_tokens, kinds_of}
use Rattle.java_types.specs.declared.walk.Env.{Env}
use Rattle.java_types.specs.declared.walk.Walk.{Walk}
use Rattle.java_types.specs.Walks.{most_fields, most_methods}
use Rattle.java_types.specs.Statements.{item_walk}
use Rattle.java_types.specs.Members.{named_member, past_field_modifier, field_walk, param_walk, Counted, counted as one_counted, params_walk, result_walk, entered, method_walk, Membering, member_walk, past_qualified, past_package, past_import, head_walk, members_walk}
use Rattle.java_types.specs.Check.{env_of, start, whole}
use Rattle.java_types.specs.Laws.{PassesEachToken}
use Rattle.java_types.proofs.Lists.{length_map}
use Rattle.java_types.proofs.Counting.{Stays, Passed, none, within, over, over_if, further, stays, counted, from_none, after, noted_stays, all_pass, past_none_passes, flat_pass}
use Rattle.java_types.proofs.ExpressionCounts.{expr_counts, value_counts, call_counts}
use Rattle.java_types.proofs.SimpleCounts.{type_length, typed_name_passes, declared_passes, local_passes, simple_passes}
use Rattle.java_types.proofs.StatementCounts.{header_passes, block_passes, item_counts, statement_counts}

-- ---- fields

field_modifier_passes : (env : Env) (w : Walk) (m : FieldModifier) → w.at ≤ env.limit → Passed env (length (field_modifier_tokens m)) w (past_field_modifier env w m)
field_modifier_passes env w field_modifier.Partitioned h = over 2 (none w h)
field_modifier_passes env w field_modifier.Partial h = over 2 (none w h)
field_modifier_passes env w field_modifier.Public h = over 1 (none w h)
field_modifier_passes env w field_modifier.Private h = over 1 (none w h)

module _ {env : Env} {n : ℕ} {w v : Walk} where
  field_passes : (f : Field) (at : ℕ) → Passed env n w v → Passed env (n + length (field_tokens f)) w (field_walk env f at v)
  unfolding field_walk
  field_passes f at p =
      let first = stays p (noted_stays _ at 4 v) in
      let types = further first (flat_pass env (λ (u : Walk). u) (past_field_modifier env) field_modifier_tokens (field_modifier_passes env) f.modifiers _ (within first)) in
      counted (over 4 (stays (over 4 (stays types (noted_stays _ _ 3 _))) (noted_stays _ _ 3 _))) (simp length-append (omega arith))

-- ---- methods

collection_length : (is_collection : Bool) → length (if is_collection then annotation (codes "Collection") else []) ≡ (if is_collection then 2 else 0)
collection_length true = refl
collection_length false = refl

array_length : (is_array : Bool) → length (if is_array then k.Symbol symbol.OpenBracket ∷ k.Symbol symbol.CloseBracket ∷ [] else []) ≡ (if is_array then 2 else 0)
array_length true = refl
array_length false = refl

module _ {env : Env} {n : ℕ} {w v : Walk} where
  param_passes : (number : ℕ) (x : Param) → Passed env n w v → Passed env (n + suc (length (param_tokens x))) w (param_walk env number x v)
  unfolding param_walk
  param_passes number x p =
      let first = collection_length x.is_collection in
      let one = type_length x.type_name in
      let last = array_length x.is_array in
      counted (declared_passes _ x.name _ (over_if x.is_array 2 (typed_name_passes _ x.type_name (over_if x.is_collection 2 (over 1 p)))))
      (simp length-append (omega arith))

  result_passes : (r : ResultType) → Passed env n w v → Passed env (n + length (result_tokens r)) w (result_walk env r v)
  result_passes result_type.Void p = over 1 p
  result_passes (result_type.Type t) p = let one = type_length t in counted (typed_name_passes v.at t p) (omega arith)

  entered_passes : (name : List ℕ) → Passed env n w v → Passed env n w (entered env name v)
  unfolding entered
  entered_passes name p = stays p (record { at = refl })

modifier_length : (m : Modifier) → length (modifier_tokens m) ≡ 1
modifier_length modifier.Public = refl
modifier_length modifier.Private = refl
modifier_length modifier.Static = refl

modifiers_length : (ms : List Modifier) → length (flat_map modifier_tokens ms) ≡ length ms
modifiers_length [] = refl
modifiers_length (m ∷ ms) = let one = modifier_length m in let rest = modifiers_length ms in simp length-append (omega arith)

one_param_passes : (env : Env) (c : Counted) (x : Param) → c.walk.at ≤ env.limit → Passed env (suc (length (param_tokens x))) c.walk (one_counted env c x).walk
one_param_passes env c x h = from_none (param_passes {env = env} c.count x (none c.walk h))

module _ {env : Env} {n : ℕ} {w v : Walk} where
  params_pass : (all : List Param) → Passed env n w v → Passed env (n + suc (suc (length (separated (map param_tokens all))))) w (params_walk env all v)
  unfolding params_walk
  params_pass all p =
      let first : Counted = record { count = 0; walk = v } in
      let q = all_pass env (λ (c : Counted). c.walk) (one_counted env) param_tokens (one_param_passes env) all first (within p) in
      counted (further p (over 1 (past_none_passes all (map param_tokens all) (sym (length_map param_tokens all)) q))) (omega arith)

module _ {env : Env} {n : ℕ} {w v : Walk} where
  method_passes : (m : Method) → Passed env n w v → Passed env (n + length (method_tokens m)) w (method_walk env m v)
  unfolding method_walk
  method_passes m p =
      let modifiers = modifiers_length m.modifiers in
      let name = over 1 (result_passes m.result (over (length m.modifiers) p)) in
      counted (block_passes env (item_walk env) item_tokens (item_counts env) m.body _ (params_pass m.params (entered_passes m.name name)))
      (simp length-append (omega arith))

named_member_stays : (name : List ℕ) (most at : ℕ) (seen : List (List ℕ × Unit {0})) (w : Walk) → Stays w (named_member name most at seen w).walk
unfolding named_member
named_member_stays name most at seen w = after (noted_stays _ at 2 w) (noted_stays _ at 14 _)

member_passes : (env : Env) (b : Membering) (m : Member) → b.walk.at ≤ env.limit → Passed env (length (member_tokens m)) b.walk (member_walk env b m).walk
member_passes env b (member.Field f) h = from_none (field_passes {env = env} f b.walk.at (stays (none b.walk h) (named_member_stays f.name most_fields b.walk.at b.seen.fields b.walk)))
member_passes env b (member.Method m) h = from_none (method_passes {env = env} m (stays (none b.walk h) (named_member_stays m.name most_methods b.walk.at b.seen.methods b.walk)))

-- ---- the class

qualified_length : (others : List (List ℕ)) → length (flat_map (λ name. k.Symbol symbol.Dot ∷ k.Identifier name ∷ []) others) ≡ length others + length others
qualified_length [] = refl
qualified_length (x ∷ others) = let rest = qualified_length others in omega arith

module _ {env : Env} {n : ℕ} {w v : Walk} where
  qualified_passes : (q : QualifiedName) → Passed env n w v → Passed env (n + length (qualified q)) w (past_qualified env q v)
  unfolding past_qualified
  qualified_passes q p = let rest = qualified_length q.others in counted (over (length q.others) (over (length q.others) (over 1 p))) (omega arith)

static_length : (is_static : Bool) → length (if is_static then k.Reserved word.Static ∷ [] else []) ≡ (if is_static then 1 else 0)
static_length true = refl
static_length false = refl

on_demand_length : (is_on_demand : Bool) → length (if is_on_demand then k.Symbol symbol.Dot ∷ k.Symbol symbol.Star ∷ [] else []) ≡ (if is_on_demand then 2 else 0)
on_demand_length true = refl
on_demand_length false = refl

module _ {env : Env} {n : ℕ} {w v : Walk} where
  package_passes : (q : Option QualifiedName) → Passed env n w v → Passed env (n + length (package_tokens q)) w (past_package env q v)
  package_passes None p = counted p (omega arith)
  package_passes (Some q) p = counted (qualified_passes q (over 2 p)) (simp length-append (omega arith))

  import_passes : (i : Import) → Passed env n w v → Passed env (n + length (import_tokens i)) w (past_import env v i)
  unfolding past_import
  import_passes i p =
      let first = static_length i.is_static in
      let last = on_demand_length i.is_on_demand in
      counted (over_if i.is_on_demand 2 (qualified_passes i.name (over_if i.is_static 1 (over 2 p)))) (simp length-append (omega arith))

one_import_passes : (env : Env) (w : Walk) (i : Import) → w.at ≤ env.limit → Passed env (length (import_tokens i)) w (past_import env w i)
one_import_passes env w i h = from_none (import_passes {env = env} i (none w h))

module _ (env : Env) (c : Class) (w : Walk) (h : w.at ≤ env.limit) where
  -- the tokens before `class`
  abbrev front : Kinds
  front = package_tokens c.package ++ (flat_map import_tokens c.imports ++ (flat_map modifier_tokens c.modifiers ++ []))

  head_passes : Passed env (length front + 3) w (head_walk env c w)
  unfolding head_walk
  head_passes =
      let named = package_passes c.package (stays (none w h) (noted_stays _ 0 2 w)) in
      let imports = further named (flat_pass env (λ (u : Walk). u) (past_import env) import_tokens (one_import_passes env) c.imports _ (within named)) in
      let modifiers = modifiers_length c.modifiers in
      counted (over 3 (over (length c.modifiers) imports)) (simp length-append (omega arith))

  members_pass : Passed env (length (kinds_of c) - 1) w (members_walk env c w)
  members_pass =
      let first : Membering = record { seen = record { fields = []; methods = [] }; walk = head_walk env c w } in
      let all = flat_pass env (λ (b : Membering). b.walk) (member_walk env) member_tokens (member_passes env) c.members first (within head_passes) in
      counted (further head_passes all) (simp length-append (omega arith))

-- ---- all of it

class_passes : (c : Class) → Passed (env_of c) (length (kinds_of c) - 1) start (whole c)
unfolding whole
class_passes c = members_pass (env_of c) c start (omega arith)

class_at : (c : Class) → (whole c).at ≡ min (length (kinds_of c) - 1) (length c.places)
class_at c = let p = class_passes c in omega (arith, p.at)

some_kinds : (c : Class) → 1 ≤ length (kinds_of c)
some_kinds c = simp length-append (omega arith)

pub passes_each_token : PassesEachToken
passes_each_token = record {
  expressions = λ env x negated w h. (expr_counts env x negated w h).at;
  values = λ env v w h. (value_counts env v w h).at;
  calls = λ env c w h. (call_counts env c w h).at;
  locals = λ env l w h. (from_none (local_passes l (none {env = env} w h))).at;
  simples = λ env s w h. (from_none (simple_passes s (none {env = env} w h))).at;
  headers = λ env x w h. (from_none (header_passes x (none {env = env} w h))).at;
  items = λ env i around w h. (item_counts env i around w h).at;
  statements = λ env s around w h. (statement_counts env s around w h).at;
  members = λ env m seen w h. (member_passes env (record { seen = seen; walk = w }) m h).at;
  class = class_at;
  left = λ c same. omega (arith, class_at c, some_kinds c);
}
