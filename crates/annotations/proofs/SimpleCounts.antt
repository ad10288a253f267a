-- The walk passes as many tokens as a declaration of a local has, and a statement that is an expression.
use Rattle.std.proofs.Common.{◌≡◌, ℕ, ◌+◌, Bool, true, false, length, Option, None, Some, if◌then◌else◌, refl, arith}
use Rattle.std.proofs.lemmas.List.{length-append}
use Rattle.java_tree.specs.declared.tree.TypeName.{TypeName}
use Rattle.java_tree.specs.declared.tree.TypeName.TheVariants as type_name
use Rattle.java_tree.specs.declared.tree.Local.{Local}
use Rattle.java_tree.specs.declared.tree.Simple.{Simple}
use Rattle.java_tree.specs.declared.tree.Simple.TheVariants as simple
use Rattle.java_tree.specs.declared.tree.Value.{Value}
use Rattle.java_tree.specs.declared.tree.CallForm.{CallForm}
use Rattle.java_tree.specs.Tokens.{type_tokens, initialiser, partial, local_tokens, simple_tokens, value_tokens}
use Rattle.java_tree.specs.Tokens as tokens
use Rattle.annotations.specs.declared.position.Position.TheVariants.{Statement}
use Rattle.annotations.specs.declared.walk.Env.{Env}
use Rattle.annotations.specs.declared.walk.Walk.{Walk}
use Rattle.annotations.specs.Positions.{assigned_by, initialiser_of}
use Rattle.annotations.specs.Simples.{initialised, declared, awaiting, local, call_alone, simple_walk}
use Rattle.annotations.proofs.Counting.{Stays, Passed, within, over, over_if, further, stays, counted, noted_stays, unmerged_stays, named_passes, here}
use Rattle.annotations.proofs.ExpressionSteps.{global_length}
use Rattle.annotations.proofs.ExpressionCounts.{value_counts, call_counts}

partial_length : (is_partial : Bool) → length (partial is_partial) ≡ (if is_partial then 2 else 0)
partial_length true = refl
partial_length false = refl

pub type_length : (t : TypeName) → length (type_tokens t) ≡ 1
type_length type_name.Int = refl
type_length type_name.Long = refl
type_length type_name.Boolean = refl
type_length (type_name.Named name) = refl

-- ---- declarations and statements that are expressions

awaiting_stays : (is_partial : Bool) (local at : ℕ) (w : Walk) → Stays w (awaiting is_partial local at w)
unfolding awaiting
awaiting_stays true local at w = record { at = refl }
awaiting_stays false local at w = here w

module _ {env : Env} {n : ℕ} {w v : Walk} where
  initialised_passes : (is_partial : Bool) (at : ℕ) (x : Option Value) → Passed env n w v → Passed env (n + length (initialiser x)) w (initialised env is_partial at x v)
  initialised_passes is_partial at None p = counted (stays p (noted_stays is_partial at 7 v)) (omega arith)
  initialised_passes is_partial at (Some x) p =
      let behind = stays (over 1 p) (noted_stays _ at 7 _) in
      counted (further behind (value_counts env x (initialiser_of is_partial) _ (within behind))) (omega arith)

  declared_passes : (is_partial : Bool) (at : ℕ) → Passed env n w v → Passed env (n + (if is_partial then 2 else 0) + 2) w (declared env is_partial at v)
  unfolding declared
  declared_passes is_partial at p = over 2 (over_if is_partial 2 (stays p (record { at = refl })))

module _ {env : Env} {n : ℕ} {w v : Walk} where
  pub local_passes : (l : Local) → Passed env n w v → Passed env (n + length (local_tokens l)) w (local env l v)
  unfolding local
  local_passes l p =
      let first = partial_length l.is_partial in
      let one = type_length l.type_name in
      let behind = initialised_passes l.is_partial v.at l.value (declared_passes l.is_partial v.at p) in
      counted (stays (stays behind (unmerged_stays _)) (awaiting_stays l.is_partial _ v.at _)) (simp length-append (omega arith))

  call_alone_passes : (is_global : Bool) (call : CallForm) → Passed env n w v
      → Passed env (n + length (tokens.global is_global) + length (tokens.call_tokens call)) w (call_alone env is_global call v)
  call_alone_passes is_global call p =
      let two = global_length is_global in
      let behind = over_if is_global 2 p in
      counted (further behind (call_counts env call Statement _ _ (within behind))) (omega arith)

  pub simple_passes : (x : Simple) → Passed env n w v → Passed env (n + length (simple_tokens x)) w (simple_walk env x v)
  simple_passes (simple.Assign name op x) p =
      let behind = over 1 (named_passes p) in
      counted (further behind (value_counts env x (assigned_by op) _ (within behind))) (omega arith)
  simple_passes (simple.PostIncrement name) p = counted (over 1 (named_passes p)) (omega arith)
  simple_passes (simple.PostDecrement name) p = counted (over 1 (named_passes p)) (omega arith)
  simple_passes (simple.PreIncrement name) p = counted (named_passes (over 1 p)) (omega arith)
  simple_passes (simple.PreDecrement name) p = counted (named_passes (over 1 p)) (omega arith)
  simple_passes (simple.Call is_global call) p = counted (call_alone_passes is_global call p) (simp length-append (omega arith))
