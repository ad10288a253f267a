-- The walk passes as many tokens as a declaration of a local has, and a statement that is an expression.
use Rattle.std.proofs.Common.{◌≡◌, ℕ, ◌+◌, Bool, true, false, List, length, Option, None, Some, if◌then◌else◌, refl, arith}
use Rattle.std.proofs.lemmas.List.{length-append}
use Rattle.sdg_base.specs.declared.operator.BinOp.{BinOp}
use Rattle.java_tree.specs.declared.tree.TypeName.{TypeName}
use Rattle.java_tree.specs.declared.tree.TypeName.TheVariants as type_name
use Rattle.java_tree.specs.declared.tree.AssignOp.{AssignOp}
use Rattle.java_tree.specs.declared.tree.Local.{Local}
use Rattle.java_tree.specs.declared.tree.Simple.{Simple}
use Rattle.java_tree.specs.declared.tree.Simple.TheVariants as simple
use Rattle.java_tree.specs.declared.tree.Expr.{Expr}
use Rattle.java_tree.specs.declared.tree.Value.{Value}
use Rattle.java_tree.specs.declared.tree.CallForm.{CallForm}
use Rattle.java_tree.specs.declared.types.ExprType.{ExprType}
use Rattle.java_tree.specs.Tokens.{Kinds, separated, type_tokens, initialiser, partial, local_tokens, simple_tokens, init_tokens, header_tokens, expr_tokens, value_tokens, item_tokens}
use Rattle.java_tree.specs.Tokens as tokens
use Rattle.java_types.specs.declared.walk.Env.{Env}
use Rattle.java_types.specs.declared.walk.Variable.{Variable}
use Rattle.java_types.specs.declared.walk.Walk.{Walk}
use Rattle.java_types.specs.Expressions.{Passing}
use Rattle.java_types.specs.Simples.{typed_name, declared, declared_local, put, target, stepped, initialised, local, assigned_by, assigned, operator_of, call_alone, simple_walk}
use Rattle.java_types.proofs.Counting.{Stays, Passed, within, over, over_if, further, stays, counted, after, noted_stays, opened_within, named_passes, typed_passes}
use Rattle.java_types.proofs.ExpressionSteps.{operated_stays, global_length}
use Rattle.java_types.proofs.ExpressionCounts.{value_counts, call_counts}

partial_length : (is_partial : Bool) → length (partial is_partial) ≡ (if is_partial then 2 else 0)
partial_length true = refl
partial_length false = refl

pub type_length : (t : TypeName) → length (type_tokens t) ≡ 1
type_length type_name.Int = refl
type_length type_name.Long = refl
type_length type_name.Boolean = refl
type_length (type_name.Named name) = refl

-- ---- declarations and statements that are expressions

put_stays : (wanted : ExprType) (p : Passing) (x : Expr) (at : ℕ) → Stays p.walk (put wanted p x at)
unfolding put
put_stays wanted p x at = after (noted_stays _ at 7 p.walk) (noted_stays _ at 10 _)

assigned_by_stays : (op : Option BinOp) (at : ℕ) (x : Option Variable) (value_at : ℕ) (value : Expr) (p : Passing) → Stays p.walk (assigned_by op at x value_at value p)
assigned_by_stays None at x value_at value p = after (noted_stays _ at 10 p.walk) (put_stays _ _ value value_at)
assigned_by_stays (Some op) at x value_at value p = operated_stays op _ _ p.walk

module _ {env : Env} {n : ℕ} {w v : Walk} where
  pub typed_name_passes : (at : ℕ) (name : TypeName) → Passed env n w v → Passed env (n + 1) w (typed_name env at name v).walk
  unfolding typed_name
  typed_name_passes at name p = over 1 (stays (stays p (noted_stays _ v.at 3 v)) (noted_stays _ at 5 _))

  pub declared_passes : (at : ℕ) (name : List ℕ) (x : Variable) → Passed env n w v → Passed env (n + 1) w (declared env at name x v)
  unfolding declared
  declared_passes at name x p = let s = noted_stays _ at 2 v in over 1 (stays p (record { at = s.at }))

  target_passes : (at : ℕ) (name : List ℕ) → Passed env n w v → Passed env (n + 1) w (target env at name v).walk
  unfolding target
  target_passes at name p = stays (named_passes name p) (noted_stays _ at 9 _)

  initialised_passes : (wanted : ExprType) (x : Option Value) → Passed env n w v → Passed env (n + length (initialiser x)) w (initialised env wanted x v)
  initialised_passes wanted None p = counted p (omega arith)
  initialised_passes wanted (Some x) p =
      let behind = over 1 p in
      counted (stays (further behind (value_counts env x _ (within behind))) (put_stays wanted _ _ _)) (omega arith)

module _ {env : Env} {n : ℕ} {w v : Walk} where
  declared_local_passes : (at : ℕ) (name : List ℕ) (t : ExprType) → Passed env n w v → Passed env (n + 1) w (declared_local env at name t v)
  unfolding declared_local
  declared_local_passes at name t p = declared_passes at name _ (stays p (record { at = refl }))

  stepped_passes : (at : ℕ) (name : List ℕ) → Passed env n w v → Passed env (n + 1) w (stepped env at name v)
  unfolding stepped
  stepped_passes at name p = stays (target_passes at name p) (noted_stays _ v.at 7 _)

module _ {env : Env} {n : ℕ} {w v : Walk} where
  pub local_passes : (l : Local) → Passed env n w v → Passed env (n + length (local_tokens l)) w (local env l v)
  unfolding local
  local_passes l p =
      let first = partial_length l.is_partial in
      let one = type_length l.type_name in
      counted (initialised_passes _ l.value (declared_local_passes v.at l.name _ (typed_name_passes v.at l.type_name (over_if l.is_partial 2 p))))
      (simp length-append (omega arith))

  assigned_passes : (name : List ℕ) (op : AssignOp) (x : Value) → Passed env n w v → Passed env (n + 2 + length (value_tokens x)) w (assigned env name op x v)
  unfolding assigned
  assigned_passes name op x p =
      let behind = over 1 (target_passes v.at name p) in
      counted (stays (further behind (value_counts env x _ (within behind))) (assigned_by_stays (operator_of op) v.at _ _ _ _)) (omega arith)

  call_alone_passes : (is_global : Bool) (call : CallForm) → Passed env n w v
      → Passed env (n + length (tokens.global is_global) + length (tokens.call_tokens call)) w (call_alone env is_global call v)
  unfolding call_alone
  call_alone_passes is_global call p =
      let two = global_length is_global in
      let behind = stays (over_if is_global 2 p) (noted_stays _ v.at 10 _) in
      counted (further behind (typed_passes _ (call_counts env call _ (opened_within behind)))) (omega arith)

  pub simple_passes : (x : Simple) → Passed env n w v → Passed env (n + length (simple_tokens x)) w (simple_walk env x v)
  simple_passes (simple.Assign name op x) p = counted (assigned_passes name op x p) (omega arith)
  simple_passes (simple.PostIncrement name) p = counted (over 1 (stepped_passes v.at name p)) (omega arith)
  simple_passes (simple.PostDecrement name) p = counted (over 1 (stepped_passes v.at name p)) (omega arith)
  simple_passes (simple.PreIncrement name) p = counted (stepped_passes v.at name (over 1 p)) (omega arith)
  simple_passes (simple.PreDecrement name) p = counted (stepped_passes v.at name (over 1 p)) (omega arith)
  simple_passes (simple.Call is_global call) p = counted (call_alone_passes is_global call p) (simp length-append (omega arith))
