-- What the walk of the rules on types adds over values, conditions and calls in which it finds nothing, wherever they stand.
use Rattle.std.proofs.Common.{◌≡◌, Bool, true, false, not, List, [], ◌∷◌, ◌++◌, length, refl, sym, ap, subst, ◌∙◌}
use Rattle.java_tree.specs.declared.tree.CallForm.{CallForm}
use Rattle.java_tree.specs.declared.tree.Expr.{Expr}
use Rattle.java_tree.specs.declared.tree.Value.{Value}
use Rattle.java_tree.specs.declared.types.ExprType.{ExprType}
use Rattle.java_tree.specs.declared.types.Declaration.{Declaration}
use Rattle.java_types.specs.declared.walk.Walk.{Walk}
use Rattle.java_types.specs.Expressions.{typed, expr_walk, value_walk, call_walk}
use Rattle.java_types.specs.Fits.{may_be_boolean}
use Rattle.java_types.specs.Simples.{call_alone, writes}
use Rattle.java_types.specs.Statements.{condition}
use Rattle.java_types.specs.Walks.{past_if, noted, opened}
use Rattle.annotations.specs.Expressions as marking
use Rattle.access_blocks.specs.Cursors.{Cursor}
use Rattle.access_blocks.specs.Resolving as resolving
use Rattle.typed_bodies.specs.Reading.{Place, Adds, Stands}
use Rattle.typed_bodies.specs.Expressions.{IsCall, is_of_member}
use Rattle.typed_bodies.specs.Laws.{ExpressionsAreTyped}
use Rattle.typed_bodies.proofs.ExpressionsFollow.{closed_quiet}
use Rattle.typed_bodies.proofs.Steps.{unbroken, past_adds, follows_noted, follows_typed}
use Rattle.typed_statements.specs.Points.{Setting, IsSoundSomewhere, place_at}

-- ---- what is added is one

same_behind : {A : Type 0} (xs ys zs : List A) → xs ++ ys ≡ xs ++ zs → ys ≡ zs
same_behind [] ys zs e = e
same_behind (x ∷ xs) ys zs e = same_behind xs ys zs (cc)

-- before what one adds stands what the other one adds, up to the same walk
pub stands_along : (p : Place) (c : Cursor) {w v y : Walk} → v ≡ y → (a : Adds w v) (b : Adds w y) (types : List ExprType) (names : List Declaration) → Stands p c (a.types ++ types) (a.names ++ names)
    → Stands p c (b.types ++ types) (b.names ++ names)
stands_along p c {w = w} same a b types names s = record {
  are_types = s.are_types ∙ ap (λ ts. ts ++ types) (same_behind w.types a.types b.types (sym a.to_types ∙ (ap (λ (v : Walk). v.types) same ∙ b.to_types)));
  are_names = s.are_names ∙ ap (λ ns. ns ++ names) (same_behind w.names a.names b.names (sym a.to_names ∙ (ap (λ (v : Walk). v.names) same ∙ b.to_names)));
  are_variables = s.are_variables;
  are_locals = s.are_locals;
}

pub stands_as : (p : Place) (c : Cursor) {w v : Walk} (a b : Adds w v) (types : List ExprType) (names : List Declaration) → Stands p c (a.types ++ types) (a.names ++ names) → Stands p c (b.types ++ types) (b.names ++ names)
stands_as p c a b types names s = stands_along p c refl a b types names s

-- ---- by the soundness somewhere in the class

module _ (expressions : ExpressionsAreTyped) (k : Setting) (there : IsSoundSomewhere k) where
  abbrev p : Place
  p = place_at k there.point

  pub value_adds : (v : Value) (w : Walk) → (value_walk k.env v w).walk.findings ≡ [] → Adds w (value_walk k.env v w).walk
  value_adds v w quiet = (expressions.values p there.sound v w quiet).added

  pub condition_adds : (x : Expr) (w : Walk) → (condition k.env x w).findings ≡ [] → Adds w (condition k.env x w)
  unfolding condition
  condition_adds x w quiet =
      let t = expr_walk k.env x false w in
      let u = unbroken (not (may_be_boolean t.found)) w.at 8 t.walk quiet in
      (follows_noted p u (expressions.expressions p there.sound x false w u.quiet)).added

  start_quiet : (call : CallForm) (w : Walk) → (typed w (call_walk k.env call (opened w))).walk.findings ≡ [] → w.findings ≡ []
  unfolding opened
  start_quiet call w quiet = (expressions.calls p there.sound call (opened w) (closed_quiet (length w.types) _ _ quiet)).added.no_findings

  typed_adds : (call : CallForm) (w : Walk) → (typed w (call_walk k.env call (opened w))).walk.findings ≡ [] → Adds w (typed w (call_walk k.env call (opened w))).walk
  typed_adds call w quiet =
      let t = call_walk k.env call (opened w) in
      (follows_typed p w t.found (λ found. resolving.call_of k.scope call) (IsCall p (is_of_member call) t.found (marking.call_of k.marks call))
      (expressions.calls p there.sound call (opened w) (closed_quiet (length w.types) t.found t.walk quiet))).added

  pub call_adds : (is_global : Bool) (call : CallForm) (w : Walk) → (call_alone k.env is_global call w).findings ≡ [] → Adds w (call_alone k.env is_global call w)
  unfolding call_alone
  call_adds is_global call w quiet =
      let b = past_if k.env is_global 2 w in
      let n = noted (writes k.env b call) w.at 10 b in
      let u = unbroken (writes k.env b call) w.at 10 b (start_quiet call n quiet) in
      subst (λ (s : Walk). Adds w (typed s (call_walk k.env call (opened s))).walk) (sym u.same)
      (past_if_adds is_global (typed_adds call b (ap (λ (s : Walk). (typed s (call_walk k.env call (opened s))).walk.findings) (sym u.same) ∙ quiet)))
    where
      past_if_adds : (test : Bool) {w v : Walk} → Adds (past_if k.env test 2 w) v → Adds w v
      past_if_adds true a = past_adds k.env 2 a
      past_if_adds false a = a
