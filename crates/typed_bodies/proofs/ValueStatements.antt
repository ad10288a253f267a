-- A value that goes to a target is a statement that is typed.
use Rattle.std.proofs.Common.{◌≡◌, ℕ, Bool, true, false, [], refl, sym, ap, subst, ◌∙◌}
use Rattle.java_tree.specs.declared.tree.CallForm.TheFolds.{fold-roll-Value}
use Rattle.java_tree.specs.declared.tree.Value.{Value, out-Value, roll-out-Value}
use Rattle.java_tree.specs.declared.tree.Expr.{Expr, out-Expr}
use Rattle.java_tree.specs.declared.types.ValueType.{ValueType}
use Rattle.java_tree.specs.declared.types.ValueType.TheVariants as value
use Rattle.java_tree.specs.declared.types.ExprType.{ExprType}
use Rattle.java_tree.specs.declared.types.ExprType.TheVariants as types
use Rattle.java_types.specs.declared.walk.Walk.{Walk as TypesWalk}
use Rattle.java_types.specs.Expressions.{Reading, Argument, Calling, Passing, passing, expr_step, value_step, call_step, expr_walk, value_walk}
use Rattle.java_types.specs.Fits.{fits}
use Rattle.java_types.specs.Walks.{past, past_if}
use Rattle.annotations.specs.declared.position.Position.{Position}
use Rattle.annotations.specs.declared.walk.Walk.{Walk}
use Rattle.annotations.specs.Expressions as marking
use Rattle.access_blocks.specs.declared.body.Statement.{Statement}
use Rattle.access_blocks.specs.declared.body.Target.{Target}
use Rattle.access_blocks.specs.declared.body.Target.TheVariants as target
use Rattle.access_blocks.specs.Cursors.{Cursor, Read}
use Rattle.access_blocks.specs.ResolvingStatements.{value_to, whole_in}
use Rattle.body_code.specs.Checking.{Surroundings}
use Rattle.typed_bodies.specs.Reading.{Place, IsSound}
use Rattle.typed_bodies.specs.Marking.{is_state}
use Rattle.typed_bodies.specs.Targets.{StandsIn, Takes, Puts}
use Rattle.typed_bodies.proofs.ExpressionsFollow.{value_of_expression}
use Rattle.typed_bodies.proofs.ValuesGo.{Meets}
use Rattle.typed_bodies.proofs.ValuesPut.{value_puts}
use Rattle.typed_bodies.proofs.ValuesTyped.{expression_reads}

-- what is put from behind some tokens is put from before them
pub puts_past : (p : Place) (around : Surroundings) (is_global : Bool) (to : Target) (wanted : ExprType) (test : Bool) (n : ℕ) (w v : TypesWalk) (m : Position → Walk → Walk) (reading : Cursor → Read Statement)
    → Puts p around is_global to wanted (past_if p.env test n w) v m reading → Puts p around is_global to wanted w v m reading
unfolding past
puts_past p around is_global to wanted true n w v m reading puts = record {
  added = record {
    types = puts.added.types;
    names = puts.added.names;
    no_findings = puts.added.no_findings;
    to_types = puts.added.to_types;
    to_names = puts.added.to_names;
    same_variables = puts.added.same_variables;
    same_locals = puts.added.same_locals;
  };
  grows = puts.grows;
  behind = puts.behind;
  put = puts.put;
}
puts_past p around is_global to wanted false n w v m reading puts = puts

fits_no_state : (t : ValueType) (found : ExprType) → fits (types.Value t) found ≡ true → is_state found ≡ false
fits_no_state t types.Unknown e = refl
fits_no_state t types.Void e = refl
fits_no_state t (types.Value s) e = refl
fits_no_state t (types.Collection s) e = refl
fits_no_state value.Int (types.State class) e = absurd (cc)
fits_no_state value.Long (types.State class) e = absurd (cc)
fits_no_state value.Boolean (types.State class) e = absurd (cc)
fits_no_state value.Vector (types.State class) e = absurd (cc)

module _ (around : Surroundings) (is_global : Bool) (wanted found : ExprType) (fit : fits wanted found ≡ true) where
  no_state_by : (t : ValueType) → wanted ≡ types.Value t → is_state found ≡ false
  no_state_by t is = fits_no_state t found (ap (λ (w : ExprType). fits w found) (sym is) ∙ fit)

  goes_no_state : (to : Target) → Takes around is_global to wanted → is_state found ≡ false
  goes_no_state target.Dropped takes = absurd takes
  goes_no_state (target.Variable v) takes = no_state_by takes.0 takes.1
  goes_no_state target.Returned takes = no_state_by takes.0 takes.1

  takes_meets : (to : Target) → Takes around is_global to wanted → (from : ExprType) → from ≡ found → Meets around is_global to wanted from found
  takes_meets target.Dropped takes from same = absurd takes
  takes_meets (target.Variable v) takes from same = (takes, (same, fit))
  takes_meets target.Returned takes from same = (takes, (same, fit))

module _ (p : Place) (v : Value) where
  abbrev x : Expr
  x = (out-Value v).expr

  abbrev is_global : Bool
  is_global = (out-Value v).is_global

  value_walked : (w : TypesWalk) → value_walk p.env v w ≡ passing is_global (expr_walk p.env x false (past_if p.env is_global 2 w))
  value_walked w =
      ap (λ (z : Value). value_walk p.env z w) (sym (roll-out-Value v))
      ∙ ap (λ (a : Argument). a w) (fold-roll-Value Calling Reading Argument (call_step p.env) (expr_step p.env) (value_step p.env) (out-Value v))

  value_marked : marking.value_of p.marks v ≡ value_of_expression p is_global (marking.expr_of p.marks x)
  value_marked =
      ap (λ (z : Value). marking.value_of p.marks z) (sym (roll-out-Value v))
      ∙ fold-roll-Value marking.Calling marking.Reading marking.Argument (marking.call_step p.marks) (marking.expr_step p.marks) (marking.value_step p.marks) (out-Value v)

  module _ (sound : IsSound p) (around : Surroundings) (stands : StandsIn p around) (to : Target) (wanted : ExprType) (takes : Takes around is_global to wanted) where
    passed_puts : (w : TypesWalk) (e : Passing) → e ≡ passing is_global (expr_walk p.env x false (past_if p.env is_global 2 w)) → e.walk.findings ≡ [] → fits wanted e.given.found ≡ true
        → Puts p around is_global to wanted w e.walk (value_of_expression p is_global (marking.expr_of p.marks x)).walk (value_to p.scope to wanted v)
    passed_puts w e is quiet fit =
        let u = past_if p.env is_global 2 w in
        let t = expr_walk p.env x false u in
        let quiet_too : t.walk.findings ≡ [] = ap (λ (e : Passing). e.walk.findings) (sym is) ∙ quiet in
        let fit_too : fits wanted t.found ≡ true = ap (λ (e : Passing). fits wanted e.given.found) (sym is) ∙ fit in
        subst (λ (e : Passing). Puts p around is_global to wanted w e.walk (value_of_expression p is_global (marking.expr_of p.marks x)).walk (value_to p.scope to wanted v)) (sym is)
        (puts_past p around is_global to wanted is_global 2 w t.walk (value_of_expression p is_global (marking.expr_of p.marks x)).walk (value_to p.scope to wanted v)
        (value_puts p around stands is_global to wanted t.found (λ from. from ≡ t.found) (takes_meets around is_global wanted t.found fit_too to takes) (marking.expr_of p.marks x).walk u t.walk
        (whole_in p.scope x (out-Expr x)) (expression_reads p sound x u quiet_too (goes_no_state around is_global wanted t.found fit_too to takes))))

    -- as a statement it is typed
    pub value_is_put : (w : TypesWalk) → (value_walk p.env v w).walk.findings ≡ [] → fits wanted (value_walk p.env v w).given.found ≡ true
        → Puts p around is_global to wanted w (value_walk p.env v w).walk (marking.value_of p.marks v).walk (value_to p.scope to wanted v)
    value_is_put w quiet fit =
        subst (λ (a : marking.Argument). Puts p around is_global to wanted w (value_walk p.env v w).walk a.walk (value_to p.scope to wanted v)) (sym value_marked)
        (passed_puts w (value_walk p.env v w) (value_walked w) quiet fit)
