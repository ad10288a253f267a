-- A value that goes to a target: in the header of a loop it is no access where the rules on annotations find nothing in it.
use Rattle.std.proofs.Common.{◌≡◌, ℕ, Bool, true, false, List, [], ◌∷◌, Option, Some, None, if◌then◌else◌, refl, sym, ap, subst, ◌∙◌}
use Rattle.java_tree.specs.declared.tree.Expr.{Expr, out-Expr, roll-out-Expr}
use Rattle.java_tree.specs.declared.tree.Value.{Value, out-Value, roll-out-Value}
use Rattle.java_tree.specs.declared.tree.CallForm.{CallForm}
use Rattle.java_tree.specs.declared.tree.CallForm.TheOpen.{Expr-F, Value-F}
use Rattle.java_tree.specs.declared.tree.CallForm.TheOpen as e
use Rattle.java_tree.specs.declared.tree.CallForm.TheFolds.{fold-roll-Expr, fold-roll-Value, map-Expr, map-Value}
use Rattle.java_tree.specs.declared.types.ExprType.{ExprType}
use Rattle.annotations.specs.declared.position.Position.{Position}
use Rattle.annotations.specs.declared.walk.Env.{Env}
use Rattle.annotations.specs.declared.walk.Walk.{Walk}
use Rattle.annotations.specs.Walks.{past_if, token_if, unfit}
use Rattle.annotations.specs.Expressions as walks
use Rattle.annotations.specs.Expressions.{Argument, Reading, expr_of, value_of, call_of}
use Rattle.access_blocks.specs.declared.body.Expression.{Expression}
use Rattle.access_blocks.specs.declared.body.Statement.{Statement}
use Rattle.access_blocks.specs.declared.body.Statement.TheOpen as s
use Rattle.access_blocks.specs.declared.body.Statement.TheVariants as statement
use Rattle.access_blocks.specs.declared.body.Target.{Target}
use Rattle.access_blocks.specs.declared.body.Target.TheVariants as target
use Rattle.access_blocks.specs.declared.resolved.Invoked.{Invoked}
use Rattle.access_blocks.specs.declared.resolved.Invoked.TheVariants as invoked
use Rattle.access_blocks.specs.declared.scope.Scope.{Scope}
use Rattle.access_blocks.specs.Cursors.{Cursor, Read, type_here, behind_type}
use Rattle.access_blocks.specs.Resolving as reads
use Rattle.access_blocks.specs.Resolving.{Resolving, converted_to, expression_of}
use Rattle.access_blocks.specs.ResolvingStatements.{whole_in, whole_of, put, given_to, value_to}
use Rattle.resolved_bodies.specs.Together.{AreTogether, Goes}
use Rattle.resolved_bodies.proofs.Going.{further, going_past_if, going_unfit}
use Rattle.resolved_bodies.proofs.ExpressionsGo.{expression_goes, value_goes, call_goes}
use Rattle.resolved_bodies.proofs.CallsInHeaders.{is_access, call_in_header}
use Rattle.resolved_bodies.proofs.Heading.{IsRight, HasNone, right_as, none_as}

-- ---- statements of a whole

put_right : (to : Target) (a : Expression) → IsRight (put to a)
put_right target.Dropped a = right_as (s.Evaluate a) (statement.rolls-Evaluate a) refl
put_right (target.Variable v) a = right_as (s.Assign v a) (statement.rolls-Assign v a) refl
put_right target.Returned a = right_as (s.Return (Some a)) (statement.rolls-Return (Some a)) refl

put_none : (to : Target) (a : Expression) → HasNone (put to a)
put_none target.Dropped a = none_as (s.Evaluate a) (statement.rolls-Evaluate a) refl
put_none (target.Variable v) a = none_as (s.Assign v a) (statement.rolls-Assign v a) refl
put_none target.Returned a = none_as (s.Return (Some a)) (statement.rolls-Return (Some a)) refl

pub given_right : (is_global : Bool) (to : Target) (wanted found : ExprType) (i : Invoked) → IsRight (given_to is_global to wanted found i)
given_right is_global to wanted found (invoked.Value a) = put_right to (converted_to wanted found a)
given_right is_global to wanted found (invoked.Sets v at a) = right_as (s.SetElement v at a) (statement.rolls-SetElement v at a) refl
given_right true to wanted found (invoked.Accesses a) = right_as (s.Gather _) (statement.rolls-Gather _) refl
given_right false to wanted found (invoked.Accesses a) = right_as (s.Access _) (statement.rolls-Access _) refl

pub given_none : (is_global : Bool) (to : Target) (wanted found : ExprType) (i : Invoked) → is_access i ≡ false → HasNone (given_to is_global to wanted found i)
given_none is_global to wanted found (invoked.Value a) e = put_none to (converted_to wanted found a)
given_none is_global to wanted found (invoked.Sets v at a) e = none_as (s.SetElement v at a) (statement.rolls-SetElement v at a) refl
given_none is_global to wanted found (invoked.Accesses a) e = absurd (cc)

module _ (env : Env) (scope : Scope) where
  -- A statement is read where the walk goes on.
  pub record States (w v : Walk) (c : Cursor) (r : Read Statement) : Type 0 where
    pub goes : Goes env w v c r.cursor
    pub right : IsRight r.it
    pub none : AreTogether env w c → v.findings ≡ [] → w.in_header ≡ true → HasNone r.it

  -- ---- wholes

  record IsWhole (walk : Position → Option ℕ → Walk → Walk) (a : Expr) (layer : Expr-F CallForm Expr Value) : Type 0 where
    goes : (position : Position) (global : Option ℕ) (w : Walk) (c : Cursor) → Goes env w (walk position global w) c (whole_in scope a layer c).cursor
    none : (position : Position) (global : Option ℕ) (w : Walk) (c : Cursor) → AreTogether env w c → (walk position global w).findings ≡ [] → w.in_header ≡ true
        → is_access (whole_in scope a layer c).it.invoked ≡ false

  abbrev walking : Expr-F CallForm Expr Value → Expr-F walks.Calling Reading Argument
  walking = map-Expr CallForm Expr Value walks.Calling Reading Argument (call_of env) (expr_of env) (value_of env)

  walked_as : (a : Expr) → expr_of env a ≡ walks.expr_step env (walking (out-Expr a))
  walked_as a = ap (λ (z : Expr). expr_of env z) (sym (roll-out-Expr a)) ∙ fold-roll-Expr walks.Calling Reading Argument (walks.call_step env) (walks.expr_step env) (walks.value_step env) (out-Expr a)

  call_whole : (a : Expr) (call : CallForm) → IsWhole (λ position global w. call_of env call position global (unfit position w)) a (e.Call call)
  call_whole a call = record {
    goes = λ position global w c.
        let g = further env (going_unfit env position w c) (call_goes env scope call position global _ c) in
        let h = call_goes env scope call position global (unfit position w) (behind_type c) in
        let u = going_unfit env position w c in
        record { grows = g.grows; stays = g.stays; together = λ t. h.together (u.together t) };
    none = λ position global w c together quiet in_header.
        let u = going_unfit env position w c in
        call_in_header env scope call position global (unfit position w) (behind_type c) (u.together together) quiet (u.stays ∙ in_header);
  }

  abbrev expression_whole : (a : Expr) → Type 0
  expression_whole a = IsWhole (expr_of env a).walk a (out-Expr a)

  whole_by : (a : Expr) (layer : Expr-F CallForm Expr Value) → expr_of env a ≡ walks.expr_step env (walking layer) → IsWhole (expr_of env a).walk a layer
  whole_by a (e.Call call) is = subst (λ (r : Reading). IsWhole r.walk a (e.Call call)) (sym is) (call_whole a call)
  whole_by a (e.Conditional test first second) is = record { goes = expression_goes env scope a; none = λ position global w c t q h. refl }
  whole_by a (e.Binary op left right) is = record { goes = expression_goes env scope a; none = λ position global w c t q h. refl }
  whole_by a (e.Unary op operand) is = record { goes = expression_goes env scope a; none = λ position global w c t q h. refl }
  whole_by a (e.Cast to operand) is = record { goes = expression_goes env scope a; none = λ position global w c t q h. refl }
  whole_by a (e.Number digits decimal long) is = record { goes = expression_goes env scope a; none = λ position global w c t q h. refl }
  whole_by a (e.Bool b) is = record { goes = expression_goes env scope a; none = λ position global w c t q h. refl }
  whole_by a (e.Paren inner) is = record { goes = expression_goes env scope a; none = λ position global w c t q h. refl }
  whole_by a (e.New name size) is = record { goes = expression_goes env scope a; none = λ position global w c t q h. refl }
  whole_by a (e.Name name) is = record { goes = expression_goes env scope a; none = λ position global w c t q h. refl }
  whole_by a (e.Index name at) is = record { goes = expression_goes env scope a; none = λ position global w c t q h. refl }
  whole_by a (e.Member object name) is = record { goes = expression_goes env scope a; none = λ position global w c t q h. refl }

  -- ---- values

  value_walked : (v : Value) (position : Position) (w : Walk)
      → (value_of env v).walk position w ≡ (expr_of env (out-Value v).expr).walk position (token_if (out-Value v).is_global w.at) (past_if env (out-Value v).is_global 2 w)
  value_walked v position w =
      ap (λ (z : Value). (value_of env z).walk position w) (sym (roll-out-Value v))
      ∙ ap (λ (r : Argument). r.walk position w) (fold-roll-Value walks.Calling Reading Argument (walks.call_step env) (walks.expr_step env) (walks.value_step env) (out-Value v))

  pub value_states : (to : Target) (wanted : ExprType) (v : Value) (position : Position) (w : Walk) (c : Cursor) → States w ((value_of env v).walk position w) c (value_to scope to wanted v c)
  value_states to wanted v position w c =
      let a = (out-Value v).expr in
      let p = past_if env (out-Value v).is_global 2 w in
      let global = token_if (out-Value v).is_global w.at in
      let b = whole_by a (out-Expr a) (walked_as a) in
      let g = going_past_if env (out-Value v).is_global 2 w c in
      subst (λ (u : Walk). States w u c (value_to scope to wanted v c)) (sym (value_walked v position w))
      (record {
        goes = further env g (b.goes position global p c);
        right = given_right (out-Value v).is_global to wanted _ _;
        none = λ together quiet in_header.
            given_none (out-Value v).is_global to wanted _ _ (b.none position global p c (g.together together) quiet (g.stays ∙ in_header));
      })

  -- as an operand it is an expression
  pub value_read : (v : Value) → reads.value_of scope v ≡ expression_of scope (out-Value v).expr
  value_read v =
      ap (λ (z : Value). reads.value_of scope z) (sym (roll-out-Value v))
      ∙ fold-roll-Value reads.Calling Resolving Resolving (reads.call_step scope) (reads.expr_step scope) reads.value_step (out-Value v)
