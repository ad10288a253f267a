-- Each expression in which the rules on types find nothing is judged as the rules on flow judge it.
use Rattle.std.proofs.Common.{◌≡◌, Bool, List, [], length, None, refl, sym, subst}
use Rattle.java_tree.specs.declared.tree.Expr.{Expr, roll-Expr}
use Rattle.java_tree.specs.declared.tree.Value.{Value}
use Rattle.java_tree.specs.declared.tree.CallForm.{CallForm, roll-CallForm}
use Rattle.java_tree.specs.declared.tree.CallForm.TheOpen.{CallForm-F, Expr-F, Value-F}
use Rattle.java_tree.specs.declared.tree.CallForm.TheOpen as e
use Rattle.java_tree.specs.declared.tree.CallForm.TheFolds.{fold-roll-Expr, ind-Expr, map-CallForm, map-Expr, map-Value}
use Rattle.java_tree.specs.declared.types.ExprType.{ExprType}
use Rattle.java_tree.specs.declared.types.Declaration.{Declaration}
use Rattle.java_types.specs.declared.walk.Walk.{Walk}
use Rattle.java_types.specs.Walks.{opened}
use Rattle.java_types.specs.Expressions.{Reading, Argument, Calling, parts, expr_step, value_step, call_step, expr_walk, value_walk, call_walk}
use Rattle.java_flow.specs.Constants as flow
use Rattle.java_flow.specs.Expressions.{Walking, Judged, judged, constant_step}
use Rattle.java_flow.specs.Expressions as flow_walks
use Rattle.access_blocks.specs.declared.resolved.Resolved.{Resolved}
use Rattle.access_blocks.specs.Cursors.{Cursor, Read, type_here, behind_type}
use Rattle.access_blocks.specs.Resolving.{Resolving, expression_of, value_of, call_of}
use Rattle.access_blocks.specs.Resolving as resolving
use Rattle.typed_bodies.specs.Laws.{ExpressionsAreTyped}
use Rattle.typed_bodies.specs.Reading.{Place, IsSound, Follows}
use Rattle.typed_bodies.proofs.ExpressionsFollow.{closed_quiet}
use Rattle.typed_bodies.proofs.Steps.{follows_typed}
use Rattle.resolved_constants.specs.Constants.{HasNoConstant, Agrees, IsJudged}
use Rattle.resolved_constants.specs.Laws.{ConstantsAreKept}
use Rattle.resolved_constants.proofs.Calls.{IsNoConstant, variable_none, new_vector_none, gathered_length_none, gathered_none, rolled_none}
use Rattle.resolved_constants.proofs.Walks.{ReadsPart, binary_kept, conditional_kept, unary_kept, cast_kept, paren_kept, number_kept, truth_kept}

-- the same reading, where more is known of whatever is read
pub fits_more : {A : Type 0} {w v : Walk} (p : Place) {reading : Cursor → Read A} (Fits : List Declaration → A → Type 0) (More : A → Type 0) (Made : List Declaration → A → Type 0)
    → ((names : List Declaration) (a : A) → Fits names a → More a → Made names a) → ((c : Cursor) → More (reading c).it) → Follows p w v reading Fits → Follows p w v reading Made
fits_more p Fits More Made made more f = record {
  added = f.added;
  in_step = λ known c types names stands. let r = f.in_step known c types names stands in record { behind = r.behind; fits = made _ _ r.fits (more c) };
}

agrees_none : (found : ExprType) (long : Bool) (c : flow.Constant) (r : Resolved) → c ≡ None → HasNoConstant r → Agrees found long c r
agrees_none found long c r none lacks = subst (λ (c : flow.Constant). Agrees found long c r) (sym none) lacks

-- an expression that is read in step, with the type that is found
abbrev FindsPart : Place → Reading → Resolving → Type 0
FindsPart p walk reading = (negated : Bool) (w : Walk) → (walk negated w).walk.findings ≡ [] → Follows p w (walk negated w).walk reading (λ names r. r.found ≡ (walk negated w).found)

module _ (typed : ExpressionsAreTyped) (p : Place) (sound : IsSound p) where
  abbrev pub IsKept : Expr → Type 0
  IsKept x = ReadsPart p (expr_walk p.env x) (expression_of p.scope x) (judged x)

  abbrev IsNoCall : CallForm → Type 0
  IsNoCall k = (c : Cursor) → IsNoConstant (call_of p.scope k c).it

  abbrev Call : Type 0
  Call = (c : CallForm) × IsNoCall c

  abbrev Part : Type 0
  Part = (x : Expr) × IsKept x

  abbrev Arg : Type 0
  Arg = Value × Unit {0}

  abbrev walks : Expr-F CallForm Expr Value → Expr-F Calling Reading Argument
  walks = map-Expr CallForm Expr Value Calling Reading Argument (call_walk p.env) (expr_walk p.env) (value_walk p.env)

  abbrev reads : Expr-F CallForm Expr Value → Expr-F resolving.Calling Resolving Resolving
  reads = map-Expr CallForm Expr Value resolving.Calling Resolving Resolving (call_of p.scope) (expression_of p.scope) (value_of p.scope)

  abbrev judges : Expr-F CallForm Expr Value → Expr-F Walking Judged Walking
  judges = map-Expr CallForm Expr Value Walking Judged Walking flow_walks.call_walk judged flow_walks.value_walk

  abbrev bare : Expr-F Call Part Arg → Expr-F CallForm Expr Value
  bare = map-Expr Call Part Arg CallForm Expr Value (λ c. c.0) (λ x. x.0) (λ v. v.0)

  abbrev walk_of : Part → Reading
  walk_of x = expr_walk p.env x.0

  abbrev read_of : Part → Resolving
  read_of x = expression_of p.scope x.0

  abbrev judged_of : Part → Judged
  judged_of x = judged x.0

  abbrev IsKeptLayer : Expr-F CallForm Expr Value → Type 0
  IsKeptLayer x = ReadsPart p (expr_step p.env (walks x)) (resolving.expr_step p.scope (reads x)) (flow_walks.expr_step (judges x))

  -- ---- what is no constant

  found_there : (x : Expr-F CallForm Expr Value) → FindsPart p (expr_step p.env (walks x)) (resolving.expr_step p.scope (reads x))
  found_there x =
      let Q : Reading → Type 0 = λ k. FindsPart p k (expression_of p.scope (roll-Expr x)) in
      let R : Resolving → Type 0 = λ s. FindsPart p (expr_step p.env (walks x)) s in
      let whole : FindsPart p (expr_walk p.env (roll-Expr x)) (expression_of p.scope (roll-Expr x)) = λ negated w quiet. fits_more p _ (λ (r : Resolved). Unit {0}) _ (λ names r is more. is.same) (λ c. tt) (typed.expressions p sound (roll-Expr x) negated w quiet) in
      subst R (fold-roll-Expr resolving.Calling Resolving Resolving (resolving.call_step p.scope) (resolving.expr_step p.scope) resolving.value_step x)
      (subst Q (fold-roll-Expr Calling Reading Argument (call_step p.env) (expr_step p.env) (value_step p.env) x) whole)

  other_kept : (x : Expr-F CallForm Expr Value) → constant_step (judges x) ≡ None → ((t : ExprType) (c : Cursor) → HasNoConstant (resolving.parts p.scope (reads x) t c).it) → IsKeptLayer x
  other_kept x none lacks negated w quiet =
      let t = expr_step p.env (walks x) negated w in
      let j = flow_walks.expr_step (judges x) in
      fits_more p (λ names r. r.found ≡ t.found) HasNoConstant (λ names. IsJudged t.found j) (λ names r same it. record { same = same; agrees = agrees_none t.found j.is_long j.constant r none it })
      (λ c. lacks (type_here c) (behind_type c)) (found_there x negated w quiet)

  -- ---- what may be

  abbrev IsKeptInside : Expr-F CallForm Expr Value → Type 0
  IsKeptInside x =
      (negated : Bool) (w : Walk) → (parts p.env (walks x) negated w).walk.findings ≡ []
      → Follows p w (parts p.env (walks x) negated w).walk (resolving.parts p.scope (reads x) (parts p.env (walks x) negated w).found) (λ names. IsJudged (parts p.env (walks x) negated w).found (flow_walks.expr_step (judges x)))

  typed_kept : (x : Expr-F CallForm Expr Value) → IsKeptInside x → IsKeptLayer x
  typed_kept x inside negated w quiet =
      let t = parts p.env (walks x) negated (opened w) in
      follows_typed p w t.found (resolving.parts p.scope (reads x)) (λ names. IsJudged t.found (flow_walks.expr_step (judges x)))
      (inside negated (opened w) (closed_quiet (length w.types) t.found t.walk quiet))

  layer_kept : (y : Expr-F Call Part Arg) → IsKeptLayer (bare y)
  layer_kept (e.Conditional test first second) =
      typed_kept (e.Conditional test.0 first.0 second.0) (λ negated. conditional_kept p (walk_of test) (walk_of first) (walk_of second) (read_of test) (read_of first) (read_of second)
      (judged_of test) (judged_of first) (judged_of second) test.1 first.1 second.1)
  layer_kept (e.Binary op left right) =
      typed_kept (e.Binary op left.0 right.0) (λ negated. binary_kept p op (walk_of left) (walk_of right) (read_of left) (read_of right) (judged_of left) (judged_of right) left.1 right.1)
  layer_kept (e.Unary op part) = typed_kept (e.Unary op part.0) (λ negated. unary_kept p op (walk_of part) (read_of part) (judged_of part) part.1)
  layer_kept (e.Cast to part) = typed_kept (e.Cast to part.0) (λ negated. cast_kept p to (walk_of part) (read_of part) (judged_of part) part.1)
  layer_kept (e.Number digits decimal long) = typed_kept (e.Number digits decimal long) (λ negated. number_kept p _ decimal long digits)
  layer_kept (e.Bool b) = typed_kept (e.Bool b) (λ negated. truth_kept p b)
  layer_kept (e.Paren inner) = typed_kept (e.Paren inner.0) (λ negated. paren_kept p (walk_of inner) (read_of inner) (judged_of inner) inner.1)
  layer_kept (e.New name size) = other_kept (e.New name size.0) refl (λ t c. record { same = new_vector_none _; minimum = refl })
  layer_kept (e.Name name) = other_kept (e.Name name) refl (λ t c. record { same = variable_none _; minimum = refl })
  layer_kept (e.Index name at) = other_kept (e.Index name at.0) refl (λ t c. record { same = gathered_none _; minimum = refl })
  layer_kept (e.Member object name) = other_kept (e.Member object name) refl (λ t c. record { same = gathered_length_none; minimum = refl })
  layer_kept (e.Call call) = other_kept (e.Call call.0) refl (λ t c. record { same = call.1 c; minimum = refl })

  -- ---- all

  expr_made : (x : Expr-F CallForm Expr Value) (y : Expr-F Call Part Arg) → bare y ≡ x → IsKept (roll-Expr x)
  expr_made x y is =
      let Q : Reading → Type 0 = λ k. ReadsPart p k (resolving.expr_step p.scope (reads x)) (flow_walks.expr_step (judges x)) in
      let R : Resolving → Type 0 = λ s. ReadsPart p (expr_walk p.env (roll-Expr x)) s (flow_walks.expr_step (judges x)) in
      let S : Judged → Type 0 = λ j. ReadsPart p (expr_walk p.env (roll-Expr x)) (expression_of p.scope (roll-Expr x)) j in
      subst S (sym (fold-roll-Expr Walking Judged Walking flow_walks.call_step flow_walks.expr_step flow_walks.value_step x))
      (subst R (sym (fold-roll-Expr resolving.Calling Resolving Resolving (resolving.call_step p.scope) (resolving.expr_step p.scope) resolving.value_step x))
      (subst Q (sym (fold-roll-Expr Calling Reading Argument (call_step p.env) (expr_step p.env) (value_step p.env) x)) (subst (λ (x : Expr-F CallForm Expr Value). IsKeptLayer x) is (layer_kept y))))

  call_made : (x : CallForm-F CallForm Expr Value) (y : CallForm-F Call Part Arg) → map-CallForm Call Part Arg CallForm Expr Value (λ c. c.0) (λ x. x.0) (λ v. v.0) y ≡ x → IsNoCall (roll-CallForm x)
  call_made x y is = rolled_none p.scope x

  value_made : (x : Value-F CallForm Expr Value) (y : Value-F Call Part Arg) → map-Value Call Part Arg CallForm Expr Value (λ c. c.0) (λ x. x.0) (λ v. v.0) y ≡ x → Unit {0}
  value_made x y is = tt

  pub expression_kept : (x : Expr) → IsKept x
  expression_kept = ind-Expr IsNoCall IsKept (λ (v : Value). Unit {0}) call_made expr_made value_made

pub constants_kept : ExpressionsAreTyped → ConstantsAreKept
constants_kept typed p sound x negated w quiet = expression_kept typed p sound x negated w quiet
