-- Where the walk of the rules on annotations has found nothing behind an expression, it had found nothing before it.
use Rattle.std.proofs.Common.{◌≡◌, ℕ, List, [], ◌∷◌, map, Option, None, sym, subst}
use Rattle.java_tree.specs.declared.tree.Expr.{Expr, roll-Expr}
use Rattle.java_tree.specs.declared.tree.Value.{Value, roll-Value}
use Rattle.java_tree.specs.declared.tree.CallForm.{CallForm, roll-CallForm}
use Rattle.java_tree.specs.declared.tree.CallForm.TheOpen.{CallForm-F, Expr-F, Value-F}
use Rattle.java_tree.specs.declared.tree.CallForm.TheOpen as e
use Rattle.java_tree.specs.declared.tree.CallForm.TheFolds.{fold-roll-CallForm, fold-roll-Expr, fold-roll-Value, ind-CallForm, ind-Expr, ind-Value, map-CallForm, map-Expr, map-Value}
use Rattle.annotations.specs.declared.position.Position.{Position}
use Rattle.annotations.specs.declared.position.Position.TheVariants.{Inside}
use Rattle.annotations.specs.declared.walk.Walk.{Walk}
use Rattle.annotations.specs.Expressions.{Argument, Calling, Reading, call_of, call_step, expr_of, expr_step, inside, parts, value_of, value_step}
use Rattle.annotations.specs.Walks.{named, past, unexpected}
use Rattle.typed_bodies.specs.Expressions.{all_marked}
use Rattle.typed_bodies.specs.Reading.{Place}
use Rattle.typed_bodies.proofs.Marking.{named_grows, noted_at_grows, past_grows, past_if_grows, unexpected_grows, unfit_grows}
use Rattle.typed_bodies.proofs.Marks.{arguments_grow, of_grows, own_grows, variable_grows}

module _ (p : Place) where
  abbrev Stays : (Walk → Walk) → Type 0
  Stays f = (u : Walk) → (f u).findings ≡ [] → u.findings ≡ []

  abbrev StaysRead : Reading → Type 0
  StaysRead r = (position : Position) (global : Option ℕ) → Stays (r.walk position global)

  abbrev StaysPassed : Argument → Type 0
  StaysPassed a = (position : Position) → Stays (a.walk position)

  abbrev StaysCalled : Calling → Type 0
  StaysCalled c = (position : Position) (global : Option ℕ) → Stays (c position global)

  abbrev Call : Type 0
  Call = (c : CallForm) × StaysCalled (call_of p.marks c)

  abbrev Part : Type 0
  Part = (x : Expr) × StaysRead (expr_of p.marks x)

  abbrev Arg : Type 0
  Arg = (v : Value) × StaysPassed (value_of p.marks v)

  abbrev marked : Expr-F CallForm Expr Value → Expr-F Calling Reading Argument
  marked = map-Expr CallForm Expr Value Calling Reading Argument (call_of p.marks) (expr_of p.marks) (value_of p.marks)

  abbrev bare : Expr-F Call Part Arg → Expr-F CallForm Expr Value
  bare = map-Expr Call Part Arg CallForm Expr Value (λ c. c.0) (λ x. x.0) (λ v. v.0)

  of_inside : (x : Part) → Stays (inside (expr_of p.marks x.0))
  of_inside x = x.1 Inside None

  of_past : (n : ℕ) → Stays (past p.marks n)
  of_past n u quiet = past_grows p.marks n u quiet

  of_named : Stays (named p.marks)
  of_named u quiet = named_grows p.marks u quiet

  parts_stay : (y : Expr-F Call Part Arg) → Stays (parts p.marks (marked (bare y)))
  parts_stay (e.Conditional test first second) u quiet = of_inside test u (of_past 1 _ (of_inside first _ (of_past 1 _ (of_inside second _ quiet))))
  parts_stay (e.Binary op left right) u quiet = of_inside left u (of_past 1 _ (of_inside right _ quiet))
  parts_stay (e.Unary op part) u quiet = of_past 1 u (of_inside part _ quiet)
  parts_stay (e.Cast to part) u quiet = of_past 3 u (of_inside part _ quiet)
  parts_stay (e.Number digits decimal long) u quiet = of_past 1 u quiet
  parts_stay (e.Bool b) u quiet = of_past 1 u quiet
  parts_stay (e.Paren inner) u quiet = of_past 1 u (of_inside inner _ (of_past 1 _ quiet))
  parts_stay (e.New name size) u quiet = of_past 3 u (of_inside size _ (of_past 1 _ quiet))
  parts_stay (e.Name name) u quiet = quiet
  parts_stay (e.Index name at) u quiet = of_named u (of_past 1 _ (of_inside at _ (of_past 1 _ quiet)))
  parts_stay (e.Member object name) u quiet = of_named u (of_past 2 _ quiet)
  parts_stay (e.Call call) u quiet = quiet

  by_parts : (y : Expr-F Call Part Arg) (position : Position) (global : Option ℕ) → Stays (λ u. parts p.marks (marked (bare y)) (unexpected position global u))
  by_parts y position global u quiet = unexpected_grows position global u (parts_stay y _ quiet)

  expr_layer : (y : Expr-F Call Part Arg) → StaysRead (expr_step p.marks (marked (bare y)))
  expr_layer (e.Conditional test first second) = by_parts (e.Conditional test first second)
  expr_layer (e.Binary op left right) = by_parts (e.Binary op left right)
  expr_layer (e.Unary op part) = by_parts (e.Unary op part)
  expr_layer (e.Cast to part) = by_parts (e.Cast to part)
  expr_layer (e.Number digits decimal long) = by_parts (e.Number digits decimal long)
  expr_layer (e.Bool b) = by_parts (e.Bool b)
  expr_layer (e.Paren inner) = by_parts (e.Paren inner)
  expr_layer (e.New name size) = by_parts (e.New name size)
  expr_layer (e.Name name) = λ position global u quiet. variable_grows p position global u quiet
  expr_layer (e.Index name at) = by_parts (e.Index name at)
  expr_layer (e.Member object name) = by_parts (e.Member object name)
  expr_layer (e.Call call) = λ position global u quiet. unfit_grows position u (call.1 position global _ quiet)

  expr_made : (x : Expr-F CallForm Expr Value) (y : Expr-F Call Part Arg) → bare y ≡ x → StaysRead (expr_of p.marks (roll-Expr x))
  expr_made x y is =
      subst StaysRead (sym (fold-roll-Expr Calling Reading Argument (call_step p.marks) (expr_step p.marks) (value_step p.marks) x))
      (subst (λ (x : Expr-F CallForm Expr Value). StaysRead (expr_step p.marks (marked x))) is (expr_layer y))

  -- ---- values

  abbrev marked_value : Value-F CallForm Expr Value → Value-F Calling Reading Argument
  marked_value = map-Value CallForm Expr Value Calling Reading Argument (call_of p.marks) (expr_of p.marks) (value_of p.marks)

  abbrev bare_value : Value-F Call Part Arg → Value-F CallForm Expr Value
  bare_value = map-Value Call Part Arg CallForm Expr Value (λ c. c.0) (λ x. x.0) (λ v. v.0)

  value_layer : (y : Value-F Call Part Arg) → StaysPassed (value_step p.marks (marked_value (bare_value y)))
  value_layer y position u quiet = past_if_grows p.marks y.is_global 2 u (y.expr.1 position _ _ quiet)

  value_made : (x : Value-F CallForm Expr Value) (y : Value-F Call Part Arg) → bare_value y ≡ x → StaysPassed (value_of p.marks (roll-Value x))
  value_made x y is =
      subst StaysPassed (sym (fold-roll-Value Calling Reading Argument (call_step p.marks) (expr_step p.marks) (value_step p.marks) x))
      (subst (λ (x : Value-F CallForm Expr Value). StaysPassed (value_step p.marks (marked_value x))) is (value_layer y))

  -- ---- calls

  abbrev args_of : List Arg → List Argument
  args_of args = map (value_of p.marks) (map (λ (v : Arg). v.0) args)

  args_stay : (args : List Arg) (position : Position) → Stays (all_marked p.marks position (args_of args))
  args_stay [] position u quiet = quiet
  args_stay (v ∷ args) position u quiet = of_past 1 u (v.1 position _ (args_stay args position _ quiet))

  abbrev marked_call : CallForm-F CallForm Expr Value → CallForm-F Calling Reading Argument
  marked_call = map-CallForm CallForm Expr Value Calling Reading Argument (call_of p.marks) (expr_of p.marks) (value_of p.marks)

  abbrev bare_call : CallForm-F Call Part Arg → CallForm-F CallForm Expr Value
  bare_call = map-CallForm Call Part Arg CallForm Expr Value (λ c. c.0) (λ x. x.0) (λ v. v.0)

  call_layer : (y : CallForm-F Call Part Arg) → StaysCalled (call_step p.marks (marked_call (bare_call y)))
  call_layer (e.Own name args) position global u quiet = own_grows p (args_of args) (args_stay args) position global u quiet
  call_layer (e.Of object name args) position global u quiet = of_grows p (args_of args) (args_stay args) object name position global u quiet
  call_layer (e.OfMember object at name args) position global u quiet =
      noted_at_grows global 10 u (of_named _ (of_past 1 _ (of_inside at _ (of_past 3 _ (arguments_grow p (args_of args) (args_stay args) Inside _ quiet)))))

  call_made : (x : CallForm-F CallForm Expr Value) (y : CallForm-F Call Part Arg) → bare_call y ≡ x → StaysCalled (call_of p.marks (roll-CallForm x))
  call_made x y is =
      subst StaysCalled (sym (fold-roll-CallForm Calling Reading Argument (call_step p.marks) (expr_step p.marks) (value_step p.marks) x))
      (subst (λ (x : CallForm-F CallForm Expr Value). StaysCalled (call_step p.marks (marked_call x))) is (call_layer y))

  abbrev OfCall : CallForm → Type 0
  OfCall c = StaysCalled (call_of p.marks c)

  abbrev OfExpr : Expr → Type 0
  OfExpr x = StaysRead (expr_of p.marks x)

  abbrev OfValue : Value → Type 0
  OfValue v = StaysPassed (value_of p.marks v)

  pub expression_stays : (x : Expr) → OfExpr x
  expression_stays = ind-Expr OfCall OfExpr OfValue call_made expr_made value_made

  pub value_stays : (v : Value) → OfValue v
  value_stays = ind-Value OfCall OfExpr OfValue call_made expr_made value_made

  pub call_stays : (c : CallForm) → OfCall c
  call_stays = ind-CallForm OfCall OfExpr OfValue call_made expr_made value_made
