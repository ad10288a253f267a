-- What the walk of the rules on annotations keeps over its steps it keeps over expressions, values and calls.
use Rattle.std.proofs.Common.{◌≡◌, ℕ, List, [], ◌∷◌, length, map, fold, nat_eq, Option, None, sym, subst}
use Rattle.java_tree.specs.declared.tree.Expr.{Expr, roll-Expr}
use Rattle.java_tree.specs.declared.tree.Value.{Value, roll-Value}
use Rattle.java_tree.specs.declared.tree.CallForm.{CallForm, roll-CallForm}
use Rattle.java_tree.specs.declared.tree.CallForm.TheOpen.{CallForm-F, Expr-F, Value-F}
use Rattle.java_tree.specs.declared.tree.CallForm.TheOpen as e
use Rattle.java_tree.specs.declared.tree.CallForm.TheFolds.{fold-roll-CallForm, fold-roll-Expr, fold-roll-Value, ind-CallForm, ind-Expr, ind-Value, map-CallForm, map-Expr, map-Value}
use Rattle.annotations.specs.declared.position.Position.{Position}
use Rattle.annotations.specs.declared.position.Position.TheVariants.{Inside}
use Rattle.annotations.specs.declared.walk.Env.{Env}
use Rattle.annotations.specs.declared.walk.Walk.{Walk}
use Rattle.annotations.specs.Walks.{past, token_if, coming}
use Rattle.annotations.specs.Expressions.{Argument, Reading, Calling, arguments, first_key, call_step, expr_step, value_step, walk_step, expr_of, value_of, call_of}
use Rattle.typed_statements.proofs.Keeping.{Keeps, kept, keeps_on, keeps_past, keeps_past_if, keeps_noted_at, keeps_named, keeps_unfit, keeps_unexpected, keeps_variable, keeps_head, keeps_own_head}

module _ (env : Env) where
  -- ---- what keeps this over a part of an expression, and over its arguments

  abbrev Part : Reading → Type 0
  Part r = (position : Position) (global : Option ℕ) (u : Walk) → Keeps u (r.walk position global u)

  abbrev Arg : Argument → Type 0
  Arg a = (position : Position) (u : Walk) → Keeps u (a.walk position u)

  abbrev Call : Calling → Type 0
  Call r = (position : Position) (global : Option ℕ) (u : Walk) → Keeps u (r position global u)

  abbrev CallKeeps : CallForm → Type 0
  CallKeeps x = Call (call_of env x)

  abbrev PartKeeps : Expr → Type 0
  PartKeeps x = Part (expr_of env x)

  abbrev ArgKeeps : Value → Type 0
  ArgKeeps x = Arg (value_of env x)

  abbrev TheCall : Type 0
  TheCall = (x : CallForm) × CallKeeps x

  abbrev ThePart : Type 0
  ThePart = (x : Expr) × PartKeeps x

  abbrev TheArg : Type 0
  TheArg = (x : Value) × ArgKeeps x

  -- ---- arguments

  keeps_arguments_of : (position : Position) (args : List TheArg) (u : Walk)
      → Keeps u (fold (λ u a. a.walk position (past env 1 u)) u (map (value_of env) (map (λ (v : TheArg). v.0) args)))
  keeps_arguments_of position [] u = kept u
  keeps_arguments_of position (v ∷ args) u = keeps_on (keeps_past env 1 u) (keeps_on (v.1 position _) (keeps_arguments_of position args _))

  keeps_arguments : (position : Position) (args : List TheArg) (u : Walk) → Keeps u (arguments env position (map (value_of env) (map (λ (v : TheArg). v.0) args)) u)
  keeps_arguments position args u =
      let ms = map (value_of env) (map (λ (v : TheArg). v.0) args) in
      keeps_on (keeps_arguments_of position args u) (keeps_on (keeps_past_if env (nat_eq (length ms) 0) 1 _) (keeps_past env 1 _))

  -- ---- expressions

  abbrev bare : Expr-F TheCall ThePart TheArg → Expr-F CallForm Expr Value
  bare = map-Expr TheCall ThePart TheArg CallForm Expr Value (λ c. c.0) (λ x. x.0) (λ v. v.0)

  abbrev walking : Expr-F CallForm Expr Value → Expr-F Calling Reading Argument
  walking = map-Expr CallForm Expr Value Calling Reading Argument (call_of env) (expr_of env) (value_of env)

  keeps_layer : (y : Expr-F TheCall ThePart TheArg) (position : Position) (global : Option ℕ) (u : Walk) → Keeps u (walk_step env (walking (bare y)) position global u)
  keeps_layer (e.Name name) position global u = keeps_variable env position global u
  keeps_layer (e.Call call) position global u = keeps_on (keeps_unfit env position u) (call.1 position global _)
  keeps_layer (e.Conditional test first second) position global u =
      keeps_on (keeps_unexpected env position global u) (keeps_on (test.1 Inside None _) (keeps_on (keeps_past env 1 _)
      (keeps_on (first.1 Inside None _) (keeps_on (keeps_past env 1 _) (second.1 Inside None _)))))
  keeps_layer (e.Binary op left right) position global u =
      keeps_on (keeps_unexpected env position global u) (keeps_on (left.1 Inside None _) (keeps_on (keeps_past env 1 _) (right.1 Inside None _)))
  keeps_layer (e.Unary op part) position global u = keeps_on (keeps_unexpected env position global u) (keeps_on (keeps_past env 1 _) (part.1 Inside None _))
  keeps_layer (e.Cast to part) position global u = keeps_on (keeps_unexpected env position global u) (keeps_on (keeps_past env 3 _) (part.1 Inside None _))
  keeps_layer (e.Number digits decimal long) position global u = keeps_on (keeps_unexpected env position global u) (keeps_past env 1 _)
  keeps_layer (e.Bool b) position global u = keeps_on (keeps_unexpected env position global u) (keeps_past env 1 _)
  keeps_layer (e.Paren inner) position global u =
      keeps_on (keeps_unexpected env position global u) (keeps_on (keeps_past env 1 _) (keeps_on (inner.1 Inside None _) (keeps_past env 1 _)))
  keeps_layer (e.New name size) position global u =
      keeps_on (keeps_unexpected env position global u) (keeps_on (keeps_past env 3 _) (keeps_on (size.1 Inside None _) (keeps_past env 1 _)))
  keeps_layer (e.Index name at) position global u =
      keeps_on (keeps_unexpected env position global u) (keeps_on (keeps_named env _) (keeps_on (keeps_past env 1 _) (keeps_on (at.1 Inside None _) (keeps_past env 1 _))))
  keeps_layer (e.Member object name) position global u = keeps_on (keeps_unexpected env position global u) (keeps_on (keeps_named env _) (keeps_past env 2 _))

  expr_made : (x : Expr-F CallForm Expr Value) (y : Expr-F TheCall ThePart TheArg) → bare y ≡ x → PartKeeps (roll-Expr x)
  expr_made x y is =
      subst Part (sym (fold-roll-Expr Calling Reading Argument (call_step env) (expr_step env) (value_step env) x))
      (subst (λ x. Part (expr_step env (walking x))) is (keeps_layer y))

  -- ---- values

  abbrev bare_value : Value-F TheCall ThePart TheArg → Value-F CallForm Expr Value
  bare_value = map-Value TheCall ThePart TheArg CallForm Expr Value (λ c. c.0) (λ x. x.0) (λ v. v.0)

  abbrev walking_value : Value-F CallForm Expr Value → Value-F Calling Reading Argument
  walking_value = map-Value CallForm Expr Value Calling Reading Argument (call_of env) (expr_of env) (value_of env)

  value_made : (x : Value-F CallForm Expr Value) (y : Value-F TheCall ThePart TheArg) → bare_value y ≡ x → ArgKeeps (roll-Value x)
  value_made x y is =
      subst Arg (sym (fold-roll-Value Calling Reading Argument (call_step env) (expr_step env) (value_step env) x))
      (subst (λ x. Arg (value_step env (walking_value x))) is (λ position u. keeps_on (keeps_past_if env y.is_global 2 u) (y.expr.1 position (token_if y.is_global u.at) _)))

  -- ---- calls

  abbrev bare_call : CallForm-F TheCall ThePart TheArg → CallForm-F CallForm Expr Value
  bare_call = map-CallForm TheCall ThePart TheArg CallForm Expr Value (λ c. c.0) (λ x. x.0) (λ v. v.0)

  abbrev walking_call : CallForm-F CallForm Expr Value → CallForm-F Calling Reading Argument
  walking_call = map-CallForm CallForm Expr Value Calling Reading Argument (call_of env) (expr_of env) (value_of env)

  call_layer : (y : CallForm-F TheCall ThePart TheArg) → Call (call_step env (walking_call (bare_call y)))
  call_layer (e.Own name args) position global u =
      let ms = map (value_of env) (map (λ (v : TheArg). v.0) args) in
      keeps_on (keeps_noted_at env global 10 u) (keeps_on (keeps_own_head env (length ms) _) (keeps_arguments _ args _))
  call_layer (e.Of object name args) position global u =
      let ms = map (value_of env) (map (λ (v : TheArg). v.0) args) in
      keeps_on (keeps_head env position global name (first_key ms) (coming env u) u) (keeps_arguments Inside args _)
  call_layer (e.OfMember object at name args) position global u =
      keeps_on (keeps_noted_at env global 10 u) (keeps_on (keeps_named env _) (keeps_on (keeps_past env 1 _)
      (keeps_on (at.1 Inside None _) (keeps_on (keeps_past env 3 _) (keeps_arguments Inside args _)))))

  call_made : (x : CallForm-F CallForm Expr Value) (y : CallForm-F TheCall ThePart TheArg) → bare_call y ≡ x → CallKeeps (roll-CallForm x)
  call_made x y is =
      subst Call (sym (fold-roll-CallForm Calling Reading Argument (call_step env) (expr_step env) (value_step env) x))
      (subst (λ x. Call (call_step env (walking_call x))) is (call_layer y))

  pub expression_keeps : (x : Expr) → PartKeeps x
  expression_keeps = ind-Expr CallKeeps PartKeeps ArgKeeps call_made expr_made value_made

  pub value_keeps : (x : Value) → ArgKeeps x
  value_keeps = ind-Value CallKeeps PartKeeps ArgKeeps call_made expr_made value_made

  pub call_keeps : (x : CallForm) → CallKeeps x
  call_keeps = ind-CallForm CallKeeps PartKeeps ArgKeeps call_made expr_made value_made
