-- Each expression, value and call goes: the walk adds the calls of the methods that are read of it.
use Rattle.std.proofs.Common.{◌≡◌, ℕ, Bool, false, List, map, sym, subst}
use Rattle.java_tree.specs.declared.tree.Expr.{Expr, roll-Expr}
use Rattle.java_tree.specs.declared.tree.Value.{Value, roll-Value}
use Rattle.java_tree.specs.declared.tree.CallForm.{CallForm, roll-CallForm}
use Rattle.java_tree.specs.declared.tree.CallForm.TheOpen.{CallForm-F, Expr-F, Value-F}
use Rattle.java_tree.specs.declared.tree.CallForm.TheOpen as e
use Rattle.java_tree.specs.declared.tree.CallForm.TheFolds.{fold-roll-CallForm, fold-roll-Expr, fold-roll-Value, ind-CallForm, ind-Expr, ind-Value, map-CallForm, map-Expr, map-Value}
use Rattle.java_types.specs.declared.walk.Env.{Env}
use Rattle.java_types.specs.declared.walk.Walk.{Walk}
use Rattle.java_types.specs.Walks.{opened}
use Rattle.java_types.specs.Expressions.{Reading, Argument, Calling, parts, expr_step, value_step, call_step, expr_walk, value_walk, call_walk}
use Rattle.java_types.proofs.Lists.{map_map}
use Rattle.access_blocks.specs.declared.scope.Scope.{Scope}
use Rattle.access_blocks.specs.Resolving.{Resolving, expression_of, value_of, call_of}
use Rattle.access_blocks.specs.Resolving as resolving
use Rattle.accepted_classes.proofs.Steps.{before, past_if_still}
use Rattle.accepted_classes.proofs.Expressions.{ReadsPart, ReadsArgument, ReadsCall, Typed, conditional_goes, binary_goes, unary_goes, cast_goes, paren_goes, new_goes, number_goes, truth_goes, name_goes, length_goes, index_goes, call_goes, typed_goes}
use Rattle.accepted_classes.proofs.OwnCalls.{own_goes}
use Rattle.accepted_classes.proofs.ObjectCalls.{of_goes, of_member_goes}

module _ (P : ℕ → Type 0) (env : Env) (scope : Scope) where
  abbrev pub GoesExpression : Expr → Type 0
  GoesExpression x = ReadsPart P env (expr_walk env x) (expression_of scope x)

  abbrev pub GoesValue : Value → Type 0
  GoesValue v = ReadsArgument P env (value_walk env v) (value_of scope v)

  abbrev pub GoesCall : CallForm → Type 0
  GoesCall c = ReadsCall P env (call_walk env c) (call_of scope c)

  abbrev Call : Type 0
  Call = (c : CallForm) × GoesCall c

  abbrev Part : Type 0
  Part = (x : Expr) × GoesExpression x

  abbrev Arg : Type 0
  Arg = (v : Value) × GoesValue v

  abbrev walks : Expr-F CallForm Expr Value → Expr-F Calling Reading Argument
  walks = map-Expr CallForm Expr Value Calling Reading Argument (call_walk env) (expr_walk env) (value_walk env)

  abbrev reads : Expr-F CallForm Expr Value → Expr-F resolving.Calling Resolving Resolving
  reads = map-Expr CallForm Expr Value resolving.Calling Resolving Resolving (call_of scope) (expression_of scope) (value_of scope)

  abbrev bare : Expr-F Call Part Arg → Expr-F CallForm Expr Value
  bare = map-Expr Call Part Arg CallForm Expr Value (λ c. c.0) (λ x. x.0) (λ v. v.0)

  abbrev walk_of : Part → Reading
  walk_of x = expr_walk env x.0

  abbrev read_of : Part → Resolving
  read_of x = expression_of scope x.0

  expr_layer : (y : Expr-F Call Part Arg) (negated : Bool) (w : Walk) → Typed P env w (parts env (walks (bare y)) negated w).walk (resolving.parts scope (reads (bare y)))
  expr_layer (e.Conditional test first second) negated w =
      conditional_goes P env (walk_of test) (walk_of first) (walk_of second) (read_of test) (read_of first) (read_of second) test.1 first.1 second.1 w
  expr_layer (e.Binary op left right) negated w = binary_goes P env op (walk_of left) (walk_of right) (read_of left) (read_of right) left.1 right.1 w
  expr_layer (e.Unary op part) negated w = unary_goes P env op (walk_of part) (read_of part) part.1 w
  expr_layer (e.Cast to part) negated w = cast_goes P env to (walk_of part) (read_of part) part.1 w
  expr_layer (e.Number digits decimal long) negated w = number_goes P env _ decimal long digits w
  expr_layer (e.Bool b) negated w = truth_goes P env b w
  expr_layer (e.Paren inner) negated w = paren_goes P env (walk_of inner) (read_of inner) inner.1 w
  expr_layer (e.New name size) negated w = new_goes P env name (walk_of size) (read_of size) size.1 w
  expr_layer (e.Name name) negated w = name_goes P env name w
  expr_layer (e.Index name at) negated w = index_goes P env name (walk_of at) (read_of at) at.1 w
  expr_layer (e.Member object name) negated w = length_goes P env object name w
  expr_layer (e.Call call) negated w = call_goes P env (call_walk env call.0) (call_of scope call.0) call.1 w

  typed_layer : (y : Expr-F Call Part Arg) → ReadsPart P env (expr_step env (walks (bare y))) (resolving.expr_step scope (reads (bare y)))
  typed_layer y negated w =
      typed_goes P env w (parts env (walks (bare y)) negated (opened w)) (resolving.parts scope (reads (bare y))) (expr_layer y negated (opened w))

  expr_made : (x : Expr-F CallForm Expr Value) (y : Expr-F Call Part Arg) → bare y ≡ x → GoesExpression (roll-Expr x)
  expr_made x y is =
      let Q : Expr-F CallForm Expr Value → Type 0 = λ x. ReadsPart P env (expr_step env (walks x)) (resolving.expr_step scope (reads x)) in
      let R : Reading → Type 0 = λ r. ReadsPart P env r (resolving.expr_step scope (reads x)) in
      let S : Resolving → Type 0 = λ s. ReadsPart P env (expr_walk env (roll-Expr x)) s in
      subst S (sym (fold-roll-Expr resolving.Calling Resolving Resolving (resolving.call_step scope) (resolving.expr_step scope) resolving.value_step x))
      (subst R (sym (fold-roll-Expr Calling Reading Argument (call_step env) (expr_step env) (value_step env) x)) (subst Q is (typed_layer y)))

  -- ---- values

  abbrev walks_value : Value-F CallForm Expr Value → Value-F Calling Reading Argument
  walks_value = map-Value CallForm Expr Value Calling Reading Argument (call_walk env) (expr_walk env) (value_walk env)

  abbrev reads_value : Value-F CallForm Expr Value → Value-F resolving.Calling Resolving Resolving
  reads_value = map-Value CallForm Expr Value resolving.Calling Resolving Resolving (call_of scope) (expression_of scope) (value_of scope)

  abbrev bare_value : Value-F Call Part Arg → Value-F CallForm Expr Value
  bare_value = map-Value Call Part Arg CallForm Expr Value (λ c. c.0) (λ x. x.0) (λ v. v.0)

  value_layer : (y : Value-F Call Part Arg) → ReadsArgument P env (value_step env (walks_value (bare_value y))) (resolving.value_step (reads_value (bare_value y)))
  value_layer y w = before P (past_if_still env y.is_global 2 w) (y.expr.1 false _)

  value_made : (x : Value-F CallForm Expr Value) (y : Value-F Call Part Arg) → bare_value y ≡ x → GoesValue (roll-Value x)
  value_made x y is =
      let Q : Value-F CallForm Expr Value → Type 0 = λ x. ReadsArgument P env (value_step env (walks_value x)) (resolving.value_step (reads_value x)) in
      let R : Argument → Type 0 = λ r. ReadsArgument P env r (resolving.value_step (reads_value x)) in
      let S : Resolving → Type 0 = λ s. ReadsArgument P env (value_walk env (roll-Value x)) s in
      subst S (sym (fold-roll-Value resolving.Calling Resolving Resolving (resolving.call_step scope) (resolving.expr_step scope) resolving.value_step x))
      (subst R (sym (fold-roll-Value Calling Reading Argument (call_step env) (expr_step env) (value_step env) x)) (subst Q is (value_layer y)))

  -- ---- calls

  abbrev walks_call : CallForm-F CallForm Expr Value → CallForm-F Calling Reading Argument
  walks_call = map-CallForm CallForm Expr Value Calling Reading Argument (call_walk env) (expr_walk env) (value_walk env)

  abbrev reads_call : CallForm-F CallForm Expr Value → CallForm-F resolving.Calling Resolving Resolving
  reads_call = map-CallForm CallForm Expr Value resolving.Calling Resolving Resolving (call_of scope) (expression_of scope) (value_of scope)

  abbrev bare_call : CallForm-F Call Part Arg → CallForm-F CallForm Expr Value
  bare_call = map-CallForm Call Part Arg CallForm Expr Value (λ c. c.0) (λ x. x.0) (λ v. v.0)

  abbrev pass : Arg → Argument
  pass v = value_walk env v.0

  abbrev read_arg : Arg → Resolving
  read_arg v = value_of scope v.0

  both : (Q : List Argument → List Resolving → Type 0) (args : List Arg) → Q (map pass args) (map read_arg args)
      → Q (map (value_walk env) (map (λ v. v.0) args)) (map (value_of scope) (map (λ v. v.0) args))
  both Q args made =
      let R : List Argument → Type 0 = λ walks. Q walks (map (value_of scope) (map (λ (v : Arg). v.0) args)) in
      subst R (sym (map_map (value_walk env) (λ (v : Arg). v.0) args)) (subst (Q (map pass args)) (sym (map_map (value_of scope) (λ (v : Arg). v.0) args)) made)

  abbrev Layer : CallForm-F Calling Reading Argument → CallForm-F resolving.Calling Resolving Resolving → Type 0
  Layer walks reads = ReadsCall P env (call_step env walks) (resolving.call_step scope reads)

  call_layer : (y : CallForm-F Call Part Arg) → Layer (walks_call (bare_call y)) (reads_call (bare_call y))
  call_layer (e.Own name args) =
      both (λ walks reads. Layer (e.Own name walks) (e.Own name reads)) args (own_goes P env scope pass read_arg (λ v. v.1) name args)
  call_layer (e.Of object name args) =
      both (λ walks reads. Layer (e.Of object name walks) (e.Of object name reads)) args (of_goes P env scope pass read_arg (λ v. v.1) object name args)
  call_layer (e.OfMember object at name args) =
      both (λ walks reads. Layer (e.OfMember object (walk_of at) name walks) (e.OfMember object (read_of at) name reads)) args
      (of_member_goes P env scope pass read_arg (λ v. v.1) object (walk_of at) (read_of at) at.1 name args)

  call_made : (x : CallForm-F CallForm Expr Value) (y : CallForm-F Call Part Arg) → bare_call y ≡ x → GoesCall (roll-CallForm x)
  call_made x y is =
      let Q : CallForm-F CallForm Expr Value → Type 0 = λ x. Layer (walks_call x) (reads_call x) in
      let R : Calling → Type 0 = λ k. ReadsCall P env k (resolving.call_step scope (reads_call x)) in
      let S : resolving.Calling → Type 0 = λ s. ReadsCall P env (call_walk env (roll-CallForm x)) s in
      subst S (sym (fold-roll-CallForm resolving.Calling Resolving Resolving (resolving.call_step scope) (resolving.expr_step scope) resolving.value_step x))
      (subst R (sym (fold-roll-CallForm Calling Reading Argument (call_step env) (expr_step env) (value_step env) x)) (subst Q is (call_layer y)))

  pub expression_goes : (x : Expr) → GoesExpression x
  expression_goes = ind-Expr GoesCall GoesExpression GoesValue call_made expr_made value_made

  pub value_goes : (v : Value) → GoesValue v
  value_goes = ind-Value GoesCall GoesExpression GoesValue call_made expr_made value_made

  pub call_goes_all : (c : CallForm) → GoesCall c
  call_goes_all = ind-CallForm GoesCall GoesExpression GoesValue call_made expr_made value_made
