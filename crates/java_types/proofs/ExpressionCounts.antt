-- The walk passes as many tokens as an expression, a value and a call have.
use Rattle.std.proofs.Common.{◌≡◌, ◌≤◌, Bool, true, false, List, length, map, sym, subst, arith}
use Rattle.std.proofs.lemmas.List.{length-append}
use Rattle.java_tree.specs.declared.tree.Expr.{Expr, roll-Expr}
use Rattle.java_tree.specs.declared.tree.Value.{Value, roll-Value}
use Rattle.java_tree.specs.declared.tree.CallForm.{CallForm, roll-CallForm}
use Rattle.java_tree.specs.declared.tree.CallForm.TheOpen.{CallForm-F, Expr-F, Value-F}
use Rattle.java_tree.specs.declared.tree.CallForm.TheOpen as e
use Rattle.java_tree.specs.declared.tree.CallForm.TheFolds.{fold-roll-CallForm, fold-roll-Expr, fold-roll-Value, ind-CallForm, ind-Expr, ind-Value, map-CallForm, map-Expr, map-Value}
use Rattle.java_tree.specs.Tokens.{Kinds, global, separated, expr_tokens, value_tokens, call_tokens}
use Rattle.java_tree.specs.Tokens as tokens
use Rattle.java_types.specs.declared.walk.Env.{Env}
use Rattle.java_types.specs.declared.walk.Walk.{Walk}
use Rattle.java_types.specs.Expressions.{Reading, Argument, Calling, parts, expr_step, value_step, call_step, expr_walk, value_walk, call_walk}
use Rattle.java_types.proofs.Lists.{map_map}
use Rattle.java_types.proofs.Counting.{Passed, none, within, over, over_if, further, counted, named_passes}
use Rattle.java_types.proofs.ExpressionSteps.{number_passes, member_passes, Reads, ReadsArgument, ReadsCall, global_length, number_type_length, item_passes, own_call_passes, of_call_passes, of_member_call_passes, conditional_passes, binary_passes, behind_operator_passes, behind_type_passes, in_parentheses_passes, made_of_passes, called_value_passes, layer_passes}

module _ (env : Env) where
  abbrev pub Counts : Expr → Type 0
  Counts x = Reads env (expr_walk env x) (expr_tokens x)

  abbrev pub CountsValue : Value → Type 0
  CountsValue v = ReadsArgument env (value_walk env v) (value_tokens v)

  abbrev pub CountsCall : CallForm → Type 0
  CountsCall c = ReadsCall env (call_walk env c) (call_tokens c)

  abbrev Call : Type 0
  Call = (c : CallForm) × CountsCall c

  abbrev Part : Type 0
  Part = (x : Expr) × Counts x

  abbrev Arg : Type 0
  Arg = (v : Value) × CountsValue v

  abbrev walks : Expr-F CallForm Expr Value → Expr-F Calling Reading Argument
  walks = map-Expr CallForm Expr Value Calling Reading Argument (call_walk env) (expr_walk env) (value_walk env)

  abbrev kinds : Expr-F CallForm Expr Value → Expr-F Kinds Kinds Kinds
  kinds = map-Expr CallForm Expr Value Kinds Kinds Kinds call_tokens expr_tokens value_tokens

  abbrev bare : Expr-F Call Part Arg → Expr-F CallForm Expr Value
  bare = map-Expr Call Part Arg CallForm Expr Value (λ c. c.0) (λ x. x.0) (λ v. v.0)

  abbrev read : Part → Reading
  read x = expr_walk env x.0

  abbrev spelled : Part → Kinds
  spelled x = expr_tokens x.0

  expr_layer : (y : Expr-F Call Part Arg) → (negated : Bool) (w : Walk) → w.at ≤ env.limit
      → Passed env (length (tokens.expr_step (kinds (bare y)))) w (parts env (walks (bare y)) negated w).walk
  expr_layer (e.Conditional test first second) negated w h =
      counted (conditional_passes (read test) (read first) (read second) (spelled test) (spelled first) (spelled second) test.1 first.1 second.1 w h)
      (simp length-append (omega arith))
  expr_layer (e.Binary op left right) negated w h =
      counted (binary_passes op (read left) (read right) (spelled left) (spelled right) left.1 right.1 w h) (simp length-append (omega arith))
  expr_layer (e.Unary op part) negated w h = behind_operator_passes op (read part) (spelled part) part.1 w h
  expr_layer (e.Cast to part) negated w h =
      let one = number_type_length to in
      counted (behind_type_passes to (read part) (spelled part) part.1 w h) (simp length-append (omega arith))
  expr_layer (e.Number digits decimal long) negated w h = number_passes _ long (none w h)
  expr_layer (e.Bool true) negated w h = over 1 (none w h)
  expr_layer (e.Bool false) negated w h = over 1 (none w h)
  expr_layer (e.Paren inner) negated w h = counted (in_parentheses_passes (read inner) (spelled inner) inner.1 w h) (simp length-append (omega arith))
  expr_layer (e.New name size) negated w h = counted (made_of_passes name (read size) (spelled size) size.1 w h) (simp length-append (omega arith))
  expr_layer (e.Name name) negated w h = named_passes name (none w h)
  expr_layer (e.Index name at) negated w h = counted (item_passes name (read at) (spelled at) at.1 (none w h)) (simp length-append (omega arith))
  expr_layer (e.Member object name) negated w h = member_passes object name (none w h)
  expr_layer (e.Call call) negated w h = called_value_passes (call_walk env call.0) (call_tokens call.0) call.1 w h

  expr_made : (x : Expr-F CallForm Expr Value) (y : Expr-F Call Part Arg) → bare y ≡ x → Counts (roll-Expr x)
  expr_made x y is =
      let P : Expr-F CallForm Expr Value → Type 0 = λ x. Reads env (expr_step env (walks x)) (tokens.expr_step (kinds x)) in
      let made : P x = subst P is (layer_passes (walks (bare y)) (tokens.expr_step (kinds (bare y))) (expr_layer y)) in
      let Q : Reading → Type 0 = λ r. Reads env r (tokens.expr_step (kinds x)) in
      let R : Kinds → Type 0 = λ ks. Reads env (expr_walk env (roll-Expr x)) ks in
      subst R (sym (fold-roll-Expr Kinds Kinds Kinds tokens.call_step tokens.expr_step tokens.value_step x))
      (subst Q (sym (fold-roll-Expr Calling Reading Argument (call_step env) (expr_step env) (value_step env) x)) made)

  abbrev walks_value : Value-F CallForm Expr Value → Value-F Calling Reading Argument
  walks_value = map-Value CallForm Expr Value Calling Reading Argument (call_walk env) (expr_walk env) (value_walk env)

  abbrev kinds_value : Value-F CallForm Expr Value → Value-F Kinds Kinds Kinds
  kinds_value = map-Value CallForm Expr Value Kinds Kinds Kinds call_tokens expr_tokens value_tokens

  abbrev bare_value : Value-F Call Part Arg → Value-F CallForm Expr Value
  bare_value = map-Value Call Part Arg CallForm Expr Value (λ c. c.0) (λ x. x.0) (λ v. v.0)

  value_layer : (y : Value-F Call Part Arg) → ReadsArgument env (value_step env (walks_value (bare_value y))) (tokens.value_step (kinds_value (bare_value y)))
  value_layer y w h =
      let p = over_if y.is_global 2 (none w h) in
      let two = global_length y.is_global in
      counted (further p (y.expr.1 false _ (within p))) (simp length-append (omega arith))

  value_made : (x : Value-F CallForm Expr Value) (y : Value-F Call Part Arg) → bare_value y ≡ x → CountsValue (roll-Value x)
  value_made x y is =
      let P : Value-F CallForm Expr Value → Type 0 = λ x. ReadsArgument env (value_step env (walks_value x)) (tokens.value_step (kinds_value x)) in
      let Q : Argument → Type 0 = λ r. ReadsArgument env r (tokens.value_step (kinds_value x)) in
      let R : Kinds → Type 0 = λ ks. ReadsArgument env (value_walk env (roll-Value x)) ks in
      subst R (sym (fold-roll-Value Kinds Kinds Kinds tokens.call_step tokens.expr_step tokens.value_step x))
      (subst Q (sym (fold-roll-Value Calling Reading Argument (call_step env) (expr_step env) (value_step env) x)) (subst P is (value_layer y)))

  abbrev walks_call : CallForm-F CallForm Expr Value → CallForm-F Calling Reading Argument
  walks_call = map-CallForm CallForm Expr Value Calling Reading Argument (call_walk env) (expr_walk env) (value_walk env)

  abbrev kinds_call : CallForm-F CallForm Expr Value → CallForm-F Kinds Kinds Kinds
  kinds_call = map-CallForm CallForm Expr Value Kinds Kinds Kinds call_tokens expr_tokens value_tokens

  abbrev bare_call : CallForm-F Call Part Arg → CallForm-F CallForm Expr Value
  bare_call = map-CallForm Call Part Arg CallForm Expr Value (λ c. c.0) (λ x. x.0) (λ v. v.0)

  abbrev pass : Arg → Argument
  pass v = value_walk env v.0

  abbrev spelled_arg : Arg → Kinds
  spelled_arg v = value_tokens v.0

  -- the arguments' walks and tokens, each in one step
  both : (P : List Argument → List Kinds → Type 0) (args : List Arg) → P (map pass args) (map spelled_arg args)
      → P (map (value_walk env) (map (λ v. v.0) args)) (map value_tokens (map (λ v. v.0) args))
  both P args p =
      let Q : List Argument → Type 0 = λ parts. P parts (map value_tokens (map (λ (v : Arg). v.0) args)) in
      subst Q (sym (map_map (value_walk env) (λ (v : Arg). v.0) args)) (subst (P (map pass args)) (sym (map_map value_tokens (λ (v : Arg). v.0) args)) p)

  call_layer : (y : CallForm-F Call Part Arg) → ReadsCall env (call_step env (walks_call (bare_call y))) (tokens.call_step (kinds_call (bare_call y)))
  call_layer (e.Own name args) =
      both (λ parts all. ReadsCall env (call_step env (e.Own name parts)) (tokens.call_step (e.Own name all))) args
      (own_call_passes env pass spelled_arg (λ v. v.1) name args)
  call_layer (e.Of object name args) =
      both (λ parts all. ReadsCall env (call_step env (e.Of object name parts)) (tokens.call_step (e.Of object name all))) args
      (of_call_passes env pass spelled_arg (λ v. v.1) object name args)
  call_layer (e.OfMember object at name args) =
      both (λ parts all. ReadsCall env (call_step env (e.OfMember object (read at) name parts)) (tokens.call_step (e.OfMember object (spelled at) name all))) args
      (of_member_call_passes env pass spelled_arg (λ v. v.1) object (read at) (spelled at) name args at.1)

  call_made : (x : CallForm-F CallForm Expr Value) (y : CallForm-F Call Part Arg) → bare_call y ≡ x → CountsCall (roll-CallForm x)
  call_made x y is =
      let P : CallForm-F CallForm Expr Value → Type 0 = λ x. ReadsCall env (call_step env (walks_call x)) (tokens.call_step (kinds_call x)) in
      let Q : Calling → Type 0 = λ r. ReadsCall env r (tokens.call_step (kinds_call x)) in
      let R : Kinds → Type 0 = λ ks. ReadsCall env (call_walk env (roll-CallForm x)) ks in
      subst R (sym (fold-roll-CallForm Kinds Kinds Kinds tokens.call_step tokens.expr_step tokens.value_step x))
      (subst Q (sym (fold-roll-CallForm Calling Reading Argument (call_step env) (expr_step env) (value_step env) x)) (subst P is (call_layer y)))

  pub expr_counts : (x : Expr) → Counts x
  expr_counts = ind-Expr CountsCall Counts CountsValue call_made expr_made value_made

  pub value_counts : (v : Value) → CountsValue v
  value_counts = ind-Value CountsCall Counts CountsValue call_made expr_made value_made

  pub call_counts : (c : CallForm) → CountsCall c
  call_counts = ind-CallForm CountsCall Counts CountsValue call_made expr_made value_made
