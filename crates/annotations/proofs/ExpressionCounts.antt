-- The walk passes as many tokens as an expression, a value and a call have.
use Rattle.std.proofs.Common.{◌≡◌, ℕ, ◌+◌, ◌≤◌, true, false, List, length, map, Option, None, sym, subst, arith}
use Rattle.std.proofs.lemmas.List.{length-append}
use Rattle.java_tree.specs.declared.tree.Expr.{Expr, roll-Expr}
use Rattle.java_tree.specs.declared.tree.Value.{Value, roll-Value}
use Rattle.java_tree.specs.declared.tree.CallForm.{CallForm, roll-CallForm}
use Rattle.java_tree.specs.declared.tree.CallForm.TheOpen.{CallForm-F, Expr-F, Value-F}
use Rattle.java_tree.specs.declared.tree.CallForm.TheOpen as e
use Rattle.java_tree.specs.declared.tree.CallForm.TheFolds.{fold-roll-CallForm, fold-roll-Expr, fold-roll-Value, ind-CallForm, ind-Expr, ind-Value, map-CallForm, map-Expr, map-Value}
use Rattle.java_tree.specs.Tokens.{Kinds, global, separated, expr_tokens, value_tokens, call_tokens}
use Rattle.java_tree.specs.Tokens as tokens
use Rattle.annotations.specs.declared.position.Position.{Position}
use Rattle.annotations.specs.declared.position.Position.TheVariants.{Inside}
use Rattle.annotations.specs.declared.walk.Env.{Env}
use Rattle.annotations.specs.declared.walk.Walk.{Walk}
use Rattle.annotations.specs.Walks.{unexpected}
use Rattle.annotations.specs.Expressions.{Reading, Argument, Calling, inside, walk_step, expr_step, value_step, call_step, expr_of, value_of, call_of}
use Rattle.annotations.proofs.Lists.{map_map}
use Rattle.annotations.proofs.Counting.{Passed, none, within, over, over_if, further, stays, counted, named_passes, unfit_stays, unexpected_stays}
use Rattle.annotations.proofs.ExpressionSteps.{Reads, ReadsArgument, ReadsCall, global_length, number_type_length, variable_passes, own_call_passes, of_call_passes, of_member_call_passes}

module _ (env : Env) where
  abbrev pub Counts : Expr → Type 0
  Counts x = Reads env (expr_of env x) (expr_tokens x)

  abbrev pub CountsValue : Value → Type 0
  CountsValue v = ReadsArgument env (value_of env v) (value_tokens v)

  abbrev pub CountsCall : CallForm → Type 0
  CountsCall c = ReadsCall env (call_of env c) (call_tokens c)

  abbrev Call : Type 0
  Call = (c : CallForm) × CountsCall c

  abbrev Part : Type 0
  Part = (x : Expr) × Counts x

  abbrev Arg : Type 0
  Arg = (v : Value) × CountsValue v

  abbrev walks : Expr-F CallForm Expr Value → Expr-F Calling Reading Argument
  walks = map-Expr CallForm Expr Value Calling Reading Argument (call_of env) (expr_of env) (value_of env)

  abbrev kinds : Expr-F CallForm Expr Value → Expr-F Kinds Kinds Kinds
  kinds = map-Expr CallForm Expr Value Kinds Kinds Kinds call_tokens expr_tokens value_tokens

  abbrev bare : Expr-F Call Part Arg → Expr-F CallForm Expr Value
  bare = map-Expr Call Part Arg CallForm Expr Value (λ c. c.0) (λ x. x.0) (λ v. v.0)

  abbrev read : Part → Reading
  read x = expr_of env x.0

  abbrev spelled : Part → Kinds
  spelled x = expr_tokens x.0

  -- Where neither a name nor a call stands, a rule is looked at first.
  begins : (position : Position) (g : Option ℕ) (w : Walk) → w.at ≤ env.limit → Passed env 0 w (unexpected position g w)
  begins position g w h = stays (none w h) (unexpected_stays position g w)

  part_passes : {n : ℕ} {w v : Walk} (x : Part) → Passed env n w v → Passed env (n + length (spelled x)) w (inside (read x) v)
  part_passes x p = further p (x.1 Inside None _ (within p))

  expr_layer : (y : Expr-F Call Part Arg) → (position : Position) (g : Option ℕ) (w : Walk) → w.at ≤ env.limit
      → Passed env (length (tokens.expr_step (kinds (bare y)))) w (walk_step env (walks (bare y)) position g w)
  expr_layer (e.Conditional test first second) position g w h =
      counted (part_passes second (over 1 (part_passes first (over 1 (part_passes test (begins position g w h)))))) (simp length-append (omega arith))
  expr_layer (e.Binary op left right) position g w h = counted (part_passes right (over 1 (part_passes left (begins position g w h)))) (simp length-append (omega arith))
  expr_layer (e.Unary op part) position g w h = counted (part_passes part (over 1 (begins position g w h))) (omega arith)
  expr_layer (e.Cast to part) position g w h =
      let one = number_type_length to in
      counted (part_passes part (over 3 (begins position g w h))) (simp length-append (omega arith))
  expr_layer (e.Number digits decimal long) position g w h = over 1 (begins position g w h)
  expr_layer (e.Bool true) position g w h = over 1 (begins position g w h)
  expr_layer (e.Bool false) position g w h = over 1 (begins position g w h)
  expr_layer (e.Paren inner) position g w h = counted (over 1 (part_passes inner (over 1 (begins position g w h)))) (simp length-append (omega arith))
  expr_layer (e.New name size) position g w h = counted (over 1 (part_passes size (over 3 (begins position g w h)))) (simp length-append (omega arith))
  expr_layer (e.Name name) position g w h = variable_passes position g (none w h)
  expr_layer (e.Index name at) position g w h = counted (over 1 (part_passes at (over 1 (named_passes (begins position g w h))))) (simp length-append (omega arith))
  expr_layer (e.Member object name) position g w h = over 2 (named_passes (begins position g w h))
  expr_layer (e.Call call) position g w h =
      let s = stays (none w h) (unfit_stays position w) in
      counted (further s (call.1 position g _ (within s))) (omega arith)

  expr_made : (x : Expr-F CallForm Expr Value) (y : Expr-F Call Part Arg) → bare y ≡ x → Counts (roll-Expr x)
  expr_made x y is =
      let P : Expr-F CallForm Expr Value → Type 0 = λ x. Reads env (expr_step env (walks x)) (tokens.expr_step (kinds x)) in
      let made : P x = subst P is (expr_layer y) in
      let Q : Reading → Type 0 = λ r. Reads env r (tokens.expr_step (kinds x)) in
      let R : Kinds → Type 0 = λ ks. Reads env (expr_of env (roll-Expr x)) ks in
      subst R (sym (fold-roll-Expr Kinds Kinds Kinds tokens.call_step tokens.expr_step tokens.value_step x))
      (subst Q (sym (fold-roll-Expr Calling Reading Argument (call_step env) (expr_step env) (value_step env) x)) made)

  abbrev walks_value : Value-F CallForm Expr Value → Value-F Calling Reading Argument
  walks_value = map-Value CallForm Expr Value Calling Reading Argument (call_of env) (expr_of env) (value_of env)

  abbrev kinds_value : Value-F CallForm Expr Value → Value-F Kinds Kinds Kinds
  kinds_value = map-Value CallForm Expr Value Kinds Kinds Kinds call_tokens expr_tokens value_tokens

  abbrev bare_value : Value-F Call Part Arg → Value-F CallForm Expr Value
  bare_value = map-Value Call Part Arg CallForm Expr Value (λ c. c.0) (λ x. x.0) (λ v. v.0)

  value_layer : (y : Value-F Call Part Arg) → ReadsArgument env (value_step env (walks_value (bare_value y))) (tokens.value_step (kinds_value (bare_value y)))
  value_layer y position w h =
      let p = over_if y.is_global 2 (none w h) in
      let two = global_length y.is_global in
      counted (further p (y.expr.1 position _ _ (within p))) (simp length-append (omega arith))

  value_made : (x : Value-F CallForm Expr Value) (y : Value-F Call Part Arg) → bare_value y ≡ x → CountsValue (roll-Value x)
  value_made x y is =
      let P : Value-F CallForm Expr Value → Type 0 = λ x. ReadsArgument env (value_step env (walks_value x)) (tokens.value_step (kinds_value x)) in
      let Q : Argument → Type 0 = λ r. ReadsArgument env r (tokens.value_step (kinds_value x)) in
      let R : Kinds → Type 0 = λ ks. ReadsArgument env (value_of env (roll-Value x)) ks in
      subst R (sym (fold-roll-Value Kinds Kinds Kinds tokens.call_step tokens.expr_step tokens.value_step x))
      (subst Q (sym (fold-roll-Value Calling Reading Argument (call_step env) (expr_step env) (value_step env) x)) (subst P is (value_layer y)))

  abbrev walks_call : CallForm-F CallForm Expr Value → CallForm-F Calling Reading Argument
  walks_call = map-CallForm CallForm Expr Value Calling Reading Argument (call_of env) (expr_of env) (value_of env)

  abbrev kinds_call : CallForm-F CallForm Expr Value → CallForm-F Kinds Kinds Kinds
  kinds_call = map-CallForm CallForm Expr Value Kinds Kinds Kinds call_tokens expr_tokens value_tokens

  abbrev bare_call : CallForm-F Call Part Arg → CallForm-F CallForm Expr Value
  bare_call = map-CallForm Call Part Arg CallForm Expr Value (λ c. c.0) (λ x. x.0) (λ v. v.0)

  abbrev pass : Arg → Argument
  pass v = value_of env v.0

  abbrev spelled_arg : Arg → Kinds
  spelled_arg v = value_tokens v.0

  -- the arguments' walks and tokens, each in one step
  both : (P : List Argument → List Kinds → Type 0) (args : List Arg) → P (map pass args) (map spelled_arg args)
      → P (map (value_of env) (map (λ v. v.0) args)) (map value_tokens (map (λ v. v.0) args))
  both P args p =
      let Q : List Argument → Type 0 = λ parts. P parts (map value_tokens (map (λ (v : Arg). v.0) args)) in
      subst Q (sym (map_map (value_of env) (λ (v : Arg). v.0) args)) (subst (P (map pass args)) (sym (map_map value_tokens (λ (v : Arg). v.0) args)) p)

  call_layer : (y : CallForm-F Call Part Arg) → ReadsCall env (call_step env (walks_call (bare_call y))) (tokens.call_step (kinds_call (bare_call y)))
  call_layer (e.Own name args) =
      both (λ parts all. ReadsCall env (call_step env (e.Own name parts)) (tokens.call_step (e.Own name all))) args
      (own_call_passes env pass spelled_arg (λ v. v.1) name args)
  call_layer (e.Of object name args) =
      both (λ parts all. ReadsCall env (call_step env (e.Of object name parts)) (tokens.call_step (e.Of object name all))) args
      (of_call_passes env pass spelled_arg (λ v. v.1) object name args)
  call_layer (e.OfMember object at name args) =
      both (λ parts all. ReadsCall env (call_step env (e.OfMember object (read at) name parts)) (tokens.call_step (e.OfMember object (spelled at) name all))) args
      (of_member_call_passes env pass spelled_arg (λ v. v.1) object (read at) (spelled at) name args at.1)

  call_made : (x : CallForm-F CallForm Expr Value) (y : CallForm-F Call Part Arg) → bare_call y ≡ x → CountsCall (roll-CallForm x)
  call_made x y is =
      let P : CallForm-F CallForm Expr Value → Type 0 = λ x. ReadsCall env (call_step env (walks_call x)) (tokens.call_step (kinds_call x)) in
      let Q : Calling → Type 0 = λ r. ReadsCall env r (tokens.call_step (kinds_call x)) in
      let R : Kinds → Type 0 = λ ks. ReadsCall env (call_of env (roll-CallForm x)) ks in
      subst R (sym (fold-roll-CallForm Kinds Kinds Kinds tokens.call_step tokens.expr_step tokens.value_step x))
      (subst Q (sym (fold-roll-CallForm Calling Reading Argument (call_step env) (expr_step env) (value_step env) x)) (subst P is (call_layer y)))

  pub expr_counts : (x : Expr) → Counts x
  expr_counts = ind-Expr CountsCall Counts CountsValue call_made expr_made value_made

  pub value_counts : (v : Value) → CountsValue v
  value_counts = ind-Value CountsCall Counts CountsValue call_made expr_made value_made

  pub call_counts : (c : CallForm) → CountsCall c
  call_counts = ind-CallForm CountsCall Counts CountsValue call_made expr_made value_made
