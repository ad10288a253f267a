-- Each expression, value and call is followed.
use Rattle.std.proofs.Common.{◌≡◌, ℕ, Bool, true, false, List, [], length, nat_lt, map, Option, Some, None, if◌then◌else◌, refl, sym, subst, ◌∙◌}
use Rattle.java_tree.specs.declared.tree.Expr.{Expr, roll-Expr}
use Rattle.java_tree.specs.declared.tree.Value.{Value, roll-Value}
use Rattle.java_tree.specs.declared.tree.CallForm.{CallForm, roll-CallForm, out-roll-CallForm}
use Rattle.java_tree.specs.declared.tree.CallForm.TheOpen.{CallForm-F, Expr-F, Value-F}
use Rattle.java_tree.specs.declared.tree.CallForm.TheOpen as e
use Rattle.java_tree.specs.declared.tree.CallForm.TheFolds.{fold-roll-CallForm, fold-roll-Expr, fold-roll-Value, ind-CallForm, ind-Expr, ind-Value, map-CallForm, map-Expr, map-Value}
use Rattle.java_tree.specs.declared.types.ExprType.{ExprType}
use Rattle.java_types.specs.declared.walk.Walk.{Walk}
use Rattle.java_types.specs.Walks.{opened, closed, past_if}
use Rattle.java_types.specs.Expressions.{Reading, Argument, Calling, parts, expr_step, value_step, call_step, expr_walk, value_walk, call_walk}
use Rattle.java_types.proofs.Lists.{map_map}
use Rattle.access_blocks.specs.Resolving.{Resolving, expression_of, value_of, call_of}
use Rattle.access_blocks.specs.Resolving as resolving
use Rattle.annotations.specs.declared.position.Position.{Position}
use Rattle.annotations.specs.declared.position.Position.TheVariants.{Inside, Merged}
use Rattle.annotations.specs.declared.walk.Walk.{Walk as Marking}
use Rattle.annotations.specs.Walks as marks
use Rattle.annotations.specs.Expressions as marking
use Rattle.body_code.specs.Typing.{Needs, needs}
use Rattle.typed_bodies.specs.Marking.{Begins, Passes, Merges, IsMarked, IsKey, is_state}
use Rattle.typed_bodies.proofs.Marking.{never_quiet, noted_at_grows, past_grows}
use Rattle.access_blocks.specs.declared.resolved.Resolved.{Resolved}
use Rattle.access_blocks.specs.Cursors.{Cursor, Read}
use Rattle.java_tree.specs.declared.types.Declaration.{Declaration}
use Rattle.typed_bodies.specs.Reading.{Place, IsSound, Follows}
use Rattle.typed_bodies.specs.Expressions.{IsFound, is_of_member, of_member_layer, as_reading}
use Rattle.typed_bodies.proofs.Steps.{follows_typed, past_if_follows}
use Rattle.typed_bodies.proofs.Arguments.{ReadsArgument, merges_past}
use Rattle.typed_bodies.proofs.OwnCalls.{own_follows}
use Rattle.typed_bodies.proofs.NamedCalls.{of_name_follows}
use Rattle.typed_bodies.proofs.Members.{ReadsPart, of_member_follows}
use Rattle.typed_bodies.proofs.Layers.{ReadsCall, binary_follows, conditional_follows, unary_follows, cast_follows, paren_follows, new_follows, number_follows, truth_follows, name_follows, length_follows, index_follows, call_follows}

closed_if : (b : Bool) (v w : Walk) → (if b then v else w).findings ≡ [] → v.findings ≡ w.findings → w.findings ≡ []
closed_if true v w quiet same = sym same ∙ quiet
closed_if false v w quiet same = quiet

pub closed_quiet : (slot : ℕ) (t : ExprType) (w : Walk) → (closed slot t w).findings ≡ [] → w.findings ≡ []
unfolding closed
closed_quiet slot t w quiet = closed_if (nat_lt slot (length w.types)) _ w quiet refl

-- the same reading, where what fits is said otherwise
fits_too : {A : Type 0} {w v : Walk} (p : Place) {reading : Cursor → Read A} (Fits Made : List Declaration → A → Type 0) → ((names : List Declaration) (a : A) → Fits names a → Made names a)
    → Follows p w v reading Fits → Follows p w v reading Made
fits_too p Fits Made made f = record {
  added = f.added;
  in_step = λ known c types names stands. let r = f.in_step known c types names stands in record { behind = r.behind; fits = made _ _ r.fits };
}

begins_at : (p : Place) (first : Marking → Marking) {walk : Marking → Marking} {names : List Declaration} (u : Marking) {rest : List Declaration}
    → Begins p walk names u rest → (first (marks.past p.marks 2 u)).findings ≡ [] → Begins p first names (marks.past p.marks 2 u) rest
unfolding marks.past
begins_at p first u b quiet = record { agrees = b.agrees; before = b.before; quiet = quiet }

-- what is marked of a value, by what is marked of its expression
abbrev pub value_of_expression : Place → Bool → marking.Reading → marking.Argument
value_of_expression p is_global m = record {
  key = λ w. marking.value_key is_global (m.key w);
  walk = λ position w. m.walk position (marks.token_if is_global w.at) (marks.past_if p.marks is_global 2 w);
}

-- what is marked of an argument is marked as of an expression
module _ (p : Place) (a : marking.Argument) (found : ExprType) (names : List Declaration) (grow : (position : Position) (u : Marking) → (a.walk position u).findings ≡ [] → u.findings ≡ [])
    (merge : (at : ℕ) (merging : Bool) (u : Marking) (rest : List Declaration) → Begins p (a.walk (Merged at merging)) names u rest → Merges p merging found names rest u (a.walk (Merged at merging) u)) where
  merge_by : (at : ℕ) (merging : Bool) (global : Option ℕ) (u : Marking) (rest : List Declaration) → Begins p (λ v. a.walk (Merged at merging) (marks.noted_at global 10 v)) names u rest
      → Merges p merging found names rest u (a.walk (Merged at merging) (marks.noted_at global 10 u))
  merge_by at merging None u rest b = merge at merging u rest (record { agrees = b.agrees; before = b.before; quiet = b.quiet })
  merge_by at merging (Some token) u rest b = absurd (never_quiet token 10 u (grow (Merged at merging) _ b.quiet))

  as_marked : Passes p (a.walk Inside) (is_state found) names → IsMarked p (as_reading a).walk found names
  as_marked inside = record {
    grows = λ position global u quiet. noted_at_grows global 10 u (grow position _ quiet);
    inside = record {
      grows = λ u quiet. inside.grows u quiet;
      passed = λ u rest b. inside.passed u rest (record { agrees = b.agrees; before = b.before; quiet = b.quiet });
      plain = λ u rest b is. inside.plain u rest (record { agrees = b.agrees; before = b.before; quiet = b.quiet }) is;
    };
    no_global = λ at u quiet. never_quiet at 10 u (grow Inside _ quiet);
    merged = merge_by;
  }

value_marked : (p : Place) (is_global : Bool) (found : ExprType) (m : marking.Reading) (names : List Declaration) → IsMarked p m.walk found names
    → IsMarked p (as_reading (value_of_expression p is_global m)).walk found names
value_marked p false found m names is =
    as_marked p (value_of_expression p false m) found names (λ position u quiet. is.grows position None u quiet)
    (λ at merging u rest b. is.merged at merging None u rest (record { agrees = b.agrees; before = b.before; quiet = b.quiet }))
    (record {
      grows = λ u quiet. is.grows Inside None u quiet;
      passed = λ u rest b. is.inside.passed u rest (record { agrees = b.agrees; before = b.before; quiet = b.quiet });
      plain = λ u rest b free. is.inside.plain u rest (record { agrees = b.agrees; before = b.before; quiet = b.quiet }) free;
    })
value_marked p true found m names is =
    as_marked p (value_of_expression p true m) found names (λ position u quiet. past_grows p.marks 2 u (is.grows position (Some u.at) _ quiet))
    (λ at merging u rest b. merges_past p 2 found u (is.merged at merging (Some u.at) (marks.past p.marks 2 u) rest (begins_at p (λ v. m.walk (Merged at merging) (Some u.at) v) u b b.quiet)))
    (record {
      grows = λ u quiet. past_grows p.marks 2 u (is.grows Inside (Some u.at) _ quiet);
      passed = λ u rest b. absurd (is.no_global u.at _ b.quiet);
      plain = λ u rest b free. absurd (is.no_global u.at _ b.quiet);
    })

value_key_is : (p : Place) (is_global : Bool) (m : marking.Reading) (u : Marking) (n : Needs) → IsKey p (m.key u) n → IsKey p (marking.value_key is_global (m.key u)) n
value_key_is p false m u n is = is
value_key_is p true m u n is = tt

found_as_value : (p : Place) (is_global : Bool) (found : ExprType) (m : marking.Reading) (names : List Declaration) (r : Resolved) → IsFound p found m names r
    → IsFound p found (as_reading (value_of_expression p is_global m)) names r
found_as_value p is_global found m names r is = record {
  same = is.same;
  typed = is.typed;
  within = is.within;
  marked = value_marked p is_global found m names is.marked;
  key = λ u rest at. value_key_is p is_global m u (needs r.expression) (is.key u rest at);
}

module _ (p : Place) (sound : IsSound p) where
  abbrev pub FollowsExpression : Expr → Type 0
  FollowsExpression x = ReadsPart p (expr_walk p.env x) (expression_of p.scope x) (marking.expr_of p.marks x)

  abbrev pub FollowsValue : Value → Type 0
  FollowsValue v = ReadsArgument p (value_walk p.env v) (value_of p.scope v) (marking.value_of p.marks v)

  abbrev pub FollowsCall : CallForm → Type 0
  FollowsCall c = ReadsCall p (is_of_member c) (call_walk p.env c) (call_of p.scope c) (marking.call_of p.marks c)

  abbrev Call : Type 0
  Call = (c : CallForm) × FollowsCall c

  abbrev Part : Type 0
  Part = (x : Expr) × FollowsExpression x

  abbrev Arg : Type 0
  Arg = (v : Value) × FollowsValue v

  abbrev walks : Expr-F CallForm Expr Value → Expr-F Calling Reading Argument
  walks = map-Expr CallForm Expr Value Calling Reading Argument (call_walk p.env) (expr_walk p.env) (value_walk p.env)

  abbrev reads : Expr-F CallForm Expr Value → Expr-F resolving.Calling Resolving Resolving
  reads = map-Expr CallForm Expr Value resolving.Calling Resolving Resolving (call_of p.scope) (expression_of p.scope) (value_of p.scope)

  abbrev marked : Expr-F CallForm Expr Value → Expr-F marking.Calling marking.Reading marking.Argument
  marked = map-Expr CallForm Expr Value marking.Calling marking.Reading marking.Argument (marking.call_of p.marks) (marking.expr_of p.marks) (marking.value_of p.marks)

  abbrev bare : Expr-F Call Part Arg → Expr-F CallForm Expr Value
  bare = map-Expr Call Part Arg CallForm Expr Value (λ c. c.0) (λ x. x.0) (λ v. v.0)

  abbrev walk_of : Part → Reading
  walk_of x = expr_walk p.env x.0

  abbrev read_of : Part → Resolving
  read_of x = expression_of p.scope x.0

  abbrev mark_of : Part → marking.Reading
  mark_of x = marking.expr_of p.marks x.0

  expr_layer : (y : Expr-F Call Part Arg) (negated : Bool) (w : Walk) → (parts p.env (walks (bare y)) negated w).walk.findings ≡ []
      → Follows p w (parts p.env (walks (bare y)) negated w).walk (resolving.parts p.scope (reads (bare y)) (parts p.env (walks (bare y)) negated w).found)
      (IsFound p (parts p.env (walks (bare y)) negated w).found (marking.expr_step p.marks (marked (bare y))))
  expr_layer (e.Conditional test first second) negated w quiet =
      conditional_follows p (walk_of test) (walk_of first) (walk_of second) (read_of test) (read_of first) (read_of second) (mark_of test) (mark_of first) (mark_of second) test.1 first.1 second.1 w quiet
  expr_layer (e.Binary op left right) negated w quiet = binary_follows p op (walk_of left) (walk_of right) (read_of left) (read_of right) (mark_of left) (mark_of right) left.1 right.1 w quiet
  expr_layer (e.Unary op part) negated w quiet = unary_follows p op (walk_of part) (read_of part) (mark_of part) part.1 w quiet
  expr_layer (e.Cast to part) negated w quiet = cast_follows p to (walk_of part) (read_of part) (mark_of part) part.1 w quiet
  expr_layer (e.Number digits decimal long) negated w quiet = number_follows p _ decimal long digits w quiet
  expr_layer (e.Bool b) negated w quiet = truth_follows p b w quiet
  expr_layer (e.Paren inner) negated w quiet = paren_follows p (walk_of inner) (read_of inner) (mark_of inner) inner.1 w quiet
  expr_layer (e.New name size) negated w quiet = new_follows p name (walk_of size) (read_of size) (mark_of size) size.1 w quiet
  expr_layer (e.Name name) negated w quiet = name_follows p sound name w quiet
  expr_layer (e.Index name at) negated w quiet = index_follows p sound name (walk_of at) (read_of at) (mark_of at) at.1 w quiet
  expr_layer (e.Member object name) negated w quiet = length_follows p sound object name w quiet
  expr_layer (e.Call call) negated w quiet = call_follows p (is_of_member call.0) (call_walk p.env call.0) (call_of p.scope call.0) (marking.call_of p.marks call.0) call.1 w quiet

  typed_layer : (y : Expr-F Call Part Arg) → ReadsPart p (expr_step p.env (walks (bare y))) (resolving.expr_step p.scope (reads (bare y))) (marking.expr_step p.marks (marked (bare y)))
  typed_layer y negated w quiet =
      let t = parts p.env (walks (bare y)) negated (opened w) in
      follows_typed p w t.found (resolving.parts p.scope (reads (bare y))) (IsFound p t.found (marking.expr_step p.marks (marked (bare y))))
      (expr_layer y negated (opened w) (closed_quiet (length w.types) t.found t.walk quiet))

  expr_made : (x : Expr-F CallForm Expr Value) (y : Expr-F Call Part Arg) → bare y ≡ x → FollowsExpression (roll-Expr x)
  expr_made x y is =
      let P : Expr-F CallForm Expr Value → Type 0 = λ x. ReadsPart p (expr_step p.env (walks x)) (resolving.expr_step p.scope (reads x)) (marking.expr_step p.marks (marked x)) in
      let Q : Reading → Type 0 = λ r. ReadsPart p r (resolving.expr_step p.scope (reads x)) (marking.expr_step p.marks (marked x)) in
      let R : Resolving → Type 0 = λ s. ReadsPart p (expr_walk p.env (roll-Expr x)) s (marking.expr_step p.marks (marked x)) in
      let S : marking.Reading → Type 0 = λ m. ReadsPart p (expr_walk p.env (roll-Expr x)) (expression_of p.scope (roll-Expr x)) m in
      subst S (sym (fold-roll-Expr marking.Calling marking.Reading marking.Argument (marking.call_step p.marks) (marking.expr_step p.marks) (marking.value_step p.marks) x))
      (subst R (sym (fold-roll-Expr resolving.Calling Resolving Resolving (resolving.call_step p.scope) (resolving.expr_step p.scope) resolving.value_step x))
      (subst Q (sym (fold-roll-Expr Calling Reading Argument (call_step p.env) (expr_step p.env) (value_step p.env) x)) (subst P is (typed_layer y))))

  -- ---- values

  abbrev walks_value : Value-F CallForm Expr Value → Value-F Calling Reading Argument
  walks_value = map-Value CallForm Expr Value Calling Reading Argument (call_walk p.env) (expr_walk p.env) (value_walk p.env)

  abbrev reads_value : Value-F CallForm Expr Value → Value-F resolving.Calling Resolving Resolving
  reads_value = map-Value CallForm Expr Value resolving.Calling Resolving Resolving (call_of p.scope) (expression_of p.scope) (value_of p.scope)

  abbrev marked_value : Value-F CallForm Expr Value → Value-F marking.Calling marking.Reading marking.Argument
  marked_value = map-Value CallForm Expr Value marking.Calling marking.Reading marking.Argument (marking.call_of p.marks) (marking.expr_of p.marks) (marking.value_of p.marks)

  abbrev bare_value : Value-F Call Part Arg → Value-F CallForm Expr Value
  bare_value = map-Value Call Part Arg CallForm Expr Value (λ c. c.0) (λ x. x.0) (λ v. v.0)

  value_layer : (y : Value-F Call Part Arg) → ReadsArgument p (value_step p.env (walks_value (bare_value y))) (resolving.value_step (reads_value (bare_value y))) (marking.value_step p.marks (marked_value (bare_value y)))
  value_layer y w quiet =
      let part = expr_walk p.env y.expr.0 false (past_if p.env y.is_global 2 w) in
      past_if_follows p p.env y.is_global 2 (fits_too p (IsFound p part.found (mark_of y.expr)) (IsFound p part.found (as_reading (marking.value_step p.marks (marked_value (bare_value y)))))
      (λ names r is. found_as_value p y.is_global part.found (mark_of y.expr) names r is) (y.expr.1 false _ quiet))

  value_made : (x : Value-F CallForm Expr Value) (y : Value-F Call Part Arg) → bare_value y ≡ x → FollowsValue (roll-Value x)
  value_made x y is =
      let P : Value-F CallForm Expr Value → Type 0 = λ x. ReadsArgument p (value_step p.env (walks_value x)) (resolving.value_step (reads_value x)) (marking.value_step p.marks (marked_value x)) in
      let Q : Argument → Type 0 = λ r. ReadsArgument p r (resolving.value_step (reads_value x)) (marking.value_step p.marks (marked_value x)) in
      let R : Resolving → Type 0 = λ s. ReadsArgument p (value_walk p.env (roll-Value x)) s (marking.value_step p.marks (marked_value x)) in
      let S : marking.Argument → Type 0 = λ m. ReadsArgument p (value_walk p.env (roll-Value x)) (value_of p.scope (roll-Value x)) m in
      subst S (sym (fold-roll-Value marking.Calling marking.Reading marking.Argument (marking.call_step p.marks) (marking.expr_step p.marks) (marking.value_step p.marks) x))
      (subst R (sym (fold-roll-Value resolving.Calling Resolving Resolving (resolving.call_step p.scope) (resolving.expr_step p.scope) resolving.value_step x))
      (subst Q (sym (fold-roll-Value Calling Reading Argument (call_step p.env) (expr_step p.env) (value_step p.env) x)) (subst P is (value_layer y))))

  -- ---- calls

  abbrev walks_call : CallForm-F CallForm Expr Value → CallForm-F Calling Reading Argument
  walks_call = map-CallForm CallForm Expr Value Calling Reading Argument (call_walk p.env) (expr_walk p.env) (value_walk p.env)

  abbrev reads_call : CallForm-F CallForm Expr Value → CallForm-F resolving.Calling Resolving Resolving
  reads_call = map-CallForm CallForm Expr Value resolving.Calling Resolving Resolving (call_of p.scope) (expression_of p.scope) (value_of p.scope)

  abbrev marked_call : CallForm-F CallForm Expr Value → CallForm-F marking.Calling marking.Reading marking.Argument
  marked_call = map-CallForm CallForm Expr Value marking.Calling marking.Reading marking.Argument (marking.call_of p.marks) (marking.expr_of p.marks) (marking.value_of p.marks)

  abbrev bare_call : CallForm-F Call Part Arg → CallForm-F CallForm Expr Value
  bare_call = map-CallForm Call Part Arg CallForm Expr Value (λ c. c.0) (λ x. x.0) (λ v. v.0)

  abbrev pass : Arg → Argument
  pass v = value_walk p.env v.0

  abbrev read_arg : Arg → Resolving
  read_arg v = value_of p.scope v.0

  abbrev mark_arg : Arg → marking.Argument
  mark_arg v = marking.value_of p.marks v.0

  all_three : (P : List Argument → List Resolving → List marking.Argument → Type 0) (args : List Arg) → P (map pass args) (map read_arg args) (map mark_arg args)
      → P (map (value_walk p.env) (map (λ v. v.0) args)) (map (value_of p.scope) (map (λ v. v.0) args)) (map (marking.value_of p.marks) (map (λ v. v.0) args))
  all_three P args made =
      let Q : List Argument → Type 0 = λ walks. P walks (map (value_of p.scope) (map (λ (v : Arg). v.0) args)) (map (marking.value_of p.marks) (map (λ (v : Arg). v.0) args)) in
      let R : List Resolving → Type 0 = λ reads. P (map pass args) reads (map (marking.value_of p.marks) (map (λ (v : Arg). v.0) args)) in
      subst Q (sym (map_map (value_walk p.env) (λ (v : Arg). v.0) args))
      (subst R (sym (map_map (value_of p.scope) (λ (v : Arg). v.0) args))
      (subst (P (map pass args) (map read_arg args)) (sym (map_map (marking.value_of p.marks) (λ (v : Arg). v.0) args)) made))

  abbrev Layer : CallForm-F Calling Reading Argument → CallForm-F resolving.Calling Resolving Resolving → CallForm-F marking.Calling marking.Reading marking.Argument → Bool → Type 0
  Layer walks reads marked of_member = ReadsCall p of_member (call_step p.env walks) (resolving.call_step p.scope reads) (marking.call_step p.marks marked)

  call_layer : (y : CallForm-F Call Part Arg) → Layer (walks_call (bare_call y)) (reads_call (bare_call y)) (marked_call (bare_call y)) (of_member_layer (bare_call y))
  call_layer (e.Own name args) =
      all_three (λ walks reads marked. Layer (e.Own name walks) (e.Own name reads) (e.Own name marked) false) args (own_follows p sound pass read_arg mark_arg (λ v. v.1) name args)
  call_layer (e.Of object name args) =
      all_three (λ walks reads marked. Layer (e.Of object name walks) (e.Of object name reads) (e.Of object name marked) false) args (of_name_follows p sound pass read_arg mark_arg (λ v. v.1) object name args)
  call_layer (e.OfMember object at name args) =
      all_three (λ walks reads marked. Layer (e.OfMember object (walk_of at) name walks) (e.OfMember object (read_of at) name reads) (e.OfMember object (mark_of at) name marked) true) args
      (of_member_follows p sound pass read_arg mark_arg (λ v. v.1) object (walk_of at) (read_of at) (mark_of at) at.1 name args)

  call_made : (x : CallForm-F CallForm Expr Value) (y : CallForm-F Call Part Arg) → bare_call y ≡ x → FollowsCall (roll-CallForm x)
  call_made x y is =
      let P : CallForm-F CallForm Expr Value → Type 0 = λ x. Layer (walks_call x) (reads_call x) (marked_call x) (of_member_layer x) in
      let Q : Calling → Type 0 = λ k. ReadsCall p (of_member_layer x) k (resolving.call_step p.scope (reads_call x)) (marking.call_step p.marks (marked_call x)) in
      let R : resolving.Calling → Type 0 = λ s. ReadsCall p (of_member_layer x) (call_walk p.env (roll-CallForm x)) s (marking.call_step p.marks (marked_call x)) in
      let T : marking.Calling → Type 0 = λ m. ReadsCall p (of_member_layer x) (call_walk p.env (roll-CallForm x)) (call_of p.scope (roll-CallForm x)) m in
      let S : CallForm-F CallForm Expr Value → Type 0 = λ z. ReadsCall p (of_member_layer z) (call_walk p.env (roll-CallForm x)) (call_of p.scope (roll-CallForm x)) (marking.call_of p.marks (roll-CallForm x)) in
      subst S (sym (out-roll-CallForm x))
      (subst T (sym (fold-roll-CallForm marking.Calling marking.Reading marking.Argument (marking.call_step p.marks) (marking.expr_step p.marks) (marking.value_step p.marks) x))
      (subst R (sym (fold-roll-CallForm resolving.Calling Resolving Resolving (resolving.call_step p.scope) (resolving.expr_step p.scope) resolving.value_step x))
      (subst Q (sym (fold-roll-CallForm Calling Reading Argument (call_step p.env) (expr_step p.env) (value_step p.env) x)) (subst P is (call_layer y)))))

  pub expression_follows : (x : Expr) → FollowsExpression x
  expression_follows = ind-Expr FollowsCall FollowsExpression FollowsValue call_made expr_made value_made

  pub value_follows : (v : Value) → FollowsValue v
  value_follows = ind-Value FollowsCall FollowsExpression FollowsValue call_made expr_made value_made

  pub call_follows_all : (c : CallForm) → FollowsCall c
  call_follows_all = ind-CallForm FollowsCall FollowsExpression FollowsValue call_made expr_made value_made
