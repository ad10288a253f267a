-- An expression that is no call by itself is followed as a whole.
use Rattle.std.proofs.Common.{◌≡◌, ℕ, Bool, true, false, List, [], Option, Some, None, refl, sym, ap, subst, ◌∙◌, inl}
use Rattle.java_tree.specs.declared.tree.CallForm.{CallForm}
use Rattle.java_tree.specs.declared.tree.CallForm.TheOpen.{Expr-F}
use Rattle.java_tree.specs.declared.tree.CallForm.TheOpen as e
use Rattle.java_tree.specs.declared.tree.CallForm.TheFolds.{fold-roll-Expr, map-Expr}
use Rattle.java_tree.specs.declared.tree.Expr.{Expr, out-Expr, roll-out-Expr}
use Rattle.java_tree.specs.declared.tree.Value.{Value}
use Rattle.java_tree.specs.declared.types.ExprType.{ExprType}
use Rattle.java_tree.specs.declared.types.Declaration.{Declaration}
use Rattle.java_types.specs.declared.walk.Walk.{Walk as TypesWalk}
use Rattle.java_types.specs.Expressions.{expr_walk}
use Rattle.annotations.specs.declared.position.Position.{Position}
use Rattle.annotations.specs.declared.position.Position.TheVariants.{Inside, Merged, Whole, Statement, Gathered}
use Rattle.annotations.specs.declared.walk.Env.{Env}
use Rattle.annotations.specs.declared.walk.Walk.{Walk}
use Rattle.annotations.specs.Positions.{is_whole}
use Rattle.annotations.specs.Walks.{noted, noted_at, unexpected}
use Rattle.annotations.specs.Expressions.{Reading, Argument, Calling, parts, unmerged_name, variable, walk_step, call_step, expr_step, value_step, expr_of, value_of, call_of}
use Rattle.access_blocks.specs.declared.resolved.Resolved.{Resolved}
use Rattle.access_blocks.specs.Cursors.{Cursor}
use Rattle.access_blocks.specs.Resolving.{expression_of}
use Rattle.access_blocks.specs.ResolvingStatements.{whole_expression}
use Rattle.typed_bodies.specs.Reading.{Place, IsSound}
use Rattle.typed_bodies.specs.Expressions.{IsFound}
use Rattle.typed_bodies.specs.Marking.{Begins, Passed, is_state}
use Rattle.typed_bodies.specs.Wholes.{StaysPlain}
use Rattle.typed_bodies.proofs.ExpressionsFollow.{expression_follows}
use Rattle.typed_bodies.proofs.Marking.{never_quiet}
use Rattle.typed_bodies.proofs.SitesRead.{expression_sites}
use Rattle.typed_bodies.proofs.ValuesPut.{IsValueRead, ReadsValue}

-- ---- the rules on annotations at a whole

abbrev pub is_call : {C E V : Type 0} → Expr-F C E V → Bool
is_call (e.Call call) = true
is_call _ = false

unexpected_whole : (position : Position) → is_whole position ≡ true → (global : Option ℕ) (u : Walk) → unexpected position global u ≡ noted_at global 10 u
unexpected_whole Inside whole global u = absurd (cc)
unexpected_whole (Merged call merging) whole global u = absurd (cc)
unexpected_whole Whole whole global u = refl
unexpected_whole Statement whole global u = refl
unexpected_whole Gathered whole global u = refl

variable_whole : (env : Env) (position : Position) → is_whole position ≡ true → (global : Option ℕ) (u : Walk) → variable env position global u ≡ variable env Inside None (noted_at global 10 u)
unfolding variable unmerged_name noted
variable_whole env Inside whole global u = absurd (cc)
variable_whole env (Merged call merging) whole global u = absurd (cc)
variable_whole env Whole whole None u = refl
variable_whole env Whole whole (Some at) u = refl
variable_whole env Statement whole None u = refl
variable_whole env Statement whole (Some at) u = refl
variable_whole env Gathered whole None u = refl
variable_whole env Gathered whole (Some at) u = refl

module _ (env : Env) where
  abbrev marked : Expr-F CallForm Expr Value → Expr-F Calling Reading Argument
  marked = map-Expr CallForm Expr Value Calling Reading Argument (call_of env) (expr_of env) (value_of env)

  abbrev IsInside : (Position → Option ℕ → Walk → Walk) → Type 0
  IsInside m = (position : Position) → is_whole position ≡ true → (global : Option ℕ) (u : Walk) → m position global u ≡ m Inside None (noted_at global 10 u)

  parts_inside : (y : Expr-F Calling Reading Argument) (position : Position) → is_whole position ≡ true → (global : Option ℕ) (u : Walk)
      → parts env y (unexpected position global u) ≡ parts env y (noted_at global 10 u)
  parts_inside y position whole global u = ap (λ v. parts env y v) (unexpected_whole position whole global u)

  layer_inside : (y : Expr-F CallForm Expr Value) → is_call y ≡ false → IsInside (walk_step env (marked y))
  layer_inside (e.Conditional test first second) no_call = parts_inside (marked (e.Conditional test first second))
  layer_inside (e.Binary op left right) no_call = parts_inside (marked (e.Binary op left right))
  layer_inside (e.Unary op part) no_call = parts_inside (marked (e.Unary op part))
  layer_inside (e.Cast to part) no_call = parts_inside (marked (e.Cast to part))
  layer_inside (e.Number digits decimal long) no_call = parts_inside (marked (e.Number digits decimal long))
  layer_inside (e.Bool b) no_call = parts_inside (marked (e.Bool b))
  layer_inside (e.Paren inner) no_call = parts_inside (marked (e.Paren inner))
  layer_inside (e.New name size) no_call = parts_inside (marked (e.New name size))
  layer_inside (e.Name name) no_call = variable_whole env
  layer_inside (e.Index name at) no_call = parts_inside (marked (e.Index name at))
  layer_inside (e.Member object name) no_call = parts_inside (marked (e.Member object name))
  layer_inside (e.Call call) no_call = absurd (cc)

  -- what is marked of an expression, by its layer
  pub marked_by : (x : Expr) → expr_of env x ≡ expr_step env (marked (out-Expr x))
  marked_by x = ap (λ (z : Expr). expr_of env z) (sym (roll-out-Expr x)) ∙ fold-roll-Expr Calling Reading Argument (call_step env) (expr_step env) (value_step env) (out-Expr x)

  expression_inside : (x : Expr) → is_call (out-Expr x) ≡ false → IsInside (expr_of env x).walk
  expression_inside x no_call = subst (λ (r : Reading). IsInside r.walk) (sym (marked_by x)) (layer_inside (out-Expr x) no_call)

-- ---- what is read of it

module _ (p : Place) (sound : IsSound p) (x : Expr) (no_call : is_call (out-Expr x) ≡ false) where
  abbrev m : Position → Option ℕ → Walk → Walk
  m = (expr_of p.marks x).walk

  stays_plain : (found : ExprType) (names rest : List Declaration) (r : Resolved) (position : Position) → IsFound p found (expr_of p.marks x) names r → is_state found ≡ false → is_whole position ≡ true → (global : Option ℕ) (u : Walk)
      → Begins p (m position global) names u rest → StaysPlain p global names rest u (m position global u)
  stays_plain found names rest r position is value whole (Some at) u b =
      absurd (never_quiet at 10 u (is.marked.grows Inside None _ (ap (λ (v : Walk). v.findings) (sym (expression_inside p.marks x no_call position whole (Some at) u)) ∙ b.quiet)))
  stays_plain found names rest r position is value whole None u b =
      let same = expression_inside p.marks x no_call position whole None u in
      let begins : Begins p (m Inside None) names u rest = record { agrees = b.agrees; before = b.before; quiet = ap (λ (v : Walk). v.findings) (sym same) ∙ b.quiet } in
      record {
        passed = subst (λ (v : Walk). Passed p u v rest) (sym same) (is.marked.inside.passed u rest begins);
        plain = is.marked.inside.plain u rest begins value;
        local = refl;
      }

  plain_read : (found : ExprType) (names rest : List Declaration) (c : Cursor) → is_state found ≡ false → IsFound p found (expr_of p.marks x) names (expression_of p.scope x c).it
      → IsValueRead p found (λ from. from ≡ found) m names rest c (whole_expression (expression_of p.scope x c))
  plain_read found names rest c value is = record {
    start = c;
    alike = record { names = refl; sites = refl; variables = refl; locals = refl };
    between = expression_sites p.scope x c;
    sited = λ a same. absurd (cc);
    from = is.same;
    grows = λ position whole global u quiet. is.marked.grows position global u quiet;
    whole = λ position whole global u b. (position, inl (stays_plain found names rest (expression_of p.scope x c).it position is value whole global u b));
    plain = record { typed = is.typed; within = is.within; no_access = λ plain. refl };
  }

  pub plain_reads : (w : TypesWalk) → (expr_walk p.env x false w).walk.findings ≡ [] → is_state (expr_walk p.env x false w).found ≡ false
      → ReadsValue p (expr_walk p.env x false w).found (λ from. from ≡ (expr_walk p.env x false w).found) m w (expr_walk p.env x false w).walk (λ c. whole_expression (expression_of p.scope x c))
  plain_reads w quiet value =
      let f = expression_follows p sound x false w quiet in
      record {
        added = f.added;
        behind = λ known c types names stand. (f.in_step known c types names stand).behind;
        value = λ known c types names stand. plain_read (expr_walk p.env x false w).found f.added.names names c value (f.in_step known c types names stand).fits;
      }
