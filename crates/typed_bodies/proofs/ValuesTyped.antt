-- A value in which no rule has a finding, and that fits where it goes, is read as a statement that is typed.
use Rattle.std.proofs.Common.{◌≡◌, ℕ, Bool, true, false, ◌&&◌, [], length, refl, sym, ap, subst, ◌∙◌}
use Rattle.java_tree.specs.declared.tree.CallForm.{CallForm}
use Rattle.java_tree.specs.declared.tree.CallForm.TheOpen.{Expr-F, Value-F}
use Rattle.java_tree.specs.declared.tree.CallForm.TheOpen as e
use Rattle.java_tree.specs.declared.tree.CallForm.TheFolds.{fold-roll-Expr, map-Expr}
use Rattle.java_tree.specs.declared.tree.Expr.{Expr, out-Expr, roll-out-Expr}
use Rattle.java_tree.specs.declared.tree.Value.{Value}
use Rattle.java_types.specs.declared.walk.Walk.{Walk as TypesWalk}
use Rattle.java_types.specs.Expressions.{Reading, Argument, Calling, typed, expr_step, value_step, call_step, expr_walk, value_walk, call_walk}
use Rattle.java_types.specs.Fits.{is_void, unless}
use Rattle.java_types.specs.Walks.{Typing, noted, opened, used}
use Rattle.annotations.specs.declared.position.Position.{Position}
use Rattle.annotations.specs.declared.position.Position.TheVariants as position
use Rattle.annotations.specs.declared.walk.Walk.{Walk}
use Rattle.annotations.specs.Positions.{is_whole}
use Rattle.annotations.specs.Walks.{unfit}
use Rattle.annotations.specs.Expressions as marking
use Rattle.access_blocks.specs.declared.resolved.Whole.{Whole}
use Rattle.access_blocks.specs.Cursors.{Cursor, Read}
use Rattle.access_blocks.specs.ResolvingStatements.{whole_in}
use Rattle.typed_bodies.specs.Reading.{Place, IsSound}
use Rattle.typed_bodies.specs.Expressions.{is_of_member}
use Rattle.typed_bodies.specs.Marking.{is_state}
use Rattle.typed_bodies.proofs.CallValues.{call_reads}
use Rattle.typed_bodies.proofs.ExpressionsFollow.{closed_quiet}
use Rattle.typed_bodies.proofs.PlainValues.{is_call, marked_by, plain_reads}
use Rattle.typed_bodies.proofs.Steps.{unbroken}
use Rattle.typed_bodies.proofs.ValuesPut.{ReadsValue}

-- ---- a call that is a value

-- a call that is used has a value
record IsUsed (at : ℕ) (t : Typing) : Type 0 where
  same : used at t ≡ t
  value : is_void t.found ≡ false
  quiet : t.walk.findings ≡ []

used_by : (at : ℕ) (t : Typing) (b : Bool) → is_void t.found ≡ b → (used at t).walk.findings ≡ [] → IsUsed at t
unfolding used noted
used_by at t true is quiet =
    let u = unbroken (is_void t.found) at 7 t.walk quiet in let h : true ≡ false = sym is ∙ u.holds in absurd (cc)
used_by at t false is quiet =
    let u = unbroken (is_void t.found) at 7 t.walk quiet in
    record { same = ap (λ b. record { found = unless b t.found; walk = noted b at 7 t.walk }) is; value = is; quiet = u.quiet }

is_used : (at : ℕ) (t : Typing) → (used at t).walk.findings ≡ [] → IsUsed at t
is_used at t quiet = used_by at t (is_void t.found) refl quiet

not_both : (a b : Bool) → b ≡ false → (a && b) ≡ false
not_both true b e = e
not_both false b e = refl

whole_fit : (q : Position) → is_whole q ≡ true → (u : Walk) → unfit q u ≡ u
whole_fit position.Inside whole u = refl
whole_fit (position.Merged call merging) whole u = absurd (cc)
whole_fit position.Whole whole u = refl
whole_fit position.Statement whole u = refl
whole_fit position.Gathered whole u = refl

module _ (p : Place) (sound : IsSound p) (x : Expr) where
  -- the reading of an expression as a value
  abbrev Reads : Typing → TypesWalk → (Cursor → Read Whole) → Type 0
  Reads t w reading = ReadsValue p t.found (λ from. from ≡ t.found) (marking.expr_of p.marks x).walk w t.walk reading

  abbrev walks : Expr-F CallForm Expr Value → Expr-F Calling Reading Argument
  walks = map-Expr CallForm Expr Value Calling Reading Argument (call_walk p.env) (expr_walk p.env) (value_walk p.env)

  walked_by : expr_walk p.env x ≡ expr_step p.env (walks (out-Expr x))
  walked_by = ap (λ (z : Expr). expr_walk p.env z) (sym (roll-out-Expr x)) ∙ fold-roll-Expr Calling Reading Argument (call_step p.env) (expr_step p.env) (value_step p.env) (out-Expr x)

  call_value : (call : CallForm) → out-Expr x ≡ e.Call call → (w : TypesWalk) → (typed w (used (opened w).at (call_walk p.env call (opened w)))).walk.findings ≡ []
      → Reads (typed w (used (opened w).at (call_walk p.env call (opened w)))) w (whole_in p.scope x (e.Call call))
  call_value call is w quiet =
      let t = call_walk p.env call (opened w) in
      let u = is_used (opened w).at t (closed_quiet (length w.types) _ _ quiet) in
      let mark : marking.expr_of p.marks x ≡ marking.expr_step p.marks (e.Call (marking.call_of p.marks call)) =
      marked_by p.marks x ∙ ap (λ y. marking.expr_step p.marks (marked_layer y)) is in
      subst (λ (v : Typing). Reads (typed w v) w (whole_in p.scope x (e.Call call))) (sym u.same)
      (call_reads p sound call w (λ found. found) (λ from. from ≡ t.found) (marking.expr_of p.marks x).walk
      (λ q whole. (q, whole, λ global u. ap (λ (r : marking.Reading). r.walk q global u) mark ∙ ap (λ v. marking.call_of p.marks call q global v) (whole_fit q whole u)))
      refl u.quiet (not_both (is_of_member call) (is_void t.found) u.value))
    where
      marked_layer : Expr-F CallForm Expr Value → Expr-F marking.Calling marking.Reading marking.Argument
      marked_layer = map-Expr CallForm Expr Value marking.Calling marking.Reading marking.Argument (marking.call_of p.marks) (marking.expr_of p.marks) (marking.value_of p.marks)

  -- ---- any expression

  by_layer : (w : TypesWalk) (y : Expr-F CallForm Expr Value) → out-Expr x ≡ y → (expr_walk p.env x false w).walk.findings ≡ [] → is_state (expr_walk p.env x false w).found ≡ false
      → Reads (expr_walk p.env x false w) w (whole_in p.scope x y)
  by_layer w (e.Call call) is quiet no_state =
      let same : expr_walk p.env x false w ≡ typed w (used (opened w).at (call_walk p.env call (opened w))) =
      ap (λ (r : Reading). r false w) walked_by ∙ ap (λ y. expr_step p.env (walks y) false w) is in
      subst (λ (t : Typing). Reads t w (whole_in p.scope x (e.Call call))) (sym same) (call_value call is w (ap (λ (t : Typing). t.walk.findings) (sym same) ∙ quiet))
  by_layer w (e.Conditional test first second) is quiet no_state = plain_reads p sound x (ap is_call is) w quiet no_state
  by_layer w (e.Binary op left right) is quiet no_state = plain_reads p sound x (ap is_call is) w quiet no_state
  by_layer w (e.Unary op part) is quiet no_state = plain_reads p sound x (ap is_call is) w quiet no_state
  by_layer w (e.Cast to part) is quiet no_state = plain_reads p sound x (ap is_call is) w quiet no_state
  by_layer w (e.Number digits decimal long) is quiet no_state = plain_reads p sound x (ap is_call is) w quiet no_state
  by_layer w (e.Bool b) is quiet no_state = plain_reads p sound x (ap is_call is) w quiet no_state
  by_layer w (e.Paren inner) is quiet no_state = plain_reads p sound x (ap is_call is) w quiet no_state
  by_layer w (e.New name size) is quiet no_state = plain_reads p sound x (ap is_call is) w quiet no_state
  by_layer w (e.Name name) is quiet no_state = plain_reads p sound x (ap is_call is) w quiet no_state
  by_layer w (e.Index name at) is quiet no_state = plain_reads p sound x (ap is_call is) w quiet no_state
  by_layer w (e.Member object name) is quiet no_state = plain_reads p sound x (ap is_call is) w quiet no_state

  pub expression_reads : (w : TypesWalk) → (expr_walk p.env x false w).walk.findings ≡ [] → is_state (expr_walk p.env x false w).found ≡ false
      → Reads (expr_walk p.env x false w) w (whole_in p.scope x (out-Expr x))
  expression_reads w quiet no_state = by_layer w (out-Expr x) refl quiet no_state
