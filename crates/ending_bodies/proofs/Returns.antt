-- What a `return` is resolved to stops, where no rule has a finding in it.
use Rattle.std.proofs.Common.{◌≡◌, ℕ, Bool, false, List, [], drop, slice_get, is_some, unwrap_or, Option, Some, None, refl, sym, ap, subst, ◌∙◌}
use Rattle.java_tree.specs.declared.tree.CallForm.{CallForm}
use Rattle.java_tree.specs.declared.tree.CallForm.TheOpen.{Expr-F, Value-F}
use Rattle.java_tree.specs.declared.tree.CallForm.TheOpen as e
use Rattle.java_tree.specs.declared.tree.CallForm.TheFolds.{fold-roll-Expr, fold-roll-Value, map-Expr}
use Rattle.java_tree.specs.declared.tree.Expr.{Expr, out-Expr, roll-out-Expr}
use Rattle.java_tree.specs.declared.tree.Value.{Value, out-Value, roll-out-Value}
use Rattle.java_tree.specs.declared.types.ExprType.{ExprType}
use Rattle.java_types.specs.declared.statements.Around.{Around}
use Rattle.java_types.specs.declared.walk.Walk.{Walk}
use Rattle.java_types.specs.Expressions.{Reading, Argument, Calling, Passing, passing, expr_step, value_step, call_step, expr_walk, value_walk, call_walk}
use Rattle.java_types.specs.Fits.{is_void}
use Rattle.java_types.specs.Statements.{returned_value, returned}
use Rattle.java_types.specs.Walks.{past, past_if, noted}
use Rattle.annotations.specs.declared.position.Position.TheVariants.{Whole}
use Rattle.annotations.specs.declared.walk.Walk.{Walk as MarkingWalk}
use Rattle.annotations.specs.Expressions as marking
use Rattle.annotations.specs.Statements as marking_statements
use Rattle.annotations.specs.Walks as marks
use Rattle.access_blocks.specs.declared.body.Target.TheVariants as target
use Rattle.access_blocks.specs.declared.resolved.Invoked.{Invoked}
use Rattle.access_blocks.specs.declared.resolved.Invoked.TheVariants as invoked
use Rattle.access_blocks.specs.declared.resolved.Whole.{Whole as ReadWhole}
use Rattle.access_blocks.specs.Cursors.{Cursor, Read}
use Rattle.access_blocks.specs.Resolving.{wanted_by}
use Rattle.access_blocks.specs.ResolvingStatements.{given_to, whole_in, return_of}
use Rattle.typed_bodies.specs.Marking.{Agrees, Begins}
use Rattle.typed_bodies.specs.Reading.{Place, Follows}
use Rattle.typed_bodies.proofs.PlainValues.{marked_by}
use Rattle.typed_bodies.proofs.Steps.{unbroken, past_quiet, follows_noted, follows_past, noted_follows, past_follows, past_if_follows}
use Rattle.typed_statements.specs.Goes.{Goes}
use Rattle.typed_statements.specs.Leaves.{LeavesGo}
use Rattle.typed_statements.specs.Points.{Setting, IsSoundSomewhere, point, place_at}
use Rattle.typed_statements.proofs.Fitting.{agrees_at}
use Rattle.typed_statements.proofs.Going.{Unmoved}
use Rattle.typed_statements.proofs.Steps.{past_unmoved, unmerged_merges_none, past_if_unmoved}
use Rattle.ending_bodies.proofs.Meaning.{Fact, StandsAt, stands_inside, goes_with, stands_before, fits_there}
use Rattle.ending_bodies.proofs.Resolved.{Stops, return_is, returned_stops}
use Rattle.ending_bodies.proofs.ReturnedCalls.{IsReturned, IsValueCall, call_returned, value_follows}

-- ---- what is invoked

invoked_stops : (is_global : Bool) (wanted found : ExprType) (i : Invoked) → IsReturned is_global i → Stops (given_to is_global target.Returned wanted found i)
invoked_stops is_global wanted found (invoked.Value a) is = return_is _
invoked_stops is_global wanted found (invoked.Sets v at a) is = absurd is
invoked_stops is_global wanted found (invoked.Accesses a) local =
    subst (λ (g : Bool). Stops (given_to g target.Returned wanted found (invoked.Accesses a))) (sym local) (returned_stops wanted found (invoked.Accesses a) tt)

-- ---- where it stands

-- ---- a value that is a call

module _ (k : Setting) (wanted : ExprType) (v : Value) (call : CallForm) (is_call : out-Expr (out-Value v).expr ≡ e.Call call) where
  abbrev x : Expr
  x = (out-Value v).expr

  abbrev is_global : Bool
  is_global = (out-Value v).is_global

  abbrev walks : Expr-F CallForm Expr Value → Expr-F Calling Reading Argument
  walks = map-Expr CallForm Expr Value Calling Reading Argument (call_walk k.env) (expr_walk k.env) (value_walk k.env)

  abbrev marked : Expr-F CallForm Expr Value → Expr-F marking.Calling marking.Reading marking.Argument
  marked = map-Expr CallForm Expr Value marking.Calling marking.Reading marking.Argument (marking.call_of k.marks) (marking.expr_of k.marks) (marking.value_of k.marks)

  expression_walked : expr_walk k.env x ≡ expr_step k.env (walks (e.Call call))
  expression_walked =
      ap (λ (z : Expr). expr_walk k.env z) (sym (roll-out-Expr x)) ∙ fold-roll-Expr Calling Reading Argument (call_step k.env) (expr_step k.env) (value_step k.env) (out-Expr x)
      ∙ ap (λ y. expr_step k.env (walks y)) is_call

  -- the walk of the rules on types, from before the value on
  value_walked : (w : Walk) → value_walk k.env v w ≡ passing is_global (expr_step k.env (walks (e.Call call)) false (past_if k.env is_global 2 w))
  value_walked w =
      ap (λ (z : Value). value_walk k.env z w) (sym (roll-out-Value v))
      ∙ ap (λ (a : Argument). a w) (fold-roll-Value Calling Reading Argument (call_step k.env) (expr_step k.env) (value_step k.env) (out-Value v))
      ∙ ap (λ (r : Reading). passing is_global (r false (past_if k.env is_global 2 w))) expression_walked

  -- that of the rules on annotations
  value_marked : (u : MarkingWalk) → (marking.value_of k.marks v).walk Whole u ≡ marking.call_of k.marks call Whole (marks.token_if is_global u.at) (marks.past_if k.marks is_global 2 u)
  value_marked u =
      ap (λ (z : Value). (marking.value_of k.marks z).walk Whole u) (sym (roll-out-Value v))
      ∙ ap (λ (a : marking.Argument). a.walk Whole u)
      (fold-roll-Value marking.Calling marking.Reading marking.Argument (marking.call_step k.marks) (marking.expr_step k.marks) (marking.value_step k.marks) (out-Value v))
      ∙ ap (λ (r : marking.Reading). r.walk Whole (marks.token_if is_global u.at) (marks.past_if k.marks is_global 2 u))
      (marked_by k.marks x ∙ ap (λ y. marking.expr_step k.marks (marked y)) is_call)

  module _ (w : Walk) (u : MarkingWalk) (c : Cursor) (s : StandsAt k w (returned k.env wanted (Some v) w) u (marking_statements.returned k.marks (Some v) u) c) where
    abbrev p : Place
    p = place_at k (point w u c)

    abbrev before : Walk
    before = noted (is_void wanted) w.at 12 (past k.env 1 w)

    abbrev inside : Walk
    inside = past_if k.env is_global 2 before

    abbrev at_value : MarkingWalk
    at_value = marks.past k.marks 1 u

    abbrev reading : Cursor → Read ReadWhole
    reading = whole_in k.scope x (e.Call call)

    behind_follows : (made : Passing) → (past k.env 1 (returned_value k.env wanted v before.at made)).findings ≡ []
        → (made.walk.findings ≡ [] → Follows p before made.walk reading (IsValueCall p call inside))
        → Follows p w (past k.env 1 (returned_value k.env wanted v before.at made)) reading (IsValueCall p call inside)
    behind_follows made quiet follows =
        let last = unbroken _ before.at 10 (noted _ before.at 7 made.walk) (past_quiet k.env 1 _ quiet) in
        let first = unbroken _ before.at 7 made.walk last.quiet in
        let f = follows first.quiet in
        let start = unbroken (is_void wanted) w.at 12 (past k.env 1 w) f.added.no_findings in
        follows_past p k.env 1 (follows_noted p last (follows_noted p first (past_follows p k.env 1 (noted_follows p start f))))

    value_read : (value_walk k.env v before).walk.findings ≡ [] → Follows p before (value_walk k.env v before).walk reading (IsValueCall p call inside)
    value_read quiet =
        subst (λ (made : Passing). Follows p before made.walk reading (IsValueCall p call inside)) (sym (value_walked before))
        (past_if_follows p k.env is_global 2 (value_follows p s.is_point.agree.sound call inside (ap (λ (made : Passing). made.walk.findings) (sym (value_walked before)) ∙ quiet)))

    all_follows : Follows p w (returned k.env wanted (Some v) w) reading (IsValueCall p call inside)
    unfolding returned
    all_follows = behind_follows (value_walk k.env v before) s.quiet value_read

    to_value : Unmoved u (marks.past_if k.marks is_global 2 at_value)
    to_value =
        let a = past_unmoved k.marks 1 u in
        let b = past_if_unmoved k.marks is_global 2 at_value in
        record {
          back = λ q. a.back (b.back q);
          used = b.used ∙ a.used;
          in_entry = b.in_entry ∙ a.in_entry;
          locals = b.locals ∙ a.locals;
          awaited = λ q. b.awaited q ∙ a.awaited (b.back q);
          sites = b.sites ∙ a.sites;
        }

    abbrev called : MarkingWalk → MarkingWalk
    called = marking.call_of k.marks call Whole (marks.token_if is_global at_value.at)

    call_quiet : (called (marks.past_if k.marks is_global 2 at_value)).findings ≡ []
    call_quiet = ap (λ (z : MarkingWalk). z.findings) (sym (value_marked at_value)) ∙ (past_unmoved k.marks 1 _).back s.quiet_marks

    agree : Agrees p (marks.past_if k.marks is_global 2 at_value)
    agree n = ap (λ (ls : List (Option ℕ)). is_some (unwrap_or (slice_get ls n) None)) to_value.locals ∙ agrees_at k (point w u c) n

    begins : Begins p called all_follows.added.names (marks.past_if k.marks is_global 2 at_value) s.names
    begins = record {
      agrees = agree;
      before = ap (λ i. drop i k.marks.names) to_value.used ∙ (s.is_point.names ∙ stands_before k c s all_follows);
      quiet = call_quiet;
    }

    pub call_stops : Stops (given_to is_global target.Returned wanted (reading c).it.found (reading c).it.invoked)
    call_stops =
        let fits = fits_there k c s all_follows in
        invoked_stops is_global wanted (reading c).it.found (reading c).it.invoked
        (call_returned p is_global at_value.at call _ fits.0 all_follows.added.names s.names (marks.past_if k.marks is_global 2 at_value) (reading c).it.invoked fits.1 begins)

-- ---- any value

module _ (k : Setting) (wanted : ExprType) (v : Value) (w : Walk) (u : MarkingWalk) (c : Cursor) (s : StandsAt k w (returned k.env wanted (Some v) w) u (marking_statements.returned k.marks (Some v) u) c) where
  abbrev at_layer : Expr-F CallForm Expr Value → Type 0
  at_layer y = let r = (whole_in k.scope (out-Value v).expr y c).it in Stops (given_to (out-Value v).is_global target.Returned wanted r.found r.invoked)

  by_layer : (y : Expr-F CallForm Expr Value) → out-Expr (out-Value v).expr ≡ y → at_layer y
  by_layer (e.Call call) is = call_stops k wanted v call is w u c s
  by_layer (e.Conditional test first second) is = return_is _
  by_layer (e.Binary op left right) is = return_is _
  by_layer (e.Unary op part) is = return_is _
  by_layer (e.Cast to part) is = return_is _
  by_layer (e.Number digits decimal long) is = return_is _
  by_layer (e.Bool b) is = return_is _
  by_layer (e.Paren inner) is = return_is _
  by_layer (e.New name size) is = return_is _
  by_layer (e.Name name) is = return_is _
  by_layer (e.Index name at) is = return_is _
  by_layer (e.Member object name) is = return_is _

  pub value_stops : Stops (return_of k.scope wanted (Some v) c).it
  value_stops = by_layer (out-Expr (out-Value v).expr) refl

returned_stops_there : (k : Setting) (wanted : ExprType) (v : Option Value) (w : Walk) (u : MarkingWalk) (c : Cursor) → StandsAt k w (returned k.env wanted v w) u (marking_statements.returned k.marks v u) c
    → Stops (return_of k.scope wanted v c).it
returned_stops_there k wanted None w u c s = return_is None
returned_stops_there k wanted (Some v) w u c s = value_stops k wanted v w u c s

pub return_goes : LeavesGo → (k : Setting) → IsSoundSomewhere k → (v : Option Value) (a : Around) (w : Walk) (u : MarkingWalk) → a.result ≡ wanted_by k.around.result
    → Goes k w (returned k.env a.result v w) u (marks.unmerged (marking_statements.returned k.marks v u)) (return_of k.scope (wanted_by k.around.result) v) (Fact Stops)
return_goes leaves k sound v a w u same =
    goes_with k Stops (λ c s. returned_stops_there k (wanted_by k.around.result) v w u c
    (subst (λ (t : ExprType). StandsAt k w (returned k.env t v w) u (marking_statements.returned k.marks v u) c) same
    (stands_inside k c (unmerged_merges_none (marking_statements.returned k.marks v u)).moved.back s))) (leaves.returns k sound v a w u same)
