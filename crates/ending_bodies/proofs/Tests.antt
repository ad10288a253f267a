-- A test that is the constant `true` to the rules on the flow is so as it is resolved.
use Rattle.std.proofs.Common.{◌≡◌, true, false, Option, Some, ◌∙◌}
use Rattle.java_tree.specs.declared.tree.Expr.{Expr}
use Rattle.java_types.specs.declared.walk.Walk.{Walk}
use Rattle.java_types.specs.Expressions.{expr_walk}
use Rattle.java_types.specs.Statements.{condition}
use Rattle.annotations.specs.declared.walk.Walk.{Walk as MarkingWalk}
use Rattle.annotations.specs.Expressions as marking
use Rattle.java_flow.specs.Constants.{is_true}
use Rattle.java_flow.specs.Expressions.{judged}
use Rattle.java_flow.specs.Statements.{header_test}
use Rattle.access_blocks.specs.declared.body.Expression.{Expression}
use Rattle.access_blocks.specs.declared.resolved.Resolved.{Resolved}
use Rattle.access_blocks.specs.Cursors.{Cursor}
use Rattle.access_blocks.specs.Resolving.{expression_of}
use Rattle.body_code.specs.Completing.{goes_on}
use Rattle.resolved_constants.specs.Laws.{TestsAreKept}
use Rattle.typed_bodies.specs.Reading.{Place}
use Rattle.typed_bodies.proofs.Steps.{unbroken, follows_noted}
use Rattle.typed_statements.specs.Leaves.{LeavesGo}
use Rattle.typed_statements.specs.Goes.{Goes}
use Rattle.typed_statements.specs.Points.{Setting, IsSoundSomewhere, point, place_at}
use Rattle.ending_bodies.proofs.Meaning.{Fact, StandsAt, goes_with, fits_there}

abbrev pub IsTrueToo : Option Expr → Option Expression → Type 0
IsTrueToo test resolved = (header_test test).is_true ≡ true → goes_on resolved ≡ true

module _ (kept : TestsAreKept) (k : Setting) (test : Expr) (w : Walk) (u x : MarkingWalk) (c : Cursor) (s : StandsAt k w (condition k.env test w) u x c) where
  abbrev p : Place
  p = place_at k (point w u c)

  kept_there : goes_on (Some (expression_of k.scope test c).it.expression) ≡ is_true (judged test).constant
  unfolding condition
  kept_there =
      let t = expr_walk k.env test false w in
      let n = unbroken _ w.at 8 t.walk s.quiet in
      fits_there k c s (follows_noted p n (kept p s.is_point.agree.sound test false w n.quiet))

  pub true_there : IsTrueToo (Some test) (Some (expression_of k.scope test c).it.expression)
  true_there e = kept_there ∙ e

pub test_goes : LeavesGo → TestsAreKept → (k : Setting) → IsSoundSomewhere k → (test : Expr) (w : Walk) (u : MarkingWalk)
    → Goes k w (condition k.env test w) u (marking.inside (marking.expr_of k.marks test) u) (expression_of k.scope test) (Fact (λ r. IsTrueToo (Some test) (Some r.expression)))
test_goes leaves kept k sound test w u =
    goes_with k (λ (r : Resolved). IsTrueToo (Some test) (Some r.expression)) (λ c s. true_there kept k test w u _ c s) (leaves.tests k sound test w u)
