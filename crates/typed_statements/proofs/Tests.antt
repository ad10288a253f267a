-- A condition goes: it is a truth value wherever the variables in scope are known.
use Rattle.std.proofs.Common.{◌≡◌, List, [], ◌++◌, None, refl, sym, ◌∙◌, append-nil}
use Rattle.java_tree.specs.declared.tree.Expr.{Expr}
use Rattle.java_tree.specs.declared.types.ExprType.{ExprType}
use Rattle.java_tree.specs.declared.types.Declaration.{Declaration}
use Rattle.java_types.specs.declared.walk.Walk.{Walk}
use Rattle.java_types.specs.Statements.{condition}
use Rattle.annotations.specs.declared.position.Position.TheVariants.{Inside}
use Rattle.annotations.specs.declared.walk.Walk.{Walk as MarkingWalk}
use Rattle.annotations.specs.Expressions as marking
use Rattle.access_blocks.specs.declared.resolved.Resolved.{Resolved}
use Rattle.access_blocks.specs.Cursors.{Cursor, Read}
use Rattle.access_blocks.specs.Resolving.{expression_of}
use Rattle.typed_bodies.specs.Laws.{ExpressionsAreTyped}
use Rattle.typed_bodies.specs.PartLaws.{PartsAreTyped}
use Rattle.typed_bodies.specs.StayLaws.{PartsStay}
use Rattle.typed_bodies.specs.Parts.{IsPart, Tests}
use Rattle.typed_bodies.specs.Reading.{Place, Adds, Stands}
use Rattle.typed_statements.specs.Points.{Setting, point, IsSoundSomewhere, place_at, IsPoint}
use Rattle.typed_statements.specs.Goes.{Goes}
use Rattle.typed_statements.specs.Leaves.{Tested}
use Rattle.typed_statements.proofs.Adding.{condition_adds, stands_as}
use Rattle.typed_statements.proofs.Fitting.{stands_in, stands_at, begins_at, knows_in_scope, part_moves, Steps, stepping_goes}

module _ (k : Setting) (w v : Walk) (u x : MarkingWalk) (c : Cursor) (r : Read Resolved) (types : List ExprType) (names : List Declaration) where
  abbrev p : Place
  p = place_at k (point w u c)

  tested : Adds w v → Stands p r.cursor types names → IsPart p (Tests p k.around) u x names c r → Steps k w v u x c r types names (Tested k)
  tested a stands part = record {
    moves = part_moves k a part.passed stands;
    sites = [];
    to_sites = part.passed.stays.sites ∙ sym (append-nil u.sites);
    tells = λ more ss. record {
      sites = part.no_sites ∙ ss;
      means = record {
        same_known = a.same_variables;
        same_variables = stands.are_variables;
        same_locals = stands.are_locals;
        same_marks = part.passed.stays.locals;
        awaited = part.passed.stays.awaited;
        holds = λ st knows. part.is st (knows_in_scope p st knows);
      };
    };
  }

module _ (expressions : ExpressionsAreTyped) (parts : PartsAreTyped) (stay : PartsStay) (k : Setting) (there : IsSoundSomewhere k) (test : Expr) (w : Walk) (u : MarkingWalk) where
  abbrev marked : MarkingWalk → MarkingWalk
  marked = marking.inside (marking.expr_of k.marks test)

  test_steps : (quiet : (condition k.env test w).findings ≡ []) → (marked u).findings ≡ [] → (a : Adds w (condition k.env test w)) (c : Cursor) (types : List ExprType) (names : List Declaration) → IsPoint k (point w u c)
      → c.types ≡ a.types ++ types → c.names ≡ a.names ++ names → Steps k w (condition k.env test w) u (marked u) c (expression_of k.scope test c) types names (Tested k)
  test_steps quiet quiet_marks a c types names is ts ns =
      let p = place_at k (point w u c) in
      let r = parts.conditions p is.agree.sound k.around (stands_in k (point w u c) is.agree) test w quiet in
      let stands = stands_as p c a r.added types names (stands_at k w u c (a.types ++ types) (a.names ++ names) ts ns) in
      tested k w (condition k.env test w) u (marked u) c (expression_of k.scope test c) types names a (r.behind refl c types names stands)
      (r.part refl c types names stands u (begins_at k w u c marked r.added.names names is stands.are_names quiet_marks))

  pub test_goes : Goes k w (condition k.env test w) u (marked u) (expression_of k.scope test) (Tested k)
  test_goes = stepping_goes k (record {
    back = λ quiet. stay.found_before (place_at k there.point) test Inside None u quiet;
    keeps = λ c. (stay.expressions_keep k.scope test c).variables;
    added = λ quiet. condition_adds expressions k there test w quiet;
    behind = λ quiet quiet_marks c types names is ts ns. test_steps quiet quiet_marks (condition_adds expressions k there test w quiet) c types names is ts ns;
  })
