-- A call that stands alone goes.
use Rattle.std.proofs.Common.{◌≡◌, Bool, List, [], ◌++◌, refl}
use Rattle.java_tree.specs.declared.tree.CallForm.{CallForm}
use Rattle.java_tree.specs.declared.types.ExprType.{ExprType}
use Rattle.java_tree.specs.declared.types.ExprType.TheVariants.{Unknown}
use Rattle.java_tree.specs.declared.types.Declaration.{Declaration}
use Rattle.java_types.specs.declared.statements.Around.{Around}
use Rattle.java_types.specs.declared.walk.Walk.{Walk}
use Rattle.java_types.specs.Simples.{call_alone}
use Rattle.annotations.specs.declared.position.Position.TheVariants.{Statement as AsStatement}
use Rattle.annotations.specs.declared.walk.Walk.{Walk as MarkingWalk}
use Rattle.annotations.specs.Simples as marking_simples
use Rattle.annotations.specs.Walks.{past_if, token_if, unmerged}
use Rattle.access_blocks.specs.declared.body.Target.TheVariants.{Dropped}
use Rattle.access_blocks.specs.Cursors.{Cursor}
use Rattle.access_blocks.specs.ResolvingStatements.{called_alone}
use Rattle.typed_bodies.specs.Laws.{ExpressionsAreTyped}
use Rattle.typed_bodies.specs.WholeLaws.{WholesAreTyped}
use Rattle.typed_bodies.specs.StayLaws.{PartsStay}
use Rattle.typed_bodies.specs.Reading.{Adds, Stands}
use Rattle.typed_bodies.proofs.Marking.{past_if_grows, stays_all}
use Rattle.typed_statements.specs.Points.{Setting, point, IsSoundSomewhere, place_at, IsPoint}
use Rattle.typed_statements.specs.Goes.{Goes}
use Rattle.typed_statements.specs.Leaves.{Stated}
use Rattle.typed_statements.proofs.Adding.{call_adds, stands_as}
use Rattle.typed_statements.proofs.Ended.{unmerged_ends, put_steps}
use Rattle.typed_statements.proofs.Fitting.{stands_in, stands_at, begins_at, Steps, stepping_goes}
use Rattle.typed_statements.proofs.Steps.{unmerged_merges_none}

module _ (expressions : ExpressionsAreTyped) (wholes : WholesAreTyped) (stay : PartsStay) (k : Setting) (there : IsSoundSomewhere k) (a : Around) (is_global : Bool) (call : CallForm) (w : Walk) (u : MarkingWalk) where
  abbrev v : Walk
  v = call_alone k.env is_global call w

  abbrev marked : MarkingWalk → MarkingWalk
  marked u = marking_simples.call_alone k.marks is_global call u

  abbrev x : MarkingWalk
  x = unmerged (marked u)

  call_steps : (quiet : v.findings ≡ []) → x.findings ≡ [] → (adds : Adds w v) (c : Cursor) (types : List ExprType) (names : List Declaration) → IsPoint k (point w u c)
      → Stands (place_at k (point w u c)) c (adds.types ++ types) (adds.names ++ names) → Steps k w v u x c (called_alone k.scope is_global call c) types names (Stated k a)
  call_steps quiet quiet_marks adds c types names is stands =
      let p = place_at k (point w u c) in
      let end = unmerged_ends (marked u) quiet_marks in
      let puts = wholes.calls p is.agree.sound k.around (stands_in k (point w u c) is.agree) is_global call w quiet in
      let s = stands_as p c adds puts.added types names stands in
      put_steps k a w v u c types names is u (marked u) x c (called_alone k.scope is_global call c) is_global Dropped Unknown adds (stays_all u) refl (puts.behind refl c types names s)
      (puts.put refl c types names s AsStatement refl u (begins_at k w u c marked puts.added.names names is s.are_names (end.moved.back quiet_marks))) tt end

  pub call_goes : Goes k w v u x (called_alone k.scope is_global call) (Stated k a)
  call_goes = stepping_goes k (record {
    back = λ quiet.
        past_if_grows k.marks is_global 2 u
        (stay.found_before_call (place_at k there.point) call AsStatement (token_if is_global u.at) (past_if k.marks is_global 2 u) ((unmerged_merges_none (marked u)).moved.back quiet));
    keeps = λ c. (stay.calls_keep k.scope is_global call c).variables;
    added = λ quiet. call_adds expressions k there is_global call w quiet;
    behind = λ quiet quiet_marks c types names is ts ns.
        let adds = call_adds expressions k there is_global call w quiet in
        call_steps quiet quiet_marks adds c types names is (stands_at k w u c (adds.types ++ types) (adds.names ++ names) ts ns);
  })
