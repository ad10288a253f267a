-- An assignment of a whole value goes.
use Rattle.std.proofs.Common.{◌≡◌, ℕ, true, not, ◌&&◌, List, [], ◌++◌, Some, None, refl, sym, ap, subst, ◌∙◌}
use Rattle.java_tree.specs.declared.tree.Expr.{Expr}
use Rattle.java_tree.specs.declared.tree.Value.{Value, out-Value}
use Rattle.java_tree.specs.declared.types.ExprType.{ExprType}
use Rattle.java_tree.specs.declared.types.ExprType.TheVariants as expression_type
use Rattle.java_tree.specs.declared.types.Declaration.{Declaration}
use Rattle.java_types.specs.declared.statements.Around.{Around}
use Rattle.java_types.specs.declared.walk.Walk.{Walk}
use Rattle.java_types.specs.Expressions.{Passing, value_walk}
use Rattle.java_types.specs.Fits.{fits, is_vector}
use Rattle.java_types.specs.Simples.{Target, target, put, type_of, is_fresh, is_vector_parameter, assigned_by}
use Rattle.java_types.specs.Walks.{past, noted}
use Rattle.annotations.specs.declared.position.Position.TheVariants.{Whole}
use Rattle.annotations.specs.declared.walk.Walk.{Walk as MarkingWalk}
use Rattle.annotations.specs.Expressions as marking
use Rattle.annotations.specs.Walks as marking_walks
use Rattle.annotations.specs.Walks.{unmerged}
use Rattle.access_blocks.specs.declared.body.Statement.{Statement}
use Rattle.access_blocks.specs.declared.body.Target.TheVariants as target_of
use Rattle.access_blocks.specs.Cursors.{Cursor, Read, name_here, behind_name, variable_of}
use Rattle.access_blocks.specs.Cursors as cursors
use Rattle.access_blocks.specs.ResolvingStatements.{value_to}
use Rattle.typed_bodies.specs.Laws.{ExpressionsAreTyped}
use Rattle.typed_bodies.specs.WholeLaws.{WholesAreTyped}
use Rattle.typed_bodies.specs.StayLaws.{PartsStay}
use Rattle.typed_bodies.specs.Reading.{Place, Adds, Stands, cursor_at}
use Rattle.typed_bodies.proofs.Marking.{past_grows, named_grows}
use Rattle.typed_bodies.proofs.Names.{known_there}
use Rattle.typed_bodies.proofs.Steps.{past_quiet, unbroken}
use Rattle.typed_statements.specs.Points.{Setting, point, IsSoundSomewhere, place_at, IsPoint}
use Rattle.typed_statements.specs.Goes.{Goes}
use Rattle.typed_statements.specs.Leaves.{Stated}
use Rattle.typed_statements.proofs.Adding.{value_adds, stands_along, stands_as}
use Rattle.typed_statements.proofs.Ended.{unmerged_ends, put_steps}
use Rattle.typed_statements.proofs.Fitting.{stands_in, stands_at, Steps, stepping_goes}
use Rattle.typed_statements.proofs.NameRead.{passes_behind, name_read, begins_behind}
use Rattle.typed_statements.proofs.Naming.{not_false, Assignable, target_quiet, name_adds, name_past}
use Rattle.typed_statements.proofs.Steps.{unmerged_merges_none}

-- What is put where a type is wanted fits, where the walk of the rules on types finds nothing.
pub record PutQuietly (wanted : ExprType) (e : Passing) (x : Expr) (at : ℕ) : Type 0 where
  pub same : put wanted e x at ≡ e.walk
  pub fit : fits wanted e.given.found ≡ true
  pub quiet : e.walk.findings ≡ []

pub put_quiet : (wanted : ExprType) (e : Passing) (x : Expr) (at : ℕ) → (put wanted e x at).findings ≡ [] → PutQuietly wanted e x at
unfolding put
put_quiet wanted e x at quiet =
    let n = noted (not (fits wanted e.given.found)) at 7 e.walk in
    let b = unbroken (is_vector wanted && (is_vector e.given.found && not (is_fresh x))) at 10 n quiet in
    let f = unbroken (not (fits wanted e.given.found)) at 7 e.walk b.quiet in
    record { same = b.same ∙ f.same; fit = not_false _ f.holds; quiet = f.quiet }

module _ (expressions : ExpressionsAreTyped) (wholes : WholesAreTyped) (stay : PartsStay) (k : Setting) (there : IsSoundSomewhere k) (a : Around) (name : List ℕ) (v : Value) (w : Walk) (u : MarkingWalk) where
  abbrev t : Target
  t = target k.env w.at name w

  abbrev b : Walk
  b = past k.env 1 t.walk

  abbrev e : Passing
  e = value_walk k.env v b

  abbrev y : Walk
  y = assigned_by None w.at t.variable b.at (out-Value v).expr e

  abbrev passed : MarkingWalk → MarkingWalk
  passed u = marking_walks.past k.marks 1 (marking_walks.named k.marks u)

  abbrev marked : MarkingWalk → MarkingWalk
  marked = (marking.value_of k.marks v).walk Whole

  abbrev x : MarkingWalk
  x = unmerged (marked (passed u))

  record Found : Type 0 where
    target_is : Assignable k.env name w t
    same : y ≡ e.walk
    fit : fits (type_of t.variable) e.given.found ≡ true
    quiet : e.walk.findings ≡ []

  found : y.findings ≡ [] → Found
  found quiet =
      let n = noted (is_vector_parameter t.variable) w.at 10 e.walk in
      let q = put_quiet (type_of t.variable) (record { given = e.given; walk = n }) (out-Value v).expr b.at quiet in
      let r = unbroken (is_vector_parameter t.variable) w.at 10 e.walk q.quiet in
      record {
        target_is = target_quiet k.env w.at name w (past_quiet k.env 1 t.walk (value_adds expressions k there v b r.quiet).no_findings);
        same = q.same ∙ r.same;
        fit = q.fit;
        quiet = r.quiet;
      }

  added : y.findings ≡ [] → Adds w y
  added quiet =
      let f = found quiet in
      subst (Adds w) (sym f.same) (name_adds (name_past k.env 1 f.target_is.adds) (value_adds expressions k there v b f.quiet))

  abbrev reading : Cursor → Read Statement
  reading c = value_to k.scope (target_of.Variable (variable_of c (name_here c))) (cursors.type_of (behind_name c) (variable_of c (name_here c))) v (behind_name c)

  module _ (c : Cursor) (types : List ExprType) (names : List Declaration) (is : IsPoint k (point w u c)) where
    abbrev p : Place
    p = place_at k (point w u c)

    assigned_steps : (f : Found) (adds : Adds w y) → x.findings ≡ [] → Stands p c (adds.types ++ types) (adds.names ++ names) → Steps k w y u x c (reading c) types names (Stated k a)
    assigned_steps f adds quiet stands =
        let it = f.target_is.it in
        let of_method = f.target_is.of_method in
        let end = unmerged_ends (marked (passed u)) quiet in
        let quiet_value = end.moved.back quiet in
        let quiet_name = stay.found_before_value p v Whole (passed u) quiet_value in
        let values = value_adds expressions k there v b f.quiet in
        let s = stands_along p c f.same adds (name_adds (name_past k.env 1 f.target_is.adds) values) types names stands in
        let name_passes = passes_behind p it.declaration of_method in
        let n = name_read k w u c is passed name it (values.types ++ types) (values.names ++ names) (known_there p name w refl f.target_is.is) of_method f.target_is.no_collection name_passes quiet_name s in
        let number = variable_of (cursor_at p) (Some it.declaration) in
        let wanted : type_of t.variable ≡ expression_type.Value n.variable.type = ap type_of f.target_is.found ∙ n.variable.found in
        let puts = wholes.values p is.agree.sound k.around (stands_in k (point w u c) is.agree) (target_of.Variable number) (expression_type.Value n.variable.type) v (n.variable.type, refl, λ no. n.variable.is.typed) b f.quiet
        (ap (λ (z : ExprType). fits z e.given.found) (sym wanted) ∙ f.fit) in
        let known = (name_past k.env 1 f.target_is.adds).same_variables in
        let behind = stands_as p (behind_name c) values puts.added types names n.stands in
        let begins = begins_behind k w u c marked puts.added.names names n (sym n.stands.are_names ∙ behind.are_names) quiet_value in
        let r = value_to k.scope (target_of.Variable number) (expression_type.Value n.variable.type) v (behind_name c) in
        let steps : Steps k w y u x c r types names (Stated k a) =
        put_steps k a w y u c types names is (passed u) (marked (passed u)) x (behind_name c) r (out-Value v).is_global (target_of.Variable number) (expression_type.Value n.variable.type) adds n.passed.stays refl
        (puts.behind known (behind_name c) types names behind) (puts.put known (behind_name c) types names behind Whole refl (passed u) begins) n.variable.below end in
        subst (λ (m : ℕ). Steps k w y u x c (value_to k.scope (target_of.Variable m) (cursors.type_of (behind_name c) m) v (behind_name c)) types names (Stated k a)) (sym n.number)
        (subst (λ (z : ExprType). Steps k w y u x c (value_to k.scope (target_of.Variable number) z v (behind_name c)) types names (Stated k a)) (sym n.type) steps)

  pub assigned_goes : Goes k w y u x reading (Stated k a)
  assigned_goes = stepping_goes k (record {
    back = λ quiet. named_grows k.marks u (past_grows k.marks 1 _ (stay.found_before_value (place_at k there.point) v Whole (passed u) ((unmerged_merges_none (marked (passed u))).moved.back quiet)));
    keeps = λ c. (stay.values_keep k.scope (target_of.Variable (variable_of c (name_here c))) (cursors.type_of (behind_name c) (variable_of c (name_here c))) v (behind_name c)).variables;
    added = added;
    behind = λ quiet quiet_marks c types names is ts ns. assigned_steps c types names is (found quiet) (added quiet) quiet_marks (stands_at k w u c ((added quiet).types ++ types) ((added quiet).names ++ names) ts ns);
  })
