-- A compound assignment goes.
use Rattle.std.proofs.Common.{◌≡◌, ℕ, List, [], ◌++◌, Some, refl, sym, ap, subst, ◌∙◌}
use Rattle.sdg_base.specs.declared.operator.BinOp.{BinOp}
use Rattle.java_tree.specs.declared.tree.AssignOp.{AssignOp}
use Rattle.java_tree.specs.declared.tree.Value.{Value}
use Rattle.java_tree.specs.declared.types.ExprType.{ExprType}
use Rattle.java_tree.specs.declared.types.ExprType.TheVariants as expression_type
use Rattle.java_tree.specs.declared.types.Declaration.{Declaration}
use Rattle.java_types.specs.declared.expressions.Operand.{Operand}
use Rattle.java_types.specs.declared.statements.Around.{Around}
use Rattle.java_types.specs.declared.walk.Walk.{Walk}
use Rattle.java_types.specs.Expressions.{Passing, operated, value_walk}
use Rattle.java_types.specs.Fits.{sort_of}
use Rattle.java_types.specs.Simples.{Target, target, type_of, operator_of}
use Rattle.java_types.specs.Walks.{past}
use Rattle.annotations.specs.declared.position.Position.TheVariants.{Inside}
use Rattle.annotations.specs.declared.walk.Walk.{Walk as MarkingWalk}
use Rattle.annotations.specs.Expressions as marking
use Rattle.annotations.specs.Walks as marking_walks
use Rattle.annotations.specs.Walks.{unmerged}
use Rattle.access_blocks.specs.declared.body.Statement.{Statement}
use Rattle.access_blocks.specs.Cursors.{Cursor, Read, name_here, behind_name, variable_of}
use Rattle.access_blocks.specs.ResolvingStatements.{compound}
use Rattle.typed_bodies.specs.Laws.{ExpressionsAreTyped}
use Rattle.typed_bodies.specs.PartLaws.{PartsAreTyped}
use Rattle.typed_bodies.specs.StayLaws.{PartsStay}
use Rattle.typed_bodies.specs.Reading.{Place, Adds, Stands, cursor_at}
use Rattle.typed_bodies.proofs.Layers.{goes}
use Rattle.typed_bodies.proofs.Marking.{past_grows, named_grows}
use Rattle.typed_bodies.proofs.Names.{known_there}
use Rattle.typed_bodies.proofs.Steps.{past_quiet}
use Rattle.typed_statements.specs.Points.{Setting, point, IsSoundSomewhere, place_at, IsPoint}
use Rattle.typed_statements.specs.Goes.{Goes}
use Rattle.typed_statements.specs.Leaves.{Stated}
use Rattle.typed_statements.proofs.Adding.{value_adds, stands_along}
use Rattle.typed_statements.proofs.Ended.{unmerged_ends, change_steps}
use Rattle.typed_statements.proofs.Fitting.{stands_in, stands_at, Steps, stepping_goes}
use Rattle.typed_statements.proofs.NameRead.{passes_behind, name_read, begins_behind}
use Rattle.typed_statements.proofs.Naming.{Assignable, target_quiet, name_adds, name_past}
use Rattle.typed_statements.proofs.Steps.{unmerged_merges_none}

-- Where nothing is found, an operator adds nothing.
pub record OperatedQuietly (op : BinOp) (a b : Operand) (w : Walk) : Type 0 where
  pub same : (operated op a b w).walk ≡ w
  pub quiet : w.findings ≡ []

pub operated_quiet : (op : BinOp) (a b : Operand) (w : Walk) → (operated op a b w).walk.findings ≡ [] → OperatedQuietly op a b w
unfolding operated
operated_quiet op a b w quiet = let g = goes (sort_of op) a.at a b w quiet in record { same = g.same; quiet = g.quiet }

module _ (expressions : ExpressionsAreTyped) (parts : PartsAreTyped) (stay : PartsStay) (k : Setting) (there : IsSoundSomewhere k) (a : Around) (assign : AssignOp) (op : BinOp) (assigning : operator_of assign ≡ Some op)
    (name : List ℕ) (v : Value) (w : Walk) (u : MarkingWalk) where
  abbrev t : Target
  t = target k.env w.at name w

  abbrev b : Walk
  b = past k.env 1 t.walk

  abbrev e : Passing
  e = value_walk k.env v b

  -- behind the operator, where its first operand is of a type
  abbrev by_type : ExprType → Walk
  by_type found = (operated op (record { found = found; at = w.at }) (record { found = e.given.found; at = b.at }) e.walk).walk

  abbrev y : Walk
  y = by_type (type_of t.variable)

  abbrev passed : MarkingWalk → MarkingWalk
  passed u = marking_walks.past k.marks 1 (marking_walks.named k.marks u)

  abbrev marked : MarkingWalk → MarkingWalk
  marked = (marking.value_of k.marks v).walk Inside

  abbrev x : MarkingWalk
  x = unmerged (marked (passed u))

  record Found : Type 0 where
    target_is : Assignable k.env name w t
    same : y ≡ e.walk
    quiet : e.walk.findings ≡ []

  found : y.findings ≡ [] → Found
  found quiet =
      let q = operated_quiet op (record { found = type_of t.variable; at = w.at }) (record { found = e.given.found; at = b.at }) e.walk quiet in
      record { target_is = target_quiet k.env w.at name w (past_quiet k.env 1 t.walk (value_adds expressions k there v b q.quiet).no_findings); same = q.same; quiet = q.quiet }

  added : y.findings ≡ [] → Adds w y
  added quiet =
      let f = found quiet in
      subst (Adds w) (sym f.same) (name_adds (name_past k.env 1 f.target_is.adds) (value_adds expressions k there v b f.quiet))

  abbrev reading : Cursor → Read Statement
  reading c = compound k.scope op (variable_of c (name_here c)) v (behind_name c)

  module _ (c : Cursor) (types : List ExprType) (names : List Declaration) (is : IsPoint k (point w u c)) where
    abbrev p : Place
    p = place_at k (point w u c)

    compound_steps : (quiet : y.findings ≡ []) (f : Found) (adds : Adds w y) → x.findings ≡ [] → Stands p c (adds.types ++ types) (adds.names ++ names) → Steps k w y u x c (reading c) types names (Stated k a)
    compound_steps quiet f adds quiet_marks stands =
        let it = f.target_is.it in
        let of_method = f.target_is.of_method in
        let end = unmerged_ends (marked (passed u)) quiet_marks in
        let quiet_value = end.moved.back quiet_marks in
        let quiet_name = stay.found_before_value p v Inside (passed u) quiet_value in
        let values = value_adds expressions k there v b f.quiet in
        let s = stands_along p c f.same adds (name_adds (name_past k.env 1 f.target_is.adds) values) types names stands in
        let n = name_read k w u c is passed name it (values.types ++ types) (values.names ++ names) (known_there p name w refl f.target_is.is) of_method f.target_is.no_collection (passes_behind p it.declaration of_method)
        quiet_name s in
        let number = variable_of (cursor_at p) (Some it.declaration) in
        let wanted : type_of t.variable ≡ expression_type.Value n.variable.type = ap type_of f.target_is.found ∙ n.variable.found in
        let part = parts.compounds p is.agree.sound k.around (stands_in k (point w u c) is.agree) assign op assigning number n.variable.type n.variable.is v w.at b.at b (ap (λ (z : ExprType). (by_type z).findings) (sym wanted) ∙ quiet) in
        let known = (name_past k.env 1 f.target_is.adds).same_variables in
        let behind = stands_along p (behind_name c) (sym (ap by_type (sym wanted) ∙ f.same)) values part.added types names n.stands in
        let is_part = part.part known (behind_name c) types names behind (passed u) (begins_behind k w u c marked part.added.names names n (sym n.stands.are_names ∙ behind.are_names) quiet_value) in
        let r = compound k.scope op number v (behind_name c) in
        let steps : Steps k w y u x c r types names (Stated k a) =
        change_steps k a w y u c types names is (passed u) (marked (passed u)) x r number adds n.passed.stays is_part.passed is_part.no_sites (part.behind known (behind_name c) types names behind) is_part.is n.variable.below end in
        subst (λ (m : ℕ). Steps k w y u x c (compound k.scope op m v (behind_name c)) types names (Stated k a)) (sym n.number) steps

  pub compound_goes : Goes k w y u x reading (Stated k a)
  compound_goes = stepping_goes k (record {
    back = λ quiet. named_grows k.marks u (past_grows k.marks 1 _ (stay.found_before_value (place_at k there.point) v Inside (passed u) ((unmerged_merges_none (marked (passed u))).moved.back quiet)));
    keeps = λ c. (stay.compounds_keep k.scope op (variable_of c (name_here c)) v (behind_name c)).variables;
    added = added;
    behind = λ quiet quiet_marks c types names is ts ns.
        compound_steps c types names is quiet (found quiet) (added quiet) quiet_marks (stands_at k w u c ((added quiet).types ++ types) ((added quiet).names ++ names) ts ns);
  })
