-- `return` goes, with a value and without.
use Rattle.std.proofs.Common.{◌≡◌, ℕ, Bool, true, false, not, ◌&&◌, List, [], ◌++◌, drop, Option, Some, None, refl, sym, ap, subst, ◌∙◌}
use Rattle.java_tree.specs.declared.tree.Value.{Value, out-Value}
use Rattle.java_tree.specs.declared.types.ExprType.{ExprType}
use Rattle.java_tree.specs.declared.types.Declaration.{Declaration}
use Rattle.java_types.specs.declared.statements.Around.{Around}
use Rattle.java_types.specs.declared.walk.Walk.{Walk}
use Rattle.java_types.specs.Expressions.{Passing, value_walk}
use Rattle.java_types.specs.Fits.{fits, is_void, is_vector}
use Rattle.java_types.specs.Statements.{is_borrowed, returned, returned_value}
use Rattle.java_types.specs.Walks.{past, noted}
use Rattle.annotations.specs.declared.position.Position.TheVariants.{Whole}
use Rattle.annotations.specs.declared.walk.Walk.{Walk as MarkingWalk}
use Rattle.annotations.specs.Expressions as marking
use Rattle.annotations.specs.Statements as marking_statements
use Rattle.annotations.specs.Walks as marking_walks
use Rattle.annotations.specs.Walks.{unmerged}
use Rattle.access_blocks.specs.declared.body.Statement.{Statement}
use Rattle.access_blocks.specs.declared.body.Target.TheVariants.{Returned}
use Rattle.access_blocks.specs.Cursors.{Cursor, Read}
use Rattle.access_blocks.specs.Resolving.{wanted_by}
use Rattle.access_blocks.specs.ResolvingStatements.{return_of, value_to}
use Rattle.typed_bodies.specs.Laws.{ExpressionsAreTyped}
use Rattle.typed_bodies.specs.WholeLaws.{WholesAreTyped}
use Rattle.typed_bodies.specs.StayLaws.{PartsStay}
use Rattle.typed_bodies.specs.Marking.{Begins}
use Rattle.typed_bodies.specs.Reading.{Adds, Stands}
use Rattle.typed_bodies.proofs.Marking.{agrees_too, past_grows, stays_all, stays_past}
use Rattle.typed_bodies.proofs.Steps.{unbroken, past_quiet}
use Rattle.typed_statements.specs.Points.{Setting, point, IsSoundSomewhere, place_at, IsPoint}
use Rattle.typed_statements.specs.Goes.{Goes}
use Rattle.typed_statements.specs.Leaves.{Stated}
use Rattle.typed_statements.proofs.Adding.{value_adds, stands_along, stands_as}
use Rattle.typed_statements.proofs.Ended.{unmerged_ends, then_ends, put_steps}
use Rattle.typed_statements.proofs.Fitting.{stands_in, stands_at, agrees_at, Steps, stepping_goes}
use Rattle.typed_statements.proofs.Returning.{value_result, around_tokens, known_around, none_goes}
use Rattle.typed_statements.proofs.Steps.{past_unmoved, unmerged_merges_none}

fits_by : (void fit : Bool) → void ≡ false → (not void && not fit) ≡ false → fit ≡ true
fits_by true fit e f = absurd (cc)
fits_by false true e f = refl
fits_by false false e f = absurd (cc)

module _ (expressions : ExpressionsAreTyped) (wholes : WholesAreTyped) (stay : PartsStay) (k : Setting) (there : IsSoundSomewhere k) (a : Around) (v : Value) (w : Walk) (u : MarkingWalk) where
  abbrev wanted : ExprType
  wanted = wanted_by k.around.result

  abbrev n : Walk
  n = noted (is_void wanted) w.at 12 (past k.env 1 w)

  abbrev e : Passing
  e = value_walk k.env v n

  abbrev y : Walk
  y = past k.env 1 (returned_value k.env wanted v n.at e)

  abbrev first : MarkingWalk
  first = marking_walks.past k.marks 1 u

  abbrev marked : MarkingWalk → MarkingWalk
  marked = (marking.value_of k.marks v).walk Whole

  abbrev behind : MarkingWalk
  behind = marking_walks.past k.marks 1 (marked first)

  abbrev x : MarkingWalk
  x = unmerged behind

  -- what the walk of the rules on types finds nothing in
  record Found : Type 0 where
    no_void : is_void wanted ≡ false
    before : n ≡ past k.env 1 w
    same : y ≡ past k.env 1 e.walk
    fit : fits wanted e.given.found ≡ true
    quiet : e.walk.findings ≡ []

  found : y.findings ≡ [] → Found
  found quiet =
      let m = noted (not (is_void wanted) && not (fits wanted e.given.found)) n.at 7 e.walk in
      let b = unbroken (is_vector e.given.found && is_borrowed k.env e.walk (out-Value v).expr) n.at 10 m (past_quiet k.env 1 _ quiet) in
      let f = unbroken (not (is_void wanted) && not (fits wanted e.given.found)) n.at 7 e.walk b.quiet in
      let c = unbroken (is_void wanted) w.at 12 (past k.env 1 w) (value_adds expressions k there v n f.quiet).no_findings in
      record { no_void = c.holds; before = c.same; same = ap (past k.env 1) (b.same ∙ f.same); fit = fits_by (is_void wanted) (fits wanted e.given.found) c.holds f.holds; quiet = f.quiet }

  abbrev reading : Cursor → Read Statement
  reading = value_to k.scope Returned wanted v

  added : Found → Adds w y
  added f = subst (Adds w) (sym f.same) (around_tokens k.env f.before (value_adds expressions k there v n f.quiet))

  value_steps : (f : Found) → x.findings ≡ [] → (adds : Adds w y) (c : Cursor) (types : List ExprType) (names : List Declaration) → IsPoint k (point w u c)
      → Stands (place_at k (point w u c)) c (adds.types ++ types) (adds.names ++ names) → Steps k w y u x c (reading c) types names (Stated k a)
  value_steps f quiet adds c types names is stands =
      let p = place_at k (point w u c) in
      let last = unmerged_ends behind quiet in
      let tokens = past_unmoved k.marks 1 (marked first) in
      let stays = stays_past k.marks 1 (stays_all u) in
      let values = value_adds expressions k there v n f.quiet in
      let t = value_result k.around.result f.no_void in
      let puts = wholes.values p is.agree.sound k.around (stands_in k (point w u c) is.agree) Returned wanted v t n f.quiet f.fit in
      let s = stands_as p c values puts.added types names (stands_along p c f.same adds (around_tokens k.env f.before values) types names stands) in
      let known = known_around k.env w f.before in
      let begins : Begins p marked puts.added.names first names =
      record { agrees = agrees_too p stays (agrees_at k (point w u c)); before = ap (λ (i : ℕ). drop i k.marks.names) (past_unmoved k.marks 1 u).used ∙ (is.names ∙ s.are_names); quiet = tokens.back (last.moved.back quiet) } in
      put_steps k a w y u c types names is first (marked first) x c (reading c) (out-Value v).is_global Returned wanted adds stays refl (puts.behind known c types names s)
      (puts.put known c types names s Whole refl first begins) tt (then_ends tokens last)

  value_goes : Goes k w y u x reading (Stated k a)
  value_goes = stepping_goes k (record {
    back = λ quiet.
        past_grows k.marks 1 u
        (stay.found_before_value (place_at k there.point) v Whole first ((past_unmoved k.marks 1 (marked first)).back ((unmerged_merges_none behind).moved.back quiet)));
    keeps = λ c. (stay.values_keep k.scope Returned wanted v c).variables;
    added = λ quiet. added (found quiet);
    behind = λ quiet quiet_marks c types names is ts ns.
        let adds = added (found quiet) in
        value_steps (found quiet) quiet_marks adds c types names is (stands_at k w u c (adds.types ++ types) (adds.names ++ names) ts ns);
  })

  pub returned_value_goes : Goes k w (returned k.env wanted (Some v) w) u (unmerged (marking_statements.returned k.marks (Some v) u)) (return_of k.scope wanted (Some v)) (Stated k a)
  unfolding returned
  returned_value_goes = value_goes

-- in a method of this result
pub return_goes : ExpressionsAreTyped → WholesAreTyped → PartsStay → (k : Setting) → IsSoundSomewhere k → (v : Option Value) (a : Around) (w : Walk) (u : MarkingWalk) → a.result ≡ wanted_by k.around.result
    → Goes k w (returned k.env a.result v w) u (unmerged (marking_statements.returned k.marks v u)) (return_of k.scope (wanted_by k.around.result) v) (Stated k a)
unfolding returned
return_goes expressions wholes stay k there None a w u is =
    subst (λ (t : ExprType). Goes k w (returned k.env t None w) u (unmerged (marking_statements.returned k.marks None u)) (return_of k.scope (wanted_by k.around.result) None) (Stated k a)) (sym is)
    (none_goes k a w u)
return_goes expressions wholes stay k there (Some v) a w u is =
    subst (λ (t : ExprType). Goes k w (returned k.env t (Some v) w) u (unmerged (marking_statements.returned k.marks (Some v) u)) (return_of k.scope (wanted_by k.around.result) (Some v)) (Stated k a)) (sym is)
    (returned_value_goes expressions wholes stay k there a v w u)
