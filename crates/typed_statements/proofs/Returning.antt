-- A `return` without a value goes; of one with a value, its type, and what is added with the tokens before and behind.
use Rattle.std.proofs.Common.{◌≡◌, ℕ, true, false, not, List, [], ◌++◌, length, drop, None, refl, sym, ap, subst, ◌∙◌, append-nil}
use Rattle.sdg_base.specs.declared.value_type.ValueType.{ValueType as SignatureType}
use Rattle.sdg_base.specs.declared.value_type.ValueType.TheVariants as type
use Rattle.java_tree.specs.declared.types.ValueType.{ValueType}
use Rattle.java_tree.specs.declared.types.ValueType.TheVariants as value
use Rattle.java_tree.specs.declared.types.ExprType.{ExprType}
use Rattle.java_tree.specs.declared.types.ExprType.TheVariants as expression_type
use Rattle.java_tree.specs.declared.types.Declaration.{Declaration}
use Rattle.java_types.specs.declared.statements.Around.{Around}
use Rattle.java_types.specs.declared.walk.Env.{Env}
use Rattle.java_types.specs.declared.walk.Walk.{Walk}
use Rattle.java_types.specs.Fits.{is_void}
use Rattle.java_types.specs.Walks.{past, noted}
use Rattle.annotations.specs.declared.walk.Walk.{Walk as MarkingWalk}
use Rattle.annotations.specs.Walks as marking_walks
use Rattle.annotations.specs.Walks.{unmerged}
use Rattle.access_blocks.specs.declared.body.Statement.{Statement}
use Rattle.access_blocks.specs.declared.body.Statement.TheVariants as statement
use Rattle.access_blocks.specs.declared.body.Statement.TheOpen as s
use Rattle.access_blocks.specs.declared.body.Statement.TheFolds.{fold-roll-Statement}
use Rattle.access_blocks.specs.Cursors.{Cursor, Read, read}
use Rattle.access_blocks.specs.Resolving.{wanted_by}
use Rattle.body_code.specs.Checking as checking
use Rattle.body_code.specs.Checking.{Checking, Surroundings, Standing, outside, if_so}
use Rattle.body_code.specs.Early.{Assigned, assigned_step, assigned_in}
use Rattle.body_code.specs.Typing.{type_by}
use Rattle.marked_bodies.specs.Unmarked.{unmarked, unmarked_step, and_outside}
use Rattle.typed_bodies.specs.Reading.{Adds, Stands}
use Rattle.typed_bodies.proofs.Marking.{past_grows}
use Rattle.typed_bodies.proofs.Steps.{unbroken, adds_none, past_quiet}
use Rattle.typed_statements.specs.Points.{Setting, Point, point, place_at, IsPoint}
use Rattle.typed_statements.specs.Checks.{AssignBelow}
use Rattle.typed_statements.specs.Goes.{Goes}
use Rattle.typed_statements.specs.Leaves.{Stated}
use Rattle.typed_statements.proofs.Adding.{stands_along}
use Rattle.typed_statements.proofs.Ended.{unmerged_ends, then_ends, ran_steps}
use Rattle.typed_statements.proofs.Fitting.{stands_at, Steps, stepping_goes}
use Rattle.typed_statements.proofs.Naming.{not_false}
use Rattle.typed_statements.proofs.Stated.{Runs}
use Rattle.typed_statements.proofs.Steps.{past_still, past_unmoved, unmerged_merges_none}

-- ---- results

-- a result that is not void is of a type
pub value_result : (r : SignatureType) → is_void (wanted_by r) ≡ false → (t : ValueType) × (wanted_by r ≡ expression_type.Value t) × (r ≡ type_by t)
value_result type.Int e = (value.Int, refl, refl)
value_result type.Long e = (value.Long, refl, refl)
value_result type.Boolean e = (value.Boolean, refl, refl)
value_result type.Vector e = (value.Vector, refl, refl)
value_result type.Void e = absurd (cc)

void_result : (r : SignatureType) → is_void (wanted_by r) ≡ true → checking.is_void r ≡ true
void_result type.Int e = absurd (cc)
void_result type.Long e = absurd (cc)
void_result type.Boolean e = absurd (cc)
void_result type.Vector e = absurd (cc)
void_result type.Void e = refl

-- ---- tokens before and behind

abbrev pub around_tokens : (env : Env) {w n v : Walk} → n ≡ past env 1 w → Adds n v → Adds w (past env 1 v)
around_tokens env {w = w} {v = v} is a = record {
  types = a.types;
  names = a.names;
  no_findings = (past_still env 1 w).back (ap (λ (z : Walk). z.findings) (sym is) ∙ a.no_findings);
  to_types = (past_still env 1 v).types ∙ (a.to_types ∙ ap (λ (ts : List ExprType). ts ++ a.types) (ap (λ (z : Walk). z.types) is ∙ (past_still env 1 w).types));
  to_names = (past_still env 1 v).names ∙ (a.to_names ∙ ap (λ (ns : List Declaration). ns ++ a.names) (ap (λ (z : Walk). z.names) is ∙ (past_still env 1 w).names));
  same_variables = (past_still env 1 v).variables ∙ (a.same_variables ∙ (ap (λ (z : Walk). z.variables) is ∙ (past_still env 1 w).variables));
  same_locals = (past_still env 1 v).locals ∙ (a.same_locals ∙ (ap (λ (z : Walk). z.locals) is ∙ (past_still env 1 w).locals));
}

pub known_around : (env : Env) (w : Walk) {n : Walk} → n ≡ past env 1 w → n.variables ≡ w.variables
unfolding past
known_around env w is = ap (λ (z : Walk). z.variables) is

-- ---- without a value

return_none_runs : (k : Setting) (at : Point) → checking.is_void k.around.result ≡ true → Runs k at (statement.Return None)
return_none_runs k at void =
    let assigns : assigned_in (statement.Return None) ≡ [] = ap assigned_in (sym (statement.rolls-Return None)) ∙ fold-roll-Statement (List Assigned) assigned_step (s.Return None) in
    let checks : unmarked k.around (statement.Return None) ≡ unmarked_step k.around (s.Return None) = ap (unmarked k.around) (sym (statement.rolls-Return None)) ∙ fold-roll-Statement Checking (unmarked_step k.around) (s.Return None) in
    record {
      below = subst (AssignBelow (length at.cursor.variables)) (sym assigns) tt;
      after = outside;
      keeps = λ st v e. e;
      runs = λ exits st knows waits. ap (λ (c : Checking). c exits st) checks ∙ ap (λ b. and_outside (if_so b st)) void;
    }

module _ (k : Setting) (a : Around) (w : Walk) (u : MarkingWalk) where
  abbrev wanted : ExprType
  wanted = wanted_by k.around.result

  abbrev n : Walk
  n = past k.env 1 w

  abbrev y : Walk
  y = past k.env 1 (noted (not (is_void wanted)) w.at 12 n)

  abbrev x : MarkingWalk
  x = unmerged (marking_walks.past k.marks 2 u)

  record NoneFound : Type 0 where
    void : is_void wanted ≡ true
    same : y ≡ past k.env 1 n
    quiet : n.findings ≡ []

  none_found : y.findings ≡ [] → NoneFound
  none_found quiet =
      let b = unbroken (not (is_void wanted)) w.at 12 n (past_quiet k.env 1 _ quiet) in
      record { void = not_false _ b.holds; same = ap (past k.env 1) b.same; quiet = b.quiet }

  abbrev returned_none : Cursor → Read Statement
  returned_none c = read (statement.Return None) c

  none_adds : NoneFound → Adds w y
  none_adds f = subst (Adds w) (sym f.same) (around_tokens k.env refl (adds_none n f.quiet))

  none_steps : (f : NoneFound) → x.findings ≡ [] → (adds : Adds w y) (c : Cursor) (types : List ExprType) (names : List Declaration) → IsPoint k (point w u c)
      → Stands (place_at k (point w u c)) c (adds.types ++ types) (adds.names ++ names) → Steps k w y u x c (returned_none c) types names (Stated k a)
  none_steps f quiet adds c types names is stands =
      let p = place_at k (point w u c) in
      let end = then_ends (past_unmoved k.marks 2 u) (unmerged_ends (marking_walks.past k.marks 2 u) quiet) in
      let s = stands_along p c f.same adds (around_tokens k.env refl (adds_none n f.quiet)) types names stands in
      ran_steps k a w y u c types names is x (returned_none c)
      (record {
        known = adds.same_variables;
        locals_known = adds.same_locals;
        marks = end.moved.locals;
        in_entry = end.moved.in_entry;
        variables = refl;
        locals = refl;
        are_types = s.are_types;
        are_names = s.are_names;
        behind = ap (λ (i : ℕ). drop i k.marks.names) end.moved.used ∙ (is.names ∙ s.are_names);
      })
      end.none [] (end.moved.sites ∙ sym (append-nil u.sites))
      (λ more ss. record { sites = ss; runs = return_none_runs k (point w u c) (void_result k.around.result f.void) })

  pub none_goes : Goes k w y u x returned_none (Stated k a)
  none_goes = stepping_goes k (record {
    back = λ quiet. past_grows k.marks 2 u ((unmerged_merges_none (marking_walks.past k.marks 2 u)).moved.back quiet);
    keeps = λ c. refl;
    added = λ quiet. none_adds (none_found quiet);
    behind = λ quiet quiet_marks c types names is ts ns.
        let adds = none_adds (none_found quiet) in
        none_steps (none_found quiet) quiet_marks adds c types names is (stands_at k w u c (adds.types ++ types) (adds.names ++ names) ts ns);
  })
