-- A statement that runs from each standing that is ready, and keeps what is known, is stated: it declares nothing, and nothing waits
-- behind it. Whole values that go to their targets run so, and so do changes of variables.
use Rattle.std.proofs.Common.{◌≡◌, ℕ, ◌<◌, Bool, true, false, nat_eq, List, length, Some, None, sym, ap, subst}
use Rattle.sdg_base.specs.declared.value_type.ValueType.{ValueType as SignatureType}
use Rattle.java_tree.specs.declared.types.ExprType.{ExprType}
use Rattle.java_types.specs.declared.statements.Around.{Around}
use Rattle.annotations.specs.declared.walk.Walk.{Walk as MarkingWalk}
use Rattle.access_blocks.specs.declared.body.Statement.{Statement}
use Rattle.access_blocks.specs.declared.body.Target.{Target}
use Rattle.access_blocks.specs.declared.body.Target.TheVariants as target
use Rattle.body_code.specs.Checking.{Standing, Around as Exits, with_known, outside}
use Rattle.body_code.specs.Early.{assigned_in, is_in}
use Rattle.marked_bodies.specs.Unmarked.{unmarked}
use Rattle.marked_bodies.proofs.Facts.{or_second}
use Rattle.typed_bodies.specs.Parts.{Changes}
use Rattle.typed_bodies.specs.Reading.{Place}
use Rattle.typed_bodies.specs.Targets as targets
use Rattle.typed_bodies.specs.Targets.{behind_whole, assigned_by}
use Rattle.typed_statements.specs.Points.{Setting, Point, place_at, IsPoint, Knows, Waits}
use Rattle.typed_statements.specs.Checks.{AssignBelow, Typed}
use Rattle.typed_statements.specs.Leaves.{Stated}
use Rattle.typed_statements.proofs.Fitting.{is_ready, knows_in_scope, knows_read}
use Rattle.typed_statements.proofs.Going.{same, grown_to, Alike, alike_place}
use Rattle.typed_statements.proofs.Jumping.{none_waits}
use Rattle.typed_statements.proofs.Standings.{longer}

-- from each standing that is ready
pub record Runs (k : Setting) (at : Point) (s : Statement) : Type 0 where
  pub below : AssignBelow (length at.cursor.variables) (assigned_in s)
  pub after : Standing → Standing
  pub keeps : (st : Standing) (v : ℕ) → is_in v st.known ≡ true → is_in v (after st).known ≡ true
  pub runs : (exits : Exits) (st : Standing) → Knows (place_at k at) st → Waits (place_at k at) at.marks.awaited st → unmarked k.around s exits st ≡ Some (after st)

module _ (k : Setting) (a : Around) (at to : Point) (alike : Alike k at to) (none : to.marks.awaited ≡ None) (s : Statement) (r : Runs k at s) where
  known_behind : (st : Standing) → Knows (place_at k at) st → Knows (place_at k to) (r.after st)
  known_behind st h = subst (λ (p : Place). Knows p (r.after st)) (sym (alike_place alike)) (λ v t scope typed. r.keeps st v (h v t scope typed))

  pub runs_typed : Typed k a at to s
  runs_typed = record {
    longer = longer (grown_to (same at.cursor.variables) alike.variables);
    below = subst (λ n. AssignBelow n (assigned_in s)) (sym (ap length alike.variables)) r.below;
    checked = λ st exits seen ready. record {
      after = r.after st;
      is = r.runs exits st ready.knows ready.waits;
      keeps = r.keeps st;
      knows = known_behind st ready.knows;
      waits = none_waits k to (r.after st) none;
    };
  }

  pub runs_stated : Stated k a at to s
  runs_stated = record { typed = runs_typed; same_known = alike.known; none_awaited = none }

-- ---- whole values at their targets

whole_keeps : (is_global : Bool) (to : Target) (t : SignatureType) (st : Standing) (v : ℕ) → is_in v st.known ≡ true → is_in v (behind_whole is_global to t st).known ≡ true
whole_keeps true to t st v e = e
whole_keeps false target.Dropped t st v e = e
whole_keeps false (target.Variable n) t st v e = or_second (nat_eq v n) (is_in v st.known) e
whole_keeps false target.Returned t st v e = e

-- a variable of those so far
abbrev pub IsTargetBelow : ℕ → Target → Type 0
IsTargetBelow bound target.Dropped = Unit {0}
IsTargetBelow bound (target.Variable v) = v < bound
IsTargetBelow bound target.Returned = Unit {0}

target_below : (bound : ℕ) (is_global : Bool) (to : Target) (reads : List ℕ) → IsTargetBelow bound to → AssignBelow bound (assigned_by is_global to reads)
target_below bound true to reads h = tt
target_below bound false target.Dropped reads h = tt
target_below bound false (target.Variable v) reads h = (h, tt)
target_below bound false target.Returned reads h = tt

pub whole_runs : (k : Setting) (at : Point) (u : MarkingWalk) (is_global : Bool) (to : Target) (wanted : ExprType) (s : Statement) → IsPoint k at → u.awaited ≡ at.marks.awaited → u.in_entry ≡ at.marks.in_entry
    → IsTargetBelow (length at.cursor.variables) to → targets.Goes (place_at k at) k.around is_global to wanted u s → Runs k at s
whole_runs k at u is_global to wanted s is awaited entry below g = record {
  below = subst (AssignBelow (length at.cursor.variables)) (sym g.assigns) (target_below (length at.cursor.variables) is_global to g.reads below);
  after = behind_whole is_global to g.brings;
  keeps = whole_keeps is_global to g.brings;
  runs = λ exits st knows waits. g.runs exits st (is_ready k at u st g.reads is awaited entry (knows_read (place_at k at) st g.reads knows) waits);
}

-- ---- changes of variables

pub changes_run : (k : Setting) (at : Point) (v : ℕ) (s : Statement) → v < length at.cursor.variables → Changes (place_at k at) k.around v s → Runs k at s
changes_run k at v s below c = record {
  below = subst (AssignBelow (length at.cursor.variables)) (sym c.assigns) (below, tt);
  after = λ st. with_known v (outside st);
  keeps = λ st n e. or_second (nat_eq n v) (is_in n st.known) e;
  runs = λ exits st knows waits. c.runs exits st (knows_in_scope (place_at k at) st knows);
}
