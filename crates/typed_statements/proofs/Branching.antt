-- An `if` is typed where its test and its branches are: both begin with what holds at the test, and the standing behind is the
-- one before.
use Rattle.std.proofs.Common.{◌≡◌, ℕ, ◌≤◌, Bool, true, false, List, [], ◌++◌, length, if◌then◌else◌, Option, Some, None, refl, sym, ap, ◌∙◌, arith}
use Rattle.sdg_base.specs.declared.value_type.ValueType.TheVariants as type
use Rattle.java_types.specs.declared.statements.Around.{Around}
use Rattle.access_blocks.specs.declared.body.Expression.{Expression}
use Rattle.access_blocks.specs.declared.body.Statement.{Statement}
use Rattle.access_blocks.specs.declared.body.Statement.TheVariants as statement
use Rattle.access_blocks.specs.declared.body.Statement.TheOpen as s
use Rattle.access_blocks.specs.declared.body.Statement.TheFolds.{fold-roll-Statement}
use Rattle.access_blocks.specs.declared.resolved.Resolved.{Resolved}
use Rattle.body_code.specs.Checking.{Surroundings, Checking, Standing, Around as Exits, outside, otherwise, takes}
use Rattle.body_code.specs.Early.{Assigned, assigned_step, assigned_in}
use Rattle.marked_bodies.specs.Unmarked.{unmarked, unmarked_step, unmarked_branching, behind_both}
use Rattle.typed_statements.specs.Points.{Setting, Point}
use Rattle.typed_statements.specs.Checks.{Ready, Checks}
use Rattle.typed_statements.specs.Leaves.{Tested, Stated}
use Rattle.typed_statements.proofs.InTurn.{Way}
use Rattle.typed_statements.proofs.Early.{seen_after, early_first, early_second, seen_below}
use Rattle.typed_statements.proofs.Standings.{longer, less_than, all_below, below_both}
use Rattle.typed_statements.proofs.Jumping.{none_waits}
use Rattle.typed_statements.proofs.Closing.{closed_knows}
use Rattle.typed_statements.proofs.Braces.{ready_outside, checks_as}
use Rattle.typed_statements.proofs.StatedStatements.{way_both, closes_here}

-- ---- what is checked and assigned

abbrev checks_of : Surroundings → Option Statement → Option Checking
checks_of around None = None
checks_of around (Some x) = Some (unmarked around x)

abbrev assigned_by : Option Statement → List Assigned
assigned_by None = []
assigned_by (Some x) = assigned_in x

abbrev branched : Surroundings → Expression → Statement → Option Statement → Checking
branched around test first second exits st = unmarked_branching around test (unmarked around first) (checks_of around second) exits (outside st)

if_checked : (around : Surroundings) (test : Expression) (first : Statement) (second : Option Statement)
    → unmarked around (statement.If test first second) ≡ branched around test first second
if_checked around test first None =
    ap (unmarked around) (sym (statement.rolls-If test first None)) ∙ fold-roll-Statement Checking (unmarked_step around) (s.If test first None)
if_checked around test first (Some x) =
    ap (unmarked around) (sym (statement.rolls-If test first (Some x))) ∙ fold-roll-Statement Checking (unmarked_step around) (s.If test first (Some x))

if_assigns : (test : Expression) (first : Statement) (second : Option Statement) → assigned_in (statement.If test first second) ≡ assigned_in first ++ assigned_by second
if_assigns test first None = ap assigned_in (sym (statement.rolls-If test first None)) ∙ fold-roll-Statement (List Assigned) assigned_step (s.If test first None)
if_assigns test first (Some x) = ap assigned_in (sym (statement.rolls-If test first (Some x))) ∙ fold-roll-Statement (List Assigned) assigned_step (s.If test first (Some x))

-- ---- the parts of an `if`

-- what stands behind `else`, or nothing
pub record SecondStated (k : Setting) (a : Around) (at to : Point) (second : Option Statement) : Type 0 where
  pub typed : Checks k a at to (otherwise (checks_of k.around second)) (assigned_by second)
  pub same_known : to.types.variables ≡ at.types.variables
  pub none_awaited : to.marks.awaited ≡ None

pub record Branches (k : Setting) (a : Around) (at to : Point) (first : Statement) (second : Option Statement) : Type 0 where
  pub mid : Point
  pub way : Way k at mid
  pub way_behind : Way k mid to
  pub stated : Stated k a at mid first
  pub second_stated : SecondStated k a mid to second

taken_where : (b : Bool) (o : Option Standing) → b ≡ true → (if b then o else None) ≡ o
taken_where true o e = refl
taken_where false o e = absurd (cc)

both_end : (st : Standing) {o p : Option Standing} {x y : Standing} → o ≡ Some x → p ≡ Some y → behind_both st o p ≡ Some (outside st)
both_end st {p = p} {x = x} e d = ap (λ q. behind_both st q p) e ∙ ap (behind_both st (Some x)) d

module _ (k : Setting) (a : Around) (at tested to : Point) (r : Resolved) (first : Statement) (second : Option Statement) (way : Way k at tested) (test : Tested k at tested r)
    (b : Branches k a tested to first second) (none : at.marks.awaited ≡ None) where
  abbrev all : List Assigned
  all = assigned_in first ++ assigned_by second

  -- where the first branch begins
  ready_first : (st : Standing) (exits : Exits) (seen : List ℕ) → Ready k a at st exits seen all → Ready k a tested (outside st) exits seen (assigned_in first)
  ready_first st exits seen ready =
      let q = ready_outside k a at st exits seen all none ready in
      record {
        knows = closed_knows k at tested way.begins (closes_here way test.same_known).closes (outside st) q.knows;
        waits = none_waits k tested (outside st) (test.awaited ∙ none);
        leads = q.leads;
        are_seen = λ v e. less_than v _ _ (q.are_seen v e) (longer way.variables);
        early = λ v e. q.early v (early_first seen (assigned_in first) (assigned_by second) v e);
      }

  -- where the second one begins
  ready_second : (st : Standing) (exits : Exits) (seen : List ℕ) → Ready k a at st exits seen all
      → Ready k a b.mid (outside st) exits (seen_after seen (assigned_in first)) (assigned_by second)
  ready_second st exits seen ready =
      let q = ready_outside k a at st exits seen all none ready in
      let there = way_both way b.way in
      record {
        knows = closed_knows k at b.mid way.begins (closes_here there (b.stated.same_known ∙ test.same_known)).closes (outside st) q.knows;
        waits = none_waits k b.mid (outside st) b.stated.none_awaited;
        leads = q.leads;
        are_seen = seen_below (length b.mid.cursor.variables) seen (assigned_in first) (λ v e. less_than v _ _ (q.are_seen v e) (longer there.variables)) b.stated.typed.below;
        early = λ v e. q.early v (early_second seen (assigned_in first) (assigned_by second) v e);
      }

  runs : (st : Standing) (exits : Exits) (seen : List ℕ) → Ready k a at st exits seen all → branched k.around r.expression first second exits st ≡ Some (outside st)
  runs st exits seen ready =
      let c = b.stated.typed.checked (outside st) exits seen (ready_first st exits seen ready) in
      let d = b.second_stated.typed.checked (outside st) exits (seen_after seen (assigned_in first)) (ready_second st exits seen ready) in
      taken_where (takes k.around (outside st) r.expression type.Boolean) _ (test.holds (outside st) ready.knows) ∙ both_end (outside st) c.is d.is

  pub if_stated : Stated k a at to (statement.If r.expression first second)
  if_stated =
      let there = way_both way (way_both b.way b.way_behind) in
      let known = b.second_stated.same_known ∙ (b.stated.same_known ∙ test.same_known) in
      record {
        typed = checks_as k a at to (if_checked k.around r.expression first second) (if_assigns r.expression first second) (record {
          longer = longer there.variables;
          below = below_both (length to.cursor.variables) (assigned_in first) (assigned_by second) (all_below _ _ b.second_stated.typed.longer (assigned_in first) b.stated.typed.below)
              b.second_stated.typed.below;
          checked = λ st exits seen ready. record {
            after = outside st;
            is = runs st exits seen ready;
            keeps = λ v e. e;
            knows = closed_knows k at to way.begins (closes_here there known).closes (outside st) ready.knows;
            waits = none_waits k to (outside st) b.second_stated.none_awaited;
          };
        });
        same_known = known;
        none_awaited = b.second_stated.none_awaited;
      }

-- ---- with `else`, and without

pub no_second : (k : Setting) (a : Around) (at : Point) → at.marks.awaited ≡ None → SecondStated k a at at None
no_second k a at none = record {
  typed = record {
    longer = not_less (length at.cursor.variables);
    below = tt;
    checked = λ st exits seen r. record { after = st; is = refl; keeps = λ v e. e; knows = r.knows; waits = r.waits };
  };
  same_known = refl;
  none_awaited = none;
}
  where
    not_less : (n : ℕ) → n ≤ n
    not_less n = grind (arith)

pub one_second : (k : Setting) (a : Around) (at to : Point) (x : Statement) → Stated k a at to x → SecondStated k a at to (Some x)
one_second k a at to x h = record { typed = h.typed; same_known = h.same_known; none_awaited = h.none_awaited }
