-- A block is typed where its statements are, and where nothing waits before it and behind its last statement.
use Rattle.std.proofs.Common.{◌≡◌, ℕ, ◌≤◌, List, length, Option, Some, None, sym, ap, subst, ◌∙◌}
use Rattle.java_types.specs.declared.statements.Around.{Around}
use Rattle.access_blocks.specs.declared.body.Statement.{Statement}
use Rattle.access_blocks.specs.declared.body.Statement.TheVariants as statement
use Rattle.access_blocks.specs.declared.body.Statement.TheOpen as s
use Rattle.access_blocks.specs.declared.body.Statement.TheFolds.{fold-roll-Statement}
use Rattle.body_code.specs.Checking.{Surroundings, Checking, Standing, Around as Exits, outside}
use Rattle.body_code.specs.Early.{Assigned, assigned_step, assigned_in}
use Rattle.marked_bodies.specs.Unmarked.{unmarked, unmarked_step, unmarked_list, behind}
use Rattle.typed_statements.specs.Points.{Setting, Point}
use Rattle.typed_statements.specs.Checks.{Ready, Checks, Typed, AllTyped, AssignBelow, all_assigned}
use Rattle.typed_statements.proofs.Jumping.{none_waits}
use Rattle.typed_statements.proofs.Closing.{closed_knows}
use Rattle.typed_statements.proofs.Blocks.{Closing}

-- outside of blocks, where nothing waits
pub ready_outside : (k : Setting) (a : Around) (at : Point) (st : Standing) (exits : Exits) (seen : List ℕ) (xs : List Assigned) → at.marks.awaited ≡ None → Ready k a at st exits seen xs → Ready k a at (outside st) exits seen xs
ready_outside k a at st exits seen xs none r = record {
  knows = r.knows;
  waits = none_waits k at (outside st) none;
  leads = λ e. (let l = r.leads e in record { need = l.need; is = l.is; no_field = l.no_field; no_gathered = l.no_gathered; known = l.known });
  are_seen = r.are_seen;
  early = r.early;
}

behind_is : (st end : Standing) (o : Option Standing) → o ≡ Some end → behind st o ≡ Some (outside st)
behind_is st end o e = ap (behind st) e

-- ---- what is checked and assigned of a statement, by its form

pub checks_as : (k : Setting) (a : Around) (at to : Point) {check other : Checking} {xs ys : List Assigned} → other ≡ check → ys ≡ xs → Checks k a at to check xs → Checks k a at to other ys
checks_as k a at to {check = check} {ys = ys} e d h =
    subst (λ (c : Checking). Checks k a at to c ys) (sym e) (subst (λ (zs : List Assigned). Checks k a at to check zs) (sym d) h)

abbrev braced : Surroundings → List Statement → Checking
braced around ss exits st = behind st (unmarked_list around ss exits (outside st))

block_checked : (around : Surroundings) (ss : List Statement) → unmarked around (statement.Block ss) ≡ braced around ss
block_checked around ss = ap (unmarked around) (sym (statement.rolls-Block ss)) ∙ fold-roll-Statement Checking (unmarked_step around) (s.Block ss)

block_assigns : (ss : List Statement) → assigned_in (statement.Block ss) ≡ all_assigned ss
block_assigns ss = ap assigned_in (sym (statement.rolls-Block ss)) ∙ fold-roll-Statement (List Assigned) assigned_step (s.Block ss)

pub block_typed : (k : Setting) (a : Around) (at inside to : Point) (ss : List Statement) → at.marks.awaited ≡ None → to.marks.awaited ≡ None → Closing k at inside to → AllTyped k a at inside ss → Typed k a at to (statement.Block ss)
block_typed k a at inside to ss none none_behind c h = checks_as k a at to (block_checked k.around ss) (block_assigns ss) (record {
  longer = subst (λ d. length at.cursor.variables ≤ length d.variables) (sym c.same_cursor) h.longer;
  below = subst (λ d. AssignBelow (length d.variables) (all_assigned ss)) (sym c.same_cursor) h.below;
  checked = λ st exits seen r.
      let e = h.checked (outside st) exits seen (ready_outside k a at st exits seen (all_assigned ss) none r) in
      record {
        after = outside st;
        is = behind_is st e.after _ e.is;
        keeps = λ v e. e;
        knows = closed_knows k at to c.begins c.closes (outside st) r.knows;
        waits = none_waits k to (outside st) none_behind;
      };
})
