-- `break` and `continue` in a loop are typed where nothing waits.
use Rattle.std.proofs.Common.{◌≡◌, true, List, [], None, sym, ap, ◌∙◌}
use Rattle.java_types.specs.declared.statements.Around.{Around}
use Rattle.access_blocks.specs.declared.body.Statement.TheVariants as statement
use Rattle.access_blocks.specs.declared.body.Statement.TheOpen as s
use Rattle.access_blocks.specs.declared.body.Statement.TheFolds.{fold-roll-Statement}
use Rattle.body_code.specs.Checking.{Checking, outside, jumping}
use Rattle.body_code.specs.Early.{Assigned, assigned_step, assigned_in}
use Rattle.marked_bodies.specs.Unmarked.{unmarked, unmarked_step}
use Rattle.typed_statements.specs.Points.{Setting, Point}
use Rattle.typed_statements.specs.Checks.{Checks, Typed}
use Rattle.typed_statements.proofs.Going.{same}
use Rattle.typed_statements.proofs.Standings.{longer}
use Rattle.typed_statements.proofs.Jumping.{jumps, none_waits}
use Rattle.typed_statements.proofs.Braces.{checks_as}

abbrev jumped : Checking
jumped exits st = jumping exits (outside st)

jump_typed : (k : Setting) (a : Around) (at : Point) → a.in_loop ≡ true → at.marks.awaited ≡ None → Checks k a at at jumped []
jump_typed k a at loop none = record {
  longer = longer (same at.cursor.variables);
  below = tt;
  checked = λ st exits seen r. record {
    after = outside st;
    is = jumps exits st (r.leads loop);
    keeps = λ v e. e;
    knows = r.knows;
    waits = none_waits k at (outside st) none;
  };
}

pub break_typed : (k : Setting) (a : Around) (at : Point) → a.in_loop ≡ true → at.marks.awaited ≡ None → Typed k a at at statement.Break
break_typed k a at loop none =
    checks_as k a at at (ap (unmarked k.around) (sym statement.rolls-Break) ∙ fold-roll-Statement Checking (unmarked_step k.around) s.Break)
    (ap assigned_in (sym statement.rolls-Break) ∙ fold-roll-Statement (List Assigned) assigned_step s.Break) (jump_typed k a at loop none)

pub continue_typed : (k : Setting) (a : Around) (at : Point) → a.in_loop ≡ true → at.marks.awaited ≡ None → Typed k a at at statement.Continue
continue_typed k a at loop none =
    checks_as k a at at (ap (unmarked k.around) (sym statement.rolls-Continue) ∙ fold-roll-Statement Checking (unmarked_step k.around) s.Continue)
    (ap assigned_in (sym statement.rolls-Continue) ∙ fold-roll-Statement (List Assigned) assigned_step s.Continue) (jump_typed k a at loop none)
