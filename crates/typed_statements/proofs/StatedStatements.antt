-- Statements that declare no name for those behind them: where points are alike, and what is made of what is read at a point.
use Rattle.std.proofs.Common.{◌≡◌, refl, ◌∙◌}
use Rattle.java_types.specs.declared.statements.Around.{Around}
use Rattle.body_code.specs.Early.{assigned_in}
use Rattle.marked_bodies.specs.Unmarked.{unmarked}
use Rattle.typed_statements.specs.Points.{Setting, Point}
use Rattle.typed_statements.specs.Checks.{Typed}
use Rattle.typed_statements.specs.Leaves.{Stated}
use Rattle.typed_statements.proofs.Going.{further}
use Rattle.typed_statements.proofs.InTurn.{Stable, Way}
use Rattle.typed_statements.proofs.Standings.{checks_stable}
use Rattle.typed_statements.proofs.Blocks.{Closing}

pub stated_stable : (k : Setting) (a : Around) → Stable k (Stated k a)
stated_stable k a =
    let ones : Stable k (Typed k a) = checks_stable k a (unmarked k.around) assigned_in in
    record {
      from = λ at mid to x s c. record {
        typed = ones.from at mid to x s c.typed;
        same_known = c.same_known ∙ s.alike.known;
        none_awaited = c.none_awaited;
      };
      to = λ at mid to x s c. record {
        typed = ones.to at mid to x s c.typed;
        same_known = s.alike.known ∙ c.same_known;
        none_awaited = s.awaited ∙ c.none_awaited;
      };
    }

-- one way after another
pub way_both : {k : Setting} {at mid to : Point} → Way k at mid → Way k mid to → Way k at to
way_both p q = record {
  begins = p.begins;
  ends = q.ends;
  known = further p.known q.known;
  variables = further p.variables q.variables;
  locals = further p.locals q.locals;
  marks = further p.marks q.marks;
}

-- a way behind which the same names are in scope
pub closes_here : {k : Setting} {at to : Point} → Way k at to → to.types.variables ≡ at.types.variables → Closing k at to to
closes_here p e = record {
  way = p;
  closes = record { known = e; variables = p.variables; locals = p.locals; marks = p.marks };
  begins = p.begins;
  ends = p.ends;
  same_cursor = refl;
  same_marks = refl;
}
