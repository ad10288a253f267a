use Rattle.std.proofs.Common.{◌≡◌, ◌-◌, length, Some, None, sym, ap, ◌∙◌, arith}
use Rattle.std.proofs.lemmas.Result.{err_from_is_err_and}
use Rattle.java_parser.specs.Words.{kinds}
use Rattle.java_parser.specs.Expressions.{read_at, operator_at}
use Rattle.java_parser.proofs.RowLoops.{row_start, row_done, row_deep, row_next, row_fails, row_out}
use Rattle.java_parser.proofs.TreeHeights.{binary_height}
use Rattle.java_parser.proofs.expressions.Rules.row.Goals as goal

pub loop-init : goal.loop-init
loop-init g c = record {
  read = row_start (read_at c.args.self.now.levels) c.args.self.now.levels c.args.looseness c.args.first c.args.tokens.now;
  spare = c.requires.spare;
}

pub returns-in_default-clause-finds : goal.returns-in_default-clause-finds
returns-in_default-clause-finds g c =
    let none : operator_at (10 - c.args.looseness) (kinds c.loop.rest.now) ≡ None = rw (← c.saturating_sub.ensures) (sym c.operator_at.ensures ∙ c.in_default.is) in
    row_done (read_at c.args.self.now.levels) c.args.self.now.levels c.args.looseness (length c.args.tokens.now) c.loop.counter c.loop.left (kinds c.loop.rest.now) _ c.loop-test.true none c.loop.invariant.read

pub returns-then-spare-eq0-clause-finds : goal.returns-then-spare-eq0-clause-finds
returns-then-spare-eq0-clause-finds g c =
    let some : operator_at (10 - c.args.looseness) (kinds c.loop.rest.now) ≡ Some c.in-Some.op = rw (← c.saturating_sub.ensures) (sym c.in-Some.ensures) in
    row_deep (read_at c.args.self.now.levels) c.args.self.now.levels c.args.looseness (length c.args.tokens.now) c.loop.counter c.loop.left c.loop.rest.now c.in-Some.op _ c.loop-test.true some (omega (arith, c.loop.invariant.spare, c.if-spare-eq0.true)) c.loop.invariant.read

pub returns-in_err-right-clause-finds : goal.returns-in_err-right-clause-finds
returns-in_err-right-clause-finds g c =
    let some : operator_at (10 - c.args.looseness) (kinds c.loop.rest.now) ≡ Some c.in-Some.op = rw (← c.saturating_sub.ensures) (sym c.in-Some.ensures) in
    let p = err_from_is_err_and c.from_residual.result c.from_residual.ensures.1 in
    rw (p.1, p.2) (row_fails (read_at c.args.self.now.levels) c.args.self.now.levels c.args.looseness _ (length c.args.tokens.now) c.loop.counter c.loop.left (kinds c.loop.rest.now) c.in-Some.op _ c.loop-test.true some (omega (arith, c.loop.invariant.spare, c.if-spare-eq0.false)) (rw (← c.tail.ensures) c.in_err-right.ensures.finds) c.loop.invariant.read)

pub loop-preserved : goal.loop-preserved
loop-preserved g c =
    let some : operator_at (10 - c.args.looseness) (kinds c.loop.rest.now) ≡ Some c.in-Some.op = rw (← c.saturating_sub.ensures) (sym c.in-Some.ensures) in
    record {
      read = rw c.in_ok-left.ensures (row_next (read_at c.args.self.now.levels) c.args.self.now.levels c.args.looseness (length c.args.tokens.now) c.loop.counter c.loop.left (kinds c.loop.rest.now) c.in-Some.op c.in_ok-right.right (kinds c.in_ok-right.behind.now) _ c.loop-test.true some (omega (arith, c.loop.invariant.spare, c.if-spare-eq0.false)) (ap (read_at c.args.self.now.levels c.args.looseness) (sym c.tail.ensures) ∙ c.in_ok-right.ensures.finds) c.loop.invariant.read);
      spare = rw (c.in_ok-left.ensures, binary_height c.in-Some.op c.loop.left c.in_ok-right.right) (omega (arith, c.in_ok-right.ensures.measures, c.loop.invariant.spare, c.min-spare.ensures, c.if-spare-eq0.false));
    }

pub returns-clause-finds : goal.returns-clause-finds
returns-clause-finds g c = row_out (read_at c.args.self.now.levels) c.args.self.now.levels c.args.looseness (length c.args.tokens.now) c.loop.counter c.loop.left c.loop.rest.now _ c.loop-test.false c.loop.invariant.read
