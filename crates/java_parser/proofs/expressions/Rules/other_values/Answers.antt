use Rattle.std.proofs.Common.{length, sym, arith}
use Rattle.std.proofs.lemmas.Result.{err_from_is_err_and}
use Rattle.java_parser.specs.Words.{kinds, begins}
use Rattle.java_parser.specs.Members.{comma}
use Rattle.java_parser.specs.Expressions.{read_at, other_value_in, other_values_in}
use Rattle.java_parser.proofs.Many.{many_start, many_more, many_fails, many_done, many_out}
use Rattle.java_parser.proofs.TreeHeights.{values_height_none, values_height_more}
use Rattle.java_parser.proofs.expressions.Rules.other_values.Goals as goal

pub loop-init : goal.loop-init
unfolding other_values_in
loop-init g c = record {
  read = rw c.new-values.ensures (many_start (begins comma) (other_value_in (read_at c.args.self.now.levels)) c.args.tokens.now);
  spare = rw (c.new-values.ensures, values_height_none) (omega arith);
}

pub returns-then-not-begins-clause-finds : goal.returns-then-not-begins-clause-finds
returns-then-not-begins-clause-finds g c =
    many_done (begins comma) (other_value_in (read_at c.args.self.now.levels)) c.loop.values (length c.args.tokens.now) c.loop.counter (kinds c.loop.rest.now) _ c.loop-test.true (sym c.if-not-begins.ensures) c.loop.invariant.read

pub returns-then-not-begins-clause-measures : goal.returns-then-not-begins-clause-measures
returns-then-not-begins-clause-measures g c = c.loop.invariant.spare

pub returns-in_err-value-clause-finds : goal.returns-in_err-value-clause-finds
returns-in_err-value-clause-finds g c =
    let p = err_from_is_err_and c.from_residual.result c.from_residual.ensures.1 in
    rw (p.1, p.2) (many_fails (begins comma) (other_value_in (read_at c.args.self.now.levels)) _ c.loop.values (length c.args.tokens.now) c.loop.counter (kinds c.loop.rest.now) _ c.loop-test.true (sym c.if-not-begins.ensures) c.in_err-value.ensures.finds c.loop.invariant.read)

pub loop-preserved : goal.loop-preserved
loop-preserved g c = record {
  read = rw c.in_ok-push.ensures.ok (many_more (begins comma) (other_value_in (read_at c.args.self.now.levels)) c.loop.values (length c.args.tokens.now) c.loop.counter (kinds c.loop.rest.now) c.in_ok-value.value (kinds c.in_ok-value.behind.now) _ c.loop-test.true (sym c.if-not-begins.ensures) c.in_ok-value.ensures.finds c.loop.invariant.read);
  spare = rw (c.in_ok-push.ensures.ok, values_height_more c.loop.values c.in_ok-value.value) (omega (arith, c.in_ok-value.ensures.measures, c.loop.invariant.spare, c.min-least.ensures));
}

pub returns-clause-finds : goal.returns-clause-finds
returns-clause-finds g c = many_out (begins comma) (other_value_in (read_at c.args.self.now.levels)) c.loop.values (length c.args.tokens.now) c.loop.counter c.loop.rest.now _ c.loop-test.false c.loop.invariant.read
