use Rattle.std.proofs.Common.{length, sym}
use Rattle.std.proofs.lemmas.Result.{err_from_is_err_and}
use Rattle.java_parser.specs.Words.{kinds, begins}
use Rattle.java_parser.specs.Members.{comma}
use Rattle.java_parser.specs.Simples.{other_simple_at, other_simples_at}
use Rattle.java_parser.proofs.Many.{many_start, many_more, many_fails, many_done, many_out}
use Rattle.java_parser.proofs.simples.other_simples.Goals as goal

pub loop-init : goal.loop-init
unfolding other_simples_at
loop-init c = rw c.new-simples.ensures (many_start (begins comma) (other_simple_at c.args.levels) c.args.tokens.now)

pub returns-then-not-begins : goal.returns-then-not-begins
returns-then-not-begins c =
    many_done (begins comma) (other_simple_at c.args.levels) c.loop.simples (length c.args.tokens.now) c.loop.counter (kinds c.loop.rest.now) _ c.loop-test.true (sym c.if-not-begins.ensures) c.loop.invariant

pub returns-in_err-simple : goal.returns-in_err-simple
returns-in_err-simple c =
    let p = err_from_is_err_and c.from_residual.result c.from_residual.ensures.1 in
    rw (p.1, p.2) (many_fails (begins comma) (other_simple_at c.args.levels) _ c.loop.simples (length c.args.tokens.now) c.loop.counter (kinds c.loop.rest.now) _ c.loop-test.true (sym c.if-not-begins.ensures) c.in_err-simple.ensures c.loop.invariant)

pub loop-preserved : goal.loop-preserved
loop-preserved c =
    rw c.in_ok-push.ensures.ok (many_more (begins comma) (other_simple_at c.args.levels) c.loop.simples (length c.args.tokens.now) c.loop.counter (kinds c.loop.rest.now) c.in_ok-simple.simple (kinds c.in_ok-simple.behind.now) _ c.loop-test.true (sym c.if-not-begins.ensures) c.in_ok-simple.ensures c.loop.invariant)

pub returns : goal.returns
returns c = many_out (begins comma) (other_simple_at c.args.levels) c.loop.simples (length c.args.tokens.now) c.loop.counter c.loop.rest.now _ c.loop-test.false c.loop.invariant
