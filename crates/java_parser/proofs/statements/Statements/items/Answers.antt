use Rattle.std.proofs.Common.{length, sym}
use Rattle.std.proofs.lemmas.Result.{err_from_is_err_and}
use Rattle.java_parser.specs.Words.{kinds}
use Rattle.java_parser.specs.Statements.{has_more, item_at, items_at, statement_at}
use Rattle.java_parser.proofs.Many.{many_start, many_more, many_fails, many_done, many_out}
use Rattle.java_parser.proofs.statements.Statements.items.Goals as goal

pub loop-init : goal.loop-init
unfolding items_at
loop-init g c = rw c.new-items.ensures (many_start has_more (item_at c.args.self.now.levels (statement_at c.args.self.now.levels)) c.args.tokens.now)

pub returns-then-not-has_more : goal.returns-then-not-has_more
returns-then-not-has_more g c =
    many_done has_more (item_at c.args.self.now.levels (statement_at c.args.self.now.levels)) c.loop.items (length c.args.tokens.now) c.loop.counter (kinds c.loop.rest.now) _ c.loop-test.true (sym c.if-not-has_more.ensures) c.loop.invariant

pub returns-in_err-item : goal.returns-in_err-item
returns-in_err-item g c =
    let p = err_from_is_err_and c.from_residual.result c.from_residual.ensures.1 in
    rw (p.1, p.2) (many_fails has_more (item_at c.args.self.now.levels (statement_at c.args.self.now.levels)) _ c.loop.items (length c.args.tokens.now) c.loop.counter (kinds c.loop.rest.now) _ c.loop-test.true (sym c.if-not-has_more.ensures) c.in_err-item.ensures c.loop.invariant)

pub loop-preserved : goal.loop-preserved
loop-preserved g c =
    rw c.in_ok-push.ensures.ok (many_more has_more (item_at c.args.self.now.levels (statement_at c.args.self.now.levels)) c.loop.items (length c.args.tokens.now) c.loop.counter (kinds c.loop.rest.now) c.in_ok-item.item (kinds c.in_ok-item.behind.now) _ c.loop-test.true (sym c.if-not-has_more.ensures) c.in_ok-item.ensures c.loop.invariant)

pub returns : goal.returns
returns g c = many_out has_more (item_at c.args.self.now.levels (statement_at c.args.self.now.levels)) c.loop.items (length c.args.tokens.now) c.loop.counter c.loop.rest.now _ c.loop-test.false c.loop.invariant
