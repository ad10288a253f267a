use Rattle.std.proofs.Common.{length, sym}
use Rattle.std.proofs.lemmas.Result.{err_from_is_err_and}
use Rattle.java_parser.specs.Words.{kinds}
use Rattle.java_parser.specs.Members.{has_dotted, dotted_at, names_at}
use Rattle.java_parser.proofs.Many.{many_start, many_more, many_fails, many_done, many_out}
use Rattle.java_parser.proofs.members.names.Goals as goal

pub loop-init : goal.loop-init
unfolding names_at
loop-init c = rw c.new-names.ensures (many_start (has_dotted c.args.is_import) dotted_at c.args.tokens.now)

pub returns-then-not-has_dotted : goal.returns-then-not-has_dotted
returns-then-not-has_dotted c =
    many_done (has_dotted c.args.is_import) dotted_at c.loop.names (length c.args.tokens.now) c.loop.counter (kinds c.loop.rest.now) _ c.loop-test.true (sym c.if-not-has_dotted.ensures) c.loop.invariant

pub returns-in_err-name : goal.returns-in_err-name
returns-in_err-name c =
    let p = err_from_is_err_and c.from_residual.result c.from_residual.ensures.1 in
    rw (p.1, p.2) (many_fails (has_dotted c.args.is_import) dotted_at _ c.loop.names (length c.args.tokens.now) c.loop.counter (kinds c.loop.rest.now) _ c.loop-test.true (sym c.if-not-has_dotted.ensures) c.in_err-name.ensures c.loop.invariant)

pub loop-preserved : goal.loop-preserved
loop-preserved c =
    rw c.in_ok-push.ensures.ok (many_more (has_dotted c.args.is_import) dotted_at c.loop.names (length c.args.tokens.now) c.loop.counter (kinds c.loop.rest.now) c.in_ok-name.name (kinds c.in_ok-name.behind.now) _ c.loop-test.true (sym c.if-not-has_dotted.ensures) c.in_ok-name.ensures c.loop.invariant)

pub returns : goal.returns
returns c = many_out (has_dotted c.args.is_import) dotted_at c.loop.names (length c.args.tokens.now) c.loop.counter c.loop.rest.now _ c.loop-test.false c.loop.invariant
