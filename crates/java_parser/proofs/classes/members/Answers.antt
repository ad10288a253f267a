use Rattle.std.proofs.Common.{length, sym}
use Rattle.std.proofs.lemmas.Result.{err_from_is_err_and}
use Rattle.java_parser.specs.Words.{kinds}
use Rattle.java_parser.specs.Statements.{has_more}
use Rattle.java_parser.specs.Classes.{member_at, members_at}
use Rattle.java_parser.proofs.Many.{many_start, many_more, many_fails, many_done, many_out}
use Rattle.java_parser.proofs.classes.members.Goals as goal

pub loop-init : goal.loop-init
unfolding members_at
loop-init c = rw c.new-members.ensures (many_start has_more (member_at c.args.levels) c.args.tokens.now)

pub returns-then-not-has_more : goal.returns-then-not-has_more
returns-then-not-has_more c =
    many_done has_more (member_at c.args.levels) c.loop.members (length c.args.tokens.now) c.loop.counter (kinds c.loop.rest.now) _ c.loop-test.true (sym c.if-not-has_more.ensures) c.loop.invariant

pub returns-in_err-member : goal.returns-in_err-member
returns-in_err-member c =
    let p = err_from_is_err_and c.from_residual.result c.from_residual.ensures.1 in
    rw (p.1, p.2) (many_fails has_more (member_at c.args.levels) _ c.loop.members (length c.args.tokens.now) c.loop.counter (kinds c.loop.rest.now) _ c.loop-test.true (sym c.if-not-has_more.ensures) c.in_err-member.ensures c.loop.invariant)

pub loop-preserved : goal.loop-preserved
loop-preserved c =
    rw c.in_ok-push.ensures.ok (many_more has_more (member_at c.args.levels) c.loop.members (length c.args.tokens.now) c.loop.counter (kinds c.loop.rest.now) c.in_ok-member.member (kinds c.in_ok-member.behind.now) _ c.loop-test.true (sym c.if-not-has_more.ensures) c.in_ok-member.ensures c.loop.invariant)

pub returns : goal.returns
returns c = many_out has_more (member_at c.args.levels) c.loop.members (length c.args.tokens.now) c.loop.counter c.loop.rest.now _ c.loop-test.false c.loop.invariant
