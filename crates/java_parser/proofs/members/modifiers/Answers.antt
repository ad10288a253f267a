use Rattle.std.proofs.Common.{length, sym}
use Rattle.std.proofs.lemmas.Result.{err_from_is_err_and}
use Rattle.java_parser.specs.Words.{kinds}
use Rattle.java_parser.specs.Members.{has_modifier, modifier_at, modifiers_at}
use Rattle.java_parser.proofs.Many.{many_start, many_more, many_fails, many_done, many_out}
use Rattle.java_parser.proofs.members.modifiers.Goals as goal

pub loop-init : goal.loop-init
unfolding modifiers_at
loop-init c = rw c.new-modifiers.ensures (many_start has_modifier modifier_at c.args.tokens.now)

pub returns-then-not-has_modifier : goal.returns-then-not-has_modifier
returns-then-not-has_modifier c =
    many_done has_modifier modifier_at c.loop.modifiers (length c.args.tokens.now) c.loop.counter (kinds c.loop.rest.now) _ c.loop-test.true (sym c.if-not-has_modifier.ensures) c.loop.invariant

pub returns-in_err-modifier : goal.returns-in_err-modifier
returns-in_err-modifier c =
    let p = err_from_is_err_and c.from_residual.result c.from_residual.ensures.1 in
    rw (p.1, p.2) (many_fails has_modifier modifier_at _ c.loop.modifiers (length c.args.tokens.now) c.loop.counter (kinds c.loop.rest.now) _ c.loop-test.true (sym c.if-not-has_modifier.ensures) c.in_err-modifier.ensures c.loop.invariant)

pub loop-preserved : goal.loop-preserved
loop-preserved c =
    rw c.in_ok-push.ensures.ok (many_more has_modifier modifier_at c.loop.modifiers (length c.args.tokens.now) c.loop.counter (kinds c.loop.rest.now) c.in_ok-modifier.modifier (kinds c.in_ok-modifier.behind.now) _ c.loop-test.true (sym c.if-not-has_modifier.ensures) c.in_ok-modifier.ensures c.loop.invariant)

pub returns : goal.returns
returns c = many_out has_modifier modifier_at c.loop.modifiers (length c.args.tokens.now) c.loop.counter c.loop.rest.now _ c.loop-test.false c.loop.invariant
