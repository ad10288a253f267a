use Rattle.std.proofs.Common.{sym, ◌∙◌}
use Rattle.java_parser.proofs.Places.{places_all, places_step}
use Rattle.java_parser.proofs.classes.places.Goals as goal

pub loop-token-preserved : goal.loop-token-preserved
loop-token-preserved c = places_step c.args.tokens.now c.loop-token.token-index c.token-item.result c.loop-token.places _ c.loop-token-test.true (sym c.token-item.is) c.in_ok-push.ensures.ok c.loop-token.invariant

pub returns : goal.returns
returns c = c.loop-token.invariant ∙ places_all c.args.tokens.now c.loop-token.token-index c.loop-token-test.false
