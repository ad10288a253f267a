use Rattle.std.proofs.Common.{◌≡◌, length, arith}
use Rattle.java_types.proofs.Reaching.{holds_with}
use Rattle.java_types.proofs.calls.table_with.Goals as goal

pub returns : goal.returns
returns c = λ r h.
    let size : length c.loop-at.more.items ≡ 65536 = omega (arith, c.loop-at.more.ok.0) in
    holds_with r c.args.call c.args.reached.now c.loop-at.more.items c.requires.caller c.requires.callee h size (λ k below. c.loop-at.invariant.1 k (omega arith))
