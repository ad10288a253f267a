use Rattle.std.proofs.Common.{◌≡◌, length, nat_eq, arith}
use Rattle.java_types.proofs.Reaching.{holds_from}
use Rattle.java_types.proofs.calls.no_calls.Goals as goal

pub returns : goal.returns
returns c =
    let size : length c.loop-at.reached.items ≡ 65536 = omega (arith, c.loop-at.reached.ok.0) in
    holds_from nat_eq c.loop-at.reached.items size (λ k below. c.loop-at.invariant.1 k (omega arith))
