use Rattle.std.proofs.Common.{◌≡◌, ◌+◌, length, take, arith, length-take}
use Rattle.task_lower.proofs.Listed.{taken_more}
use Rattle.task_lower.proofs.Carried.{stored_more}
use Rattle.task_lower.proofs.accesses.store_arguments.Goals as goal

pub loop-e-preserved : goal.loop-e-preserved
loop-e-preserved c =
    let args = c.args.args.now in
    let i = c.loop-e.e-index in
    let many : length (take i args) ≡ i = simp length-take (omega arith) in
    let v = c.loop-e.invariant.variable in
    record {
      variable = omega arith;
      code =
          stored_more c.args.scope.now.context (take i args) (take (i + 1) args) c.e-item.result c.args.first c.loop-e.variable c.args.code.now c.loop-e.code c.expression.new.code c.push.new.code
          (taken_more args i c.e-item.result (omega arith) c.e-item.is) (omega (arith, v, many)) c.loop-e.invariant.code c.in_ok-expression.ensures.code c.in_ok-push.ensures.is;
    }
