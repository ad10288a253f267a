use Rattle.std.proofs.Common.{arith}
use Rattle.task_lower.proofs.Carried.{loaded_more}
use Rattle.task_lower.proofs.accesses.load_arguments.Goals as goal

pub loop-preserved : goal.loop-preserved
loop-preserved c =
    let v = c.loop.invariant.variable in
    record {
      variable = omega arith;
      code = loaded_more c.args.first c.loop.counter c.loop.variable c.args.code.now c.loop.code c.push.new.code v c.loop.invariant.code c.in_ok-push.ensures.is;
    }
