use Rattle.std.proofs.Common.{arith}
use Rattle.task_code.proofs.Taken.{there_are_in, popped}
use Rattle.task_code.proofs.stack.Stack.pop_many.Goals as goal

pub overflow_sub-rest : goal.overflow_sub-rest
overflow_sub-rest c = omega (arith, there_are_in c.args.count c.self.inside.values.items c.args.self.now c.self.view_is c.requires)

pub returns : goal.returns
returns c =
    popped c.args.count c.len.result c.self.inside.values.items c.args.self.now _ _ c.self.view_is c.requires (omega arith) c.in_ok-args.ensures.tail c.in_ok-args.ensures.items
