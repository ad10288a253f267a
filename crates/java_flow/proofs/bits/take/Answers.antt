use Rattle.std.proofs.Common.{arith}
use Rattle.java_flow.proofs.Words.{taken_out, not_in}
use Rattle.java_flow.proofs.bits.take.Goals as goal

pub returns-then-at-len : goal.returns-then-at-len
returns-then-at-len c = taken_out c.args.words.now.items c.args.number c.index_mut.result.now (omega arith) c.index_mut.ensures.value

pub returns-else-at-len : goal.returns-else-at-len
returns-else-at-len c = not_in c.args.words.now.items c.args.number (omega arith)
