use Rattle.std.proofs.Common.{arith}
use Rattle.java_flow.proofs.Words.{put_in_grown}
use Rattle.java_flow.proofs.bits.put.Goals as goal

pub returns : goal.returns
returns c =
    put_in_grown c.args.words.now.items c.grow.new.words.items c.args.number c.index_mut.result.now c.in_ok-grow.ensures.same (omega (arith, c.in_ok-grow.ensures.long)) c.index_mut.ensures.value
