use Rattle.std.proofs.Common.{length, refl, arith}
use Rattle.std.proofs.lemmas.Option.{slice_get_read}
use Rattle.live_vars.proofs.Noting.{more_read_below}
use Rattle.live_vars.proofs.table.variables_end.Goals as goal

pub loop-instr-preserved : goal.loop-instr-preserved
loop-instr-preserved c =
    let code = c.args.code.now in
    let at = c.loop-instr.instr-index in
    let instr = c.instr-item.result in
    record {
      above =
          more_read_below code at c.loop-instr.end c.read_end.result c.max-end.result instr (slice_get_read code (length code) at instr refl (omega arith) c.instr-item.is) c.loop-instr.invariant.above
          c.read_end.ensures.above (omega arith) (omega arith);
      few = omega arith;
    }
