use Rattle.std.proofs.Common.{length, refl, arith}
use Rattle.std.proofs.lemmas.Option.{slice_get_read}
use Rattle.live_vars.proofs.Noting.{more_before}
use Rattle.live_vars.proofs.table.befores.Goals as goal

pub loop-at-preserved : goal.loop-at-preserved
loop-at-preserved c =
    let code = c.args.code.now in
    let at = c.loop-at.at in
    let instr = c.index-code-at.result in
    more_before code at instr c.loop-at.table.items c.note_next.new.table.items (slice_get_read code (length code) at instr refl (omega arith) c.index-code-at.is) c.loop-at.invariant c.in_ok-note_next.ensures
