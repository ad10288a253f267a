use Rattle.std.proofs.Common.{ℕ, List, length, refl, sym, subst, arith}
use Rattle.std.proofs.lemmas.Option.{slice_get_read}
use Rattle.live_vars.specs.Steps.{AreNoted, AreReadBelow}
use Rattle.live_vars.proofs.Noting.{more_read}
use Rattle.live_vars.proofs.table.readers.Goals as goal

pub loop-at-preserved : goal.loop-at-preserved
loop-at-preserved c =
    let code = c.args.code.now in
    let at = c.loop-at.at in
    let instr = c.index-code-at.result in
    let table = c.loop-at.table.items in
    let new = c.note.new.table.items in
    let P : List ℕ → Type 0 = λ rows. AreNoted rows at table new in
    let noted = subst P c.read.ensures c.in_ok-note.ensures in
    let Q : ℕ → Type 0 = λ end. AreReadBelow code (length code) end in
    let same = noted.as_many in
    record {
      readers =
          more_read code at (length table) instr table new (slice_get_read code (length code) at instr refl (omega arith) c.index-code-at.is) c.loop-at.invariant.above refl
          c.loop-at.invariant.readers noted;
      above = subst Q (sym same) c.loop-at.invariant.above;
      few = let few = c.loop-at.invariant.few in omega (arith, same, few);
    }
