use Rattle.std.proofs.Common.{◌∙◌, sym, arith}
use Rattle.access_blocks.proofs.Holders.{behind_kinds}
use Rattle.access_blocks.proofs.programs.holders.Goals as goal

pub returns-in_default : goal.returns-in_default
returns-in_default c =
    sym (behind_kinds c.loop-number.all c.loop-number.number c.args.classes.now c.args.kinds.now (omega (arith, c.in_default.ensures.lookup))) ∙ c.loop-number.invariant
