use Rattle.sdg_base.specs.declared.val.Num.TheVariants as num
use Rattle.sdg_base.proofs.Machine.{not_zero, remainder_from}
use Rattle.sdg_base.proofs.ints.remainder.Goals as goal

pub wrapping_rem-requires : goal.wrapping_rem-requires
wrapping_rem-requires c = not_zero num.Int c.args.b c.ranges.b c.requires

pub returns : goal.returns
returns c = remainder_from num.Int c.args.a c.ranges.a _ c.wrapping_rem.type_inv c.args.b c.ranges.b c.wrapping_rem.ensures
