use Rattle.sdg_base.specs.declared.val.Num.TheVariants as num
use Rattle.sdg_base.proofs.Machine.{not_zero, quotient_from}
use Rattle.sdg_base.proofs.longs.divide.Goals as goal

pub wrapping_div-requires : goal.wrapping_div-requires
wrapping_div-requires c = not_zero num.Long c.args.b c.ranges.b c.requires

pub returns : goal.returns
returns c = quotient_from num.Long c.args.a c.ranges.a _ c.wrapping_div.type_inv c.args.b c.ranges.b c.wrapping_div.ensures
