use Rattle.sdg_base.specs.declared.val.Num.TheVariants as num
use Rattle.sdg_base.proofs.Machine.{long_distance, right_from}
use Rattle.sdg_base.proofs.longs.shift_right.Goals as goal

pub returns : goal.returns
returns c = right_from num.Long c.args.a c.ranges.a _ c.wrapping_shr.type_inv _ _ (long_distance _ c.args.b c.ranges.b c.cast_unsigned.ensures) c.wrapping_shr.ensures
