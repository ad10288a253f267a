use Rattle.sdg_base.specs.declared.val.Num.TheVariants as num
use Rattle.sdg_base.proofs.Machine.{int_distance, right_from}
use Rattle.sdg_base.proofs.ints.shift_right.Goals as goal

pub returns : goal.returns
returns c = right_from num.Int c.args.a c.ranges.a _ c.wrapping_shr.type_inv _ _ (int_distance _ c.args.b c.ranges.b c.cast_unsigned.ensures) c.wrapping_shr.ensures
