use Rattle.sdg_base.specs.declared.val.Num.TheVariants as num
use Rattle.sdg_base.proofs.Machine.{int_distance, unsigned_from}
use Rattle.sdg_base.proofs.ints.shift_right_unsigned.Goals as goal

pub returns : goal.returns
returns c = unsigned_from num.Int c.args.a c.ranges.a _ c.cast_signed.type_inv _ _ _ _ (int_distance _ c.args.b c.ranges.b c.cast_unsigned-2.ensures) c.cast_unsigned.ensures c.wrapping_shr.ensures c.cast_signed.ensures
