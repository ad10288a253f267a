use Rattle.std.proofs.Common.{arith}
use Rattle.sdg_base.specs.declared.val.Num.TheVariants as num
use Rattle.sdg_base.proofs.Machine.{int_distance, left_from}
use Rattle.sdg_base.proofs.ints.shift_left.Goals as goal

pub returns : goal.returns
returns c = left_from num.Int c.args.a c.ranges.a _ c.wrapping_shl.type_inv _ _ (int_distance _ c.args.b c.ranges.b c.cast_unsigned.ensures) (omega arith) c.wrapping_shl.ensures
