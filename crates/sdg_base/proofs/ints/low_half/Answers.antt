use Rattle.sdg_base.proofs.Machine.{low_half_from}
use Rattle.sdg_base.proofs.ints.low_half.Goals as goal

pub returns : goal.returns
returns c = low_half_from c.args.a c.ranges.a _ c.cast_signed.type_inv _ c.cast_unsigned.ensures c.cast_signed.ensures
