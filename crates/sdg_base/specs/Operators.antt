-- Java's operators on numbers (JLS 4.2.2, 5.1.2, 5.6 and 15.18.2).
use Rattle.std.specs.Prelude.{◌+ℤ◌}
use Rattle.sdg_base.specs.declared.val.Num.TheVariants as num
use Rattle.sdg_base.specs.declared.val.Val.{Val}
use Rattle.sdg_base.specs.declared.val.Val.TheVariants.{Int, Long}
use Rattle.sdg_base.specs.Arithmetic.{wrap}

-- a value of a numeric type
abbrev pub IsNumber : Val → Type 0
IsNumber (Int n) = Unit {0}
IsNumber (Long n) = Unit {0}
IsNumber _ = ⊥

-- an int as the long of the same value; each other value stays
abbrev pub widened : Val → Val
widened (Int n) = Long n
widened v = v

-- The sum of the whole numbers, wrapped around at the width of the promoted type: 32 bits for two ints, else 64.
abbrev pub sum_of : Val → Val → Val
sum_of (Int a) (Int b) = Int (wrap num.Int (a +ℤ b))
sum_of (Int a) (Long b) = Long (wrap num.Long (a +ℤ b))
sum_of (Long a) (Int b) = Long (wrap num.Long (a +ℤ b))
sum_of (Long a) (Long b) = Long (wrap num.Long (a +ℤ b))
sum_of a _ = a
