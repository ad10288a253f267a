-- The arguments of a call as a method takes them: None where they are of other types, or of another number.
use Rattle.std.specs.Prelude.{ℤ, List, [], ◌∷◌, Option, Some, None}
use Rattle.sdg_base.specs.declared.val.Val.{Val}
use Rattle.sdg_base.specs.declared.val.Val.TheVariants as val

abbrev pub nothing : List Val → Option (Unit {0})
nothing [] = Some tt
nothing _ = None

abbrev pub one_long : List Val → Option ℤ
one_long (val.Long a ∷ []) = Some a
one_long _ = None

abbrev pub two_longs : List Val → Option (ℤ × ℤ)
two_longs (val.Long a ∷ val.Long b ∷ []) = Some (a, b)
two_longs _ = None

abbrev pub three_longs : List Val → Option (ℤ × ℤ × ℤ)
three_longs (val.Long a ∷ val.Long b ∷ val.Long c ∷ []) = Some (a, b, c)
three_longs _ = None

abbrev pub long_and_int : List Val → Option (ℤ × ℤ)
long_and_int (val.Long a ∷ val.Int b ∷ []) = Some (a, b)
long_and_int _ = None

abbrev pub one_vector : List Val → Option (List ℤ)
one_vector (val.Vector v ∷ []) = Some v
one_vector _ = None
