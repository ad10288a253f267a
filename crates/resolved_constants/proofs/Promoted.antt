-- What promotions give on values of some types.
use Rattle.std.proofs.Common.{◌≡◌, refl}
use Rattle.sdg_base.specs.declared.val.Num.TheVariants as num
use Rattle.sdg_base.specs.declared.val.Val.{Val}
use Rattle.sdg_base.specs.declared.val.Val.TheVariants as val
use Rattle.sdg_base.specs.Arithmetic.{wrap}
use Rattle.java_tree.specs.declared.types.ValueType.TheVariants.{Int, Long}
use Rattle.java_tree.specs.declared.types.ExprType.{ExprType}
use Rattle.java_tree.specs.declared.types.ExprType.TheVariants.{Value}
use Rattle.java_types.specs.Fits.{promoted}
use Rattle.java_flow.specs.Constants.{beside, distance_of}
use Rattle.resolved_constants.specs.Constants.{type_of_value}

-- a number as a value of the type that is wanted
abbrev pub as_wanted : ExprType → Val → Val
as_wanted (Value Long) (val.Int n) = val.Long n
as_wanted (Value Int) (val.Long n) = val.Int (wrap num.Int n)
as_wanted _ v = v

pub first_promoted : (a b : Val) → as_wanted (promoted (type_of_value a) (type_of_value b)) a ≡ beside b a
first_promoted (val.Int a) (val.Int b) = refl
first_promoted (val.Int a) (val.Long b) = refl
first_promoted (val.Int a) (val.Bool b) = refl
first_promoted (val.Int a) (val.Vector b) = refl
first_promoted (val.Int a) val.Unit = refl
first_promoted (val.Long a) (val.Int b) = refl
first_promoted (val.Long a) (val.Long b) = refl
first_promoted (val.Long a) (val.Bool b) = refl
first_promoted (val.Long a) (val.Vector b) = refl
first_promoted (val.Long a) val.Unit = refl
first_promoted (val.Bool a) (val.Int b) = refl
first_promoted (val.Bool a) (val.Long b) = refl
first_promoted (val.Bool a) (val.Bool b) = refl
first_promoted (val.Bool a) (val.Vector b) = refl
first_promoted (val.Bool a) val.Unit = refl
first_promoted (val.Vector a) (val.Int b) = refl
first_promoted (val.Vector a) (val.Long b) = refl
first_promoted (val.Vector a) (val.Bool b) = refl
first_promoted (val.Vector a) (val.Vector b) = refl
first_promoted (val.Vector a) val.Unit = refl
first_promoted val.Unit (val.Int b) = refl
first_promoted val.Unit (val.Long b) = refl
first_promoted val.Unit (val.Bool b) = refl
first_promoted val.Unit (val.Vector b) = refl
first_promoted val.Unit val.Unit = refl

pub second_promoted : (a b : Val) → as_wanted (promoted (type_of_value a) (type_of_value b)) b ≡ beside (beside b a) b
second_promoted (val.Int a) (val.Int b) = refl
second_promoted (val.Int a) (val.Long b) = refl
second_promoted (val.Int a) (val.Bool b) = refl
second_promoted (val.Int a) (val.Vector b) = refl
second_promoted (val.Int a) val.Unit = refl
second_promoted (val.Long a) (val.Int b) = refl
second_promoted (val.Long a) (val.Long b) = refl
second_promoted (val.Long a) (val.Bool b) = refl
second_promoted (val.Long a) (val.Vector b) = refl
second_promoted (val.Long a) val.Unit = refl
second_promoted (val.Bool a) (val.Int b) = refl
second_promoted (val.Bool a) (val.Long b) = refl
second_promoted (val.Bool a) (val.Bool b) = refl
second_promoted (val.Bool a) (val.Vector b) = refl
second_promoted (val.Bool a) val.Unit = refl
second_promoted (val.Vector a) (val.Int b) = refl
second_promoted (val.Vector a) (val.Long b) = refl
second_promoted (val.Vector a) (val.Bool b) = refl
second_promoted (val.Vector a) (val.Vector b) = refl
second_promoted (val.Vector a) val.Unit = refl
second_promoted val.Unit (val.Int b) = refl
second_promoted val.Unit (val.Long b) = refl
second_promoted val.Unit (val.Bool b) = refl
second_promoted val.Unit (val.Vector b) = refl
second_promoted val.Unit val.Unit = refl

pub distance_is : (b : Val) → as_wanted (Value Int) b ≡ distance_of b
distance_is (val.Int b) = refl
distance_is (val.Long b) = refl
distance_is (val.Bool b) = refl
distance_is (val.Vector b) = refl
distance_is val.Unit = refl
