-- Which calls a class of the straight form can be given.
use Rattle.std.specs.Prelude.{◌≡◌, length, All, Some, slice_get}
use Rattle.sdg_base.specs.declared.val.Val.{Val}
use Rattle.sdg_base.specs.declared.val.Val.TheVariants as val
use Rattle.sdg_base.specs.declared.call.Call.{Call}
use Rattle.early_forms.specs.declared.straight.StraightMethod.{StraightMethod}
use Rattle.early_forms.specs.declared.straight.StraightClass.{StraightClass}

abbrev pub IsLong : Val → Type 0
IsLong (val.Long n) = Unit {0}
IsLong _ = ⊥

-- The method is there, and each of its parameters has an argument, which is a long.
pub record CallFits (class : StraightClass) (call : Call) : Type 0 where
  pub method : StraightMethod
  pub is_method : slice_get class.methods call.method ≡ Some method
  pub as_many : length call.args ≡ length method.parameters
  pub longs : All IsLong call.args
