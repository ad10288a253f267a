-- Where the whole of an expression is constant, its parts are.
use Rattle.std.proofs.Common.{◌≡◌, Bool, true, false, Option, Some, None, refl}
use Rattle.sdg_base.specs.declared.operator.BinOp.{BinOp}
use Rattle.sdg_base.specs.declared.operator.BinOp.TheVariants as bin
use Rattle.sdg_base.specs.declared.operator.UnOp.{UnOp}
use Rattle.sdg_base.specs.declared.val.Num.{Num}
use Rattle.sdg_base.specs.declared.val.Val.{Val}
use Rattle.sdg_base.specs.declared.val.Val.TheVariants as val
use Rattle.java_flow.specs.Constants.{Constant, of_both, of_and, of_or, unary_constant, cast_constant, binary_constant, conditional_constant}

abbrev pub IsConstant : Constant → Type 0
IsConstant a = (k : Option Val) × (a ≡ Some k)

pub unary_given : (op : UnOp) (a : Constant) (k : Option Val) → unary_constant op a ≡ Some k → IsConstant a
unary_given op None k h = absurd (cc)
unary_given op (Some x) k h = (x, refl)

pub cast_given : (to : Num) (a : Constant) (k : Option Val) → cast_constant to a ≡ Some k → IsConstant a
cast_given to None k h = absurd (cc)
cast_given to (Some x) k h = (x, refl)

both_given : (op : BinOp) (a b : Constant) (k : Option Val) → of_both op a b ≡ Some k → IsConstant a × IsConstant b
both_given op None b k h = absurd (cc)
both_given op (Some None) None k h = absurd (cc)
both_given op (Some (Some u)) None k h = absurd (cc)
both_given op (Some x) (Some y) k h = ((x, refl), (y, refl))

and_given : (a b : Constant) (k : Option Val) → of_and a b ≡ Some k → IsConstant a × IsConstant b
and_given None b k h = absurd (cc)
and_given (Some None) None k h = absurd (cc)
and_given (Some (Some (val.Int n))) None k h = absurd (cc)
and_given (Some (Some (val.Long n))) None k h = absurd (cc)
and_given (Some (Some (val.Bool true))) None k h = absurd (cc)
and_given (Some (Some (val.Bool false))) None k h = absurd (cc)
and_given (Some (Some (val.Vector ns))) None k h = absurd (cc)
and_given (Some (Some val.Unit)) None k h = absurd (cc)
and_given (Some x) (Some y) k h = ((x, refl), (y, refl))

or_given : (a b : Constant) (k : Option Val) → of_or a b ≡ Some k → IsConstant a × IsConstant b
or_given None b k h = absurd (cc)
or_given (Some None) None k h = absurd (cc)
or_given (Some (Some (val.Int n))) None k h = absurd (cc)
or_given (Some (Some (val.Long n))) None k h = absurd (cc)
or_given (Some (Some (val.Bool true))) None k h = absurd (cc)
or_given (Some (Some (val.Bool false))) None k h = absurd (cc)
or_given (Some (Some (val.Vector ns))) None k h = absurd (cc)
or_given (Some (Some val.Unit)) None k h = absurd (cc)
or_given (Some x) (Some y) k h = ((x, refl), (y, refl))

pub binary_given : (op : BinOp) (a b : Constant) (k : Option Val) → binary_constant op a b ≡ Some k → IsConstant a × IsConstant b
binary_given bin.AndAlso a b k h = and_given a b k h
binary_given bin.OrElse a b k h = or_given a b k h
binary_given op a b k h = both_given op a b k h

no_first : (long : Bool) (test : Option Val) (b : Constant) (k : Option Val) → conditional_constant long (Some test) None b ≡ Some k → ⊥
no_first long None b k h = cc
no_first long (Some (val.Int n)) b k h = cc
no_first long (Some (val.Long n)) b k h = cc
no_first long (Some (val.Bool true)) b k h = cc
no_first long (Some (val.Bool false)) b k h = cc
no_first long (Some (val.Vector ns)) b k h = cc
no_first long (Some val.Unit) b k h = cc

no_second : (long : Bool) (test a k : Option Val) → conditional_constant long (Some test) (Some a) None ≡ Some k → ⊥
no_second long None a k h = cc
no_second long (Some (val.Int n)) a k h = cc
no_second long (Some (val.Long n)) a k h = cc
no_second long (Some (val.Bool true)) a k h = cc
no_second long (Some (val.Bool false)) a k h = cc
no_second long (Some (val.Vector ns)) a k h = cc
no_second long (Some val.Unit) a k h = cc

pub conditional_given : (long : Bool) (test a b : Constant) (k : Option Val) → conditional_constant long test a b ≡ Some k → IsConstant test × IsConstant a × IsConstant b
conditional_given long None a b k h = absurd (cc)
conditional_given long (Some t) None b k h = absurd (no_first long t b k h)
conditional_given long (Some t) (Some x) None k h = absurd (no_second long t x k h)
conditional_given long (Some t) (Some x) (Some y) k h = ((t, refl), (x, refl), (y, refl))
