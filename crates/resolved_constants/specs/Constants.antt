-- What is resolved of a constant expression has the value that the rules on flow find, and its type.
use Rattle.std.specs.Prelude.{◌≡◌, Bool, true, false, Option, Some, None}
use Rattle.sdg_base.specs.declared.operator.UnOp.TheVariants as un
use Rattle.sdg_base.specs.declared.val.Val.{Val}
use Rattle.sdg_base.specs.declared.val.Val.TheVariants as val
use Rattle.sdg_base.specs.Operations.{unary_operation}
use Rattle.java_tree.specs.declared.types.ValueType.TheVariants.{Int, Long, Boolean, Vector}
use Rattle.java_tree.specs.declared.types.ExprType.{ExprType}
use Rattle.java_tree.specs.declared.types.ExprType.TheVariants.{Value, Void}
use Rattle.java_types.specs.Fits.{is_long}
use Rattle.java_flow.specs.Constants.{Constant as FlowConstant}
use Rattle.java_flow.specs.Expressions.{Judged}
use Rattle.access_blocks.specs.declared.resolved.Resolved.{Resolved}
use Rattle.body_code.specs.Completing.{Constant, IsNone, HasNoValue, Is, constant_of}

abbrev pub type_of_value : Val → ExprType
type_of_value (val.Int n) = Value Int
type_of_value (val.Long n) = Value Long
type_of_value (val.Bool b) = Value Boolean
type_of_value (val.Vector items) = Value Vector
type_of_value val.Unit = Void

-- the types of constants
abbrev pub is_simple : ExprType → Bool
is_simple (Value Int) = true
is_simple (Value Long) = true
is_simple (Value Boolean) = true
is_simple _ = false

-- its value, or that it throws
abbrev pub constant_by : Option Val → Constant
constant_by None = HasNoValue
constant_by (Some v) = Is v

abbrev pub constant_from : FlowConstant → Constant
constant_from None = IsNone
constant_from (Some k) = constant_by k

-- The value is of the type that was found: a number or a truth value.
abbrev pub IsOfFound : ExprType → Option Val → Type 0
IsOfFound found None = Unit {0}
IsOfFound found (Some v) = found ≡ type_of_value v

-- The least number of a type is its own negative: its digits stand behind a minus alone.
abbrev pub IsOwnNegative : Option Val → Type 0
IsOwnNegative None = Unit {0}
IsOwnNegative (Some v) = unary_operation un.Minus v ≡ Some v

pub record HasConstant (found : ExprType) (is_long_there : Bool) (k : Option Val) (r : Resolved) : Type 0 where
  pub same : constant_of r.expression ≡ constant_by k
  pub simple : is_simple found ≡ true
  pub long : is_long_there ≡ is_long found
  pub of_found : IsOfFound found k
  pub minimum : r.is_minimum ≡ true → IsOwnNegative k

-- No constant is none when it is resolved, and no literal.
pub record HasNoConstant (r : Resolved) : Type 0 where
  pub same : constant_of r.expression ≡ IsNone
  pub minimum : r.is_minimum ≡ false

abbrev pub Agrees : ExprType → Bool → FlowConstant → Resolved → Type 0
Agrees found is_long_there None r = HasNoConstant r
Agrees found is_long_there (Some k) r = HasConstant found is_long_there k r

pub record IsJudged (found : ExprType) (j : Judged) (r : Resolved) : Type 0 where
  pub same : r.found ≡ found
  pub agrees : Agrees found j.is_long j.constant r
