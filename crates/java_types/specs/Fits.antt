-- Which types fit operators, targets and parameters (JLS 5.2, 5.6, 15.15 to 15.25). What has no type fits everywhere.
use Rattle.std.specs.Prelude.{ℕ, Bool, true, false, not, ◌&&◌, ◌||◌, ◌==◌, List, if◌then◌else◌, codes}
use Rattle.std.specs.Str.{bytes_eq}
use Rattle.sdg_base.specs.declared.operator.BinOp.{BinOp}
use Rattle.sdg_base.specs.declared.operator.BinOp.TheVariants as bin
use Rattle.sdg_base.specs.declared.operator.UnOp.{UnOp}
use Rattle.sdg_base.specs.declared.operator.UnOp.TheVariants as un
use Rattle.sdg_base.specs.declared.val.Num.{Num}
use Rattle.sdg_base.specs.declared.val.Num.TheVariants as num
use Rattle.java_tree.specs.declared.types.ValueType.{ValueType}
use Rattle.java_tree.specs.declared.types.ValueType.TheVariants.{Int, Long, Boolean, Vector}
use Rattle.java_tree.specs.declared.types.ExprType.{ExprType}
use Rattle.java_tree.specs.declared.types.ExprType.TheVariants.{Unknown, Void, Value, Collection, State}
use Rattle.java_types.specs.declared.fits.Sort.{Sort}
use Rattle.java_types.specs.declared.fits.Sort.TheVariants as sort
use Rattle.java_types.specs.declared.walk.Given.{Given}

abbrev pub is_known : ExprType → Bool
is_known Unknown = false
is_known _ = true

abbrev pub is_void : ExprType → Bool
is_void Void = true
is_void _ = false

abbrev pub is_long : ExprType → Bool
is_long (Value Long) = true
is_long _ = false

abbrev pub is_vector : ExprType → Bool
is_vector (Value Vector) = true
is_vector _ = false

abbrev pub may_be_int : ExprType → Bool
may_be_int Unknown = true
may_be_int (Value Int) = true
may_be_int _ = false

abbrev pub may_be_number : ExprType → Bool
may_be_number Unknown = true
may_be_number (Value Int) = true
may_be_number (Value Long) = true
may_be_number _ = false

abbrev pub may_be_boolean : ExprType → Bool
may_be_boolean Unknown = true
may_be_boolean (Value Boolean) = true
may_be_boolean _ = false

abbrev pub may_be_vector : ExprType → Bool
may_be_vector Unknown = true
may_be_vector (Value Vector) = true
may_be_vector _ = false

abbrev pub may_be_collection : ExprType → Bool
may_be_collection Unknown = true
may_be_collection (Collection item) = true
may_be_collection _ = false

-- the type of a collection's members
abbrev pub item_type : ExprType → ExprType
item_type (Collection item) = Value item
item_type _ = Unknown

abbrev pub is_same : ValueType → ValueType → Bool
is_same Int Int = true
is_same Long Long = true
is_same Boolean Boolean = true
is_same Vector Vector = true
is_same _ _ = false

-- no type where a rule is broken
abbrev pub unless : Bool → ExprType → ExprType
unless broken t = if broken then Unknown else t

-- nor where a part has none
abbrev pub with_part : Bool → ExprType → ExprType → ExprType
with_part broken part whole = if broken || not (is_known part) then Unknown else whole

-- ---- operators

abbrev pub sort_of : BinOp → Sort
sort_of bin.Mul = sort.Arithmetic
sort_of bin.Div = sort.Arithmetic
sort_of bin.Rem = sort.Arithmetic
sort_of bin.Add = sort.Arithmetic
sort_of bin.Sub = sort.Arithmetic
sort_of bin.Shl = sort.Shift
sort_of bin.Shr = sort.Shift
sort_of bin.UShr = sort.Shift
sort_of bin.Lt = sort.Comparison
sort_of bin.Le = sort.Comparison
sort_of bin.Gt = sort.Comparison
sort_of bin.Ge = sort.Comparison
sort_of bin.Eq = sort.Equality
sort_of bin.Ne = sort.Equality
sort_of bin.And = sort.Bitwise
sort_of bin.Xor = sort.Bitwise
sort_of bin.Or = sort.Bitwise
sort_of bin.AndAlso = sort.Logical
sort_of bin.OrElse = sort.Logical

-- a value that fits an operator by itself
abbrev pub is_operand : Sort → ExprType → Bool
is_operand sort.Arithmetic t = may_be_number t
is_operand sort.Shift t = may_be_number t
is_operand sort.Comparison t = may_be_number t
is_operand sort.Equality t = may_be_number t || may_be_boolean t
is_operand sort.Bitwise t = may_be_number t || may_be_boolean t
is_operand sort.Logical t = may_be_boolean t

-- two values that go together: two numbers, or two truth values
abbrev pub go_together : ExprType → ExprType → Bool
go_together a b = may_be_number a && may_be_number b || may_be_boolean a && may_be_boolean b

-- `==`, `!=` and `?:` on a vector, which offend as a whole
abbrev pub are_vectors_compared : Sort → ExprType → ExprType → Bool
are_vectors_compared sort.Equality a b = is_vector a || is_vector b
are_vectors_compared _ a b = false

-- Where operands fit each alone but not together, the offending one is the last.
abbrev pub misfits_behind : Sort → ExprType → ExprType → Bool
misfits_behind s a b = not (is_operand s b) || is_operand s a && not (go_together a b)

-- both become `long` where one is (JLS 5.6)
abbrev pub promoted : ExprType → ExprType → ExprType
promoted a b = if is_long a || is_long b then Value Long else a

abbrev pub given_by : Sort → ExprType → ExprType → ExprType
given_by sort.Arithmetic a b = promoted a b
given_by sort.Shift a b = a
given_by sort.Comparison a b = Value Boolean
given_by sort.Equality a b = Value Boolean
given_by sort.Bitwise a b = promoted a b
given_by sort.Logical a b = Value Boolean

abbrev pub outcome : Bool → Sort → ExprType → ExprType → ExprType
outcome broken s a b = if broken || (not (is_known a) || not (is_known b)) then Unknown else given_by s a b

abbrev pub choice : Bool → ExprType → ExprType → ExprType → ExprType
choice broken test a b = if broken || (not (is_known test) || (not (is_known a) || not (is_known b))) then Unknown else promoted a b

abbrev pub takes : UnOp → ExprType → Bool
takes un.Plus t = may_be_number t
takes un.Minus t = may_be_number t
takes un.Complement t = may_be_number t
takes un.Not t = may_be_boolean t

abbrev pub type_of_num : Num → ExprType
type_of_num num.Int = Value Int
type_of_num num.Long = Value Long

abbrev pub literal : Bool → ExprType
literal long = if long then Value Long else Value Int

-- A decimal literal of this value stands behind a minus alone (JLS 3.10.1).
abbrev pub is_minimum : ℕ → Bool → Bool → Bool
is_minimum digits decimal long = decimal && digits == (if long then 0x8000000000000000 else 0x80000000)

abbrev pub is_minus : UnOp → Bool
is_minus un.Minus = true
is_minus _ = false

-- ---- targets and parameters

abbrev pub value_fits : ValueType → ExprType → Bool
value_fits Int t = may_be_int t
value_fits Long t = may_be_number t
value_fits Boolean t = may_be_boolean t
value_fits Vector t = may_be_vector t

-- A value goes where its type is wanted, and an `int` where a `long` is.
abbrev pub fits : ExprType → ExprType → Bool
fits Unknown t = true
fits (Value wanted) t = value_fits wanted t
fits _ t = not (is_known t)

abbrev pub is_value_of : ValueType → ExprType → Bool
is_value_of item Unknown = true
is_value_of item (Value t) = is_same item t
is_value_of item _ = false

abbrev pub is_collection_of : ValueType → ExprType → Bool
is_collection_of item Unknown = true
is_collection_of item (Collection t) = is_same item t
is_collection_of item _ = false

-- `@Global` makes a collection of a value of exactly the members' type.
abbrev pub may_be_passed : ExprType → Given → Bool
may_be_passed (Collection item) given = if given.is_global then is_value_of item given.found else is_collection_of item given.found
may_be_passed Unknown given = fits Unknown given.found
may_be_passed Void given = fits Void given.found
may_be_passed (Value wanted) given = fits (Value wanted) given.found
may_be_passed (State class) given = fits (State class) given.found

-- `length` is a name of a collection alone
abbrev pub may_have_length : ExprType → List ℕ → Bool
may_have_length Unknown name = true
may_have_length (Collection item) name = bytes_eq name (codes "length")
may_have_length _ name = false

abbrev pub made_type : Bool → ExprType
made_type is_vector = if is_vector then Value Vector else Unknown
