-- What expressions give (JLS 15): a value and the turns that are left, or the end of the call. Every expression has a
-- meaning; operands of other types than an operator takes, which no accepted class has, give one fixed value.
use Rattle.std.specs.Prelude.{ℕ, zero, suc, ℤ, pos, negsuc, Bool, true, false, List, [], ◌∷◌, length, map, replicate, nat_lt, slice_get, unwrap_or, Option, Some, None, Result, Ok, Err, if◌then◌else◌}
use Rattle.sdg_base.specs.declared.val.Val.{Val}
use Rattle.sdg_base.specs.declared.val.Val.TheVariants as val
use Rattle.sdg_base.specs.declared.val.Exn.{Exn}
use Rattle.sdg_base.specs.declared.val.Exn.TheVariants as exn
use Rattle.sdg_base.specs.declared.val.Num.{Num}
use Rattle.sdg_base.specs.declared.val.Outcome.{Outcome}
use Rattle.sdg_base.specs.declared.val.Outcome.TheVariants as outcome
use Rattle.sdg_base.specs.declared.operator.BinOp.{BinOp}
use Rattle.sdg_base.specs.declared.operator.BinOp.TheVariants as bin
use Rattle.sdg_base.specs.declared.operator.UnOp.{UnOp}
use Rattle.sdg_base.specs.Operations.{Answer, operation, unary_operation, converted}
use Rattle.access_blocks.specs.declared.body.Expression.{Expression}
use Rattle.access_blocks.specs.declared.body.Expression.TheOpen.{Expression-F}
use Rattle.access_blocks.specs.declared.body.Expression.TheOpen as e
use Rattle.access_blocks.specs.declared.body.Expression.TheFolds.{fold-Expression}
use Rattle.access_blocks.specs.declared.halt.Halt.{Halt}
use Rattle.access_blocks.specs.declared.halt.Halt.TheVariants.{Threw, OutOfTurns, TooLong}

-- something with the turns that are left, or the end of the call
pub data Ended (A : Type 0) : Type 0 where
  Gives : A → ℕ → Ended A
  Ends : Halt → Ended A

abbrev pub outcome_of : Halt → Outcome
outcome_of (Threw e) = outcome.Throws e
outcome_of OutOfTurns = outcome.Limit
outcome_of TooLong = outcome.Limit

-- one thing after the other
abbrev pub followed : {A B : Type 0} → Ended A → (A → ℕ → Ended B) → Ended B
followed (Gives a turns) f = f a turns
followed (Ends h) f = Ends h

-- what an expression sees: the variables by number, the key of the block, and the values that were gathered
pub record Seen : Type 0 where
  pub variables : List Val
  pub key : Val
  pub gathered : List Val

-- what a call of a method with arguments, on gathered values, with so many turns left gives
abbrev pub Calls : Type 0
Calls = ℕ → List Val → List Val → ℕ → Ended Val

abbrev pub Meaning : Type 0
Meaning = Seen → ℕ → Ended Val

-- ---- operators

abbrev pub answered : Answer → ℕ → Ended Val
answered None turns = Gives val.Unit turns
answered (Some (Ok v)) turns = Gives v turns
answered (Some (Err e)) turns = Ends (Threw e)

abbrev pub given : Option Val → ℕ → Ended Val
given v turns = Gives (unwrap_or v val.Unit) turns

-- whether a value is the condition `true`
abbrev pub is_true : Val → Bool
is_true (val.Bool b) = b
is_true _ = false

-- The second operand of `&&` is evaluated where the first is true (JLS 15.23), and of `||` where it is not (JLS 15.24).
abbrev pub after_first : BinOp → Val → (ℕ → Ended Val) → ℕ → Ended Val
after_first bin.AndAlso a second turns = if is_true a then second turns else Gives (val.Bool false) turns
after_first bin.OrElse a second turns = if is_true a then Gives (val.Bool true) turns else second turns
after_first op a second turns = followed (second turns) (λ b left. answered (operation op a b) left)

-- ---- vectors

-- the most elements that a vector may have
abbrev pub most_elements : ℕ
most_elements = 4096

abbrev pub new_vector : Val → ℕ → Ended Val
new_vector (val.Int (pos n)) turns = if nat_lt most_elements n then Ends TooLong else Gives (val.Vector (replicate n (pos 0))) turns
new_vector (val.Int (negsuc n)) turns = Ends (Threw exn.NegativeSize)
new_vector _ turns = Gives val.Unit turns

-- what stands at an index, where the index is not outside
abbrev pub member_at : {A : Type 0} → Val → List A → Option A
member_at (val.Int (pos n)) xs = slice_get xs n
member_at _ xs = None

abbrev pub longs_in : Val → List ℤ
longs_in (val.Vector xs) = xs
longs_in _ = []

abbrev pub size_of : Val → Val
size_of v = val.Int (pos (length (longs_in v)))

-- An index outside throws.
abbrev pub found : {A : Type 0} → (A → Val) → Option A → ℕ → Ended Val
found f None turns = Ends (Threw exn.Index)
found f (Some a) turns = Gives (f a) turns

abbrev pub element_of : Val → Val → ℕ → Ended Val
element_of v at turns = found val.Long (member_at at (longs_in v)) turns

abbrev pub variable_of : Seen → ℕ → Val
variable_of seen v = unwrap_or (slice_get seen.variables v) val.Unit

abbrev pub gathered_at : Seen → Val → ℕ → Ended Val
gathered_at seen at turns = found (λ v. v) (member_at at seen.gathered) turns

-- ---- expressions

-- arguments from left to right (JLS 15.12.4.2)
abbrev pub all_of : List Meaning → Seen → ℕ → Ended (List Val)
all_of [] seen turns = Gives [] turns
all_of (x ∷ xs) seen turns = followed (x seen turns) (λ v left. followed (all_of xs seen left) (λ vs rest. Gives (v ∷ vs) rest))

abbrev pub expression_step : Calls → Expression-F Meaning → Meaning
expression_step calls e.Nothing seen turns = Gives val.Unit turns
expression_step calls (e.Int n) seen turns = Gives (val.Int n) turns
expression_step calls (e.Long n) seen turns = Gives (val.Long n) turns
expression_step calls (e.Bool b) seen turns = Gives (val.Bool b) turns
expression_step calls (e.Variable v) seen turns = Gives (variable_of seen v) turns
expression_step calls e.CarriedKey seen turns = Gives seen.key turns
expression_step calls (e.Unary op a) seen turns = followed (a seen turns) (λ v left. given (unary_operation op v) left)
expression_step calls (e.Binary op a b) seen turns = followed (a seen turns) (λ v left. after_first op v (b seen) left)
expression_step calls (e.Cast to a) seen turns = followed (a seen turns) (λ v left. given (converted to v) left)
expression_step calls (e.Conditional test a b) seen turns = followed (test seen turns) (λ v left. if is_true v then a seen left else b seen left)
expression_step calls (e.NewVector n) seen turns = followed (n seen turns) new_vector
expression_step calls (e.VectorSize v) seen turns = Gives (size_of (variable_of seen v)) turns
expression_step calls (e.VectorElement v at) seen turns = followed (at seen turns) (element_of (variable_of seen v))
expression_step calls e.GatheredLength seen turns = Gives (val.Int (pos (length seen.gathered))) turns
expression_step calls (e.Gathered at) seen turns = followed (at seen turns) (gathered_at seen)
expression_step calls (e.GatheredSize at) seen turns = followed (at seen turns) (λ i left. followed (gathered_at seen i left) (λ v rest. Gives (size_of v) rest))
-- The index of the vector is tested before the index of the element is evaluated (JLS 15.10.4).
expression_step calls (e.GatheredElement at index) seen turns =
    followed (at seen turns) (λ i left. followed (gathered_at seen i left) (λ v rest. followed (index seen rest) (element_of v)))
expression_step calls (e.Call m args) seen turns = followed (all_of args seen turns) (λ vs left. calls m vs [] left)
expression_step calls (e.Merge m) seen turns = calls m (val.Unit ∷ []) seen.gathered turns

abbrev pub value_of : Calls → Expression → Meaning
value_of calls = fold-Expression Meaning (expression_step calls)

abbrev pub values_of : Calls → List Expression → Seen → ℕ → Ended (List Val)
values_of calls xs = all_of (map (value_of calls) xs)
