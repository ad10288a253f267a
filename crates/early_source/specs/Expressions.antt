-- The value of an expression (JLS 15), where it has one today: literals of type int, variables, parentheses and sums.
use Rattle.std.specs.Prelude.{ℕ, ◌^◌, pos, Bool, true, false, ◌&&◌, if◌then◌else◌, nat_lt, List, [], ◌∷◌, Option, Some, None}
use Rattle.sdg_base.specs.declared.val.Val.{Val}
use Rattle.sdg_base.specs.declared.val.Val.TheVariants as val
use Rattle.sdg_base.specs.declared.operator.BinOp.{BinOp}
use Rattle.sdg_base.specs.declared.operator.BinOp.TheVariants as bin
use Rattle.sdg_base.specs.Operators.{sum_of}
use Rattle.java_tree.specs.declared.tree.Expr.{Expr}
use Rattle.java_tree.specs.declared.tree.Value.{Value, out-Value}
use Rattle.java_tree.specs.declared.tree.CallForm.TheOpen.{CallForm-F, Expr-F, Value-F}
use Rattle.java_tree.specs.declared.tree.CallForm.TheOpen as e
use Rattle.java_tree.specs.declared.tree.CallForm.TheFolds.{fold-Expr}
use Rattle.early_source.specs.Variables.{Variables, named}

-- None where the expression has no meaning today
abbrev pub Meaning : Type 0
Meaning = Variables → Option Val

abbrev pub is_number : Val → Bool
is_number (val.Int n) = true
is_number (val.Long n) = true
is_number _ = false

-- A decimal literal without suffix is an int (JLS 3.10.1).
abbrev pub literal : ℕ → Bool → Bool → Option Val
literal digits true false = if nat_lt digits (2 ^ 31) then Some (val.Int (pos digits)) else None
literal digits _ _ = None

abbrev pub sum : Option Val → Option Val → Option Val
sum (Some a) (Some b) = if is_number a && is_number b then Some (sum_of a b) else None
sum _ _ = None

abbrev pub applied : BinOp → Option Val → Option Val → Option Val
applied bin.Add a b = sum a b
applied _ a b = None

abbrev pub expr_step : Expr-F (Unit {0}) Meaning Meaning → Meaning
expr_step (e.Number digits decimal long) variables = literal digits decimal long
expr_step (e.Name name) variables = named name variables
expr_step (e.Paren inner) variables = inner variables
expr_step (e.Binary op left right) variables = applied op (left variables) (right variables)
expr_step _ variables = None

abbrev pub value_step : Value-F (Unit {0}) Meaning Meaning → Meaning
value_step v = v.expr

abbrev pub call_step : CallForm-F (Unit {0}) Meaning Meaning → Unit {0}
call_step c = tt

abbrev pub value_of : Expr → Meaning
value_of = fold-Expr (Unit {0}) Meaning Meaning call_step expr_step value_step

-- a number as a long, where a long is wanted: on assignment, as an argument and on return (JLS 5.2, 5.3)
abbrev pub as_long : Val → Option Val
as_long (val.Int n) = Some (val.Long n)
as_long (val.Long n) = Some (val.Long n)
as_long _ = None

abbrev pub long_from : Option Val → Option Val
long_from None = None
long_from (Some v) = as_long v

-- the value of an expression where a long is wanted
abbrev pub long_of : Value → Meaning
long_of v variables = if (out-Value v).is_global then None else long_from (value_of (out-Value v).expr variables)

abbrev pub cons_if : Option Val → Option (List Val) → Option (List Val)
cons_if (Some v) (Some vs) = Some (v ∷ vs)
cons_if _ _ = None

-- arguments from left to right (JLS 15.12.4.2)
abbrev pub longs_of : List Value → Variables → Option (List Val)
longs_of [] variables = Some []
longs_of (v ∷ vs) variables = cons_if (long_of v variables) (longs_of vs variables)
