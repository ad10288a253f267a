-- Which statements can complete normally (JLS 14.22), on bodies whose conversions are casts.
use Rattle.std.specs.Prelude.{Bool, true, false, not, ◌||◌, List, [], ◌∷◌, map, Option, Some, None, Result, Ok, Err}
use Rattle.sdg_base.specs.declared.val.Val.{Val}
use Rattle.sdg_base.specs.declared.val.Val.TheVariants as val
use Rattle.sdg_base.specs.declared.val.Exn.{Exn}
use Rattle.sdg_base.specs.declared.operator.BinOp.{BinOp}
use Rattle.sdg_base.specs.declared.operator.BinOp.TheVariants as bin
use Rattle.sdg_base.specs.Operations.{operation, unary_operation, converted}
use Rattle.access_blocks.specs.declared.body.Expression.{Expression}
use Rattle.access_blocks.specs.declared.body.Expression.TheOpen.{Expression-F}
use Rattle.access_blocks.specs.declared.body.Expression.TheOpen as e
use Rattle.access_blocks.specs.declared.body.Expression.TheFolds.{fold-Expression}
use Rattle.access_blocks.specs.declared.body.Statement.{Statement}
use Rattle.access_blocks.specs.declared.body.Statement.TheOpen.{Statement-F}
use Rattle.access_blocks.specs.declared.body.Statement.TheOpen as s
use Rattle.access_blocks.specs.declared.body.Statement.TheFolds.{fold-Statement}
use Rattle.access_blocks.specs.declared.body.Target.{Target}
use Rattle.access_blocks.specs.declared.body.Target.TheVariants as target

-- ---- constant expressions (JLS 15.28)

-- it isn't built of literals, casts and operators; it throws; or it has a value
pub data Constant : Type 0 where
  IsNone : Constant
  HasNoValue : Constant
  Is : Val → Constant

abbrev pub given : Option Val → Constant
given None = IsNone
given (Some v) = Is v

abbrev pub answered : Option (Result Val Exn) → Constant
answered None = IsNone
answered (Some (Ok v)) = Is v
answered (Some (Err e)) = HasNoValue

abbrev pub on_one : (Val → Option Val) → Constant → Constant
on_one f IsNone = IsNone
on_one f HasNoValue = HasNoValue
on_one f (Is v) = given (f v)

abbrev pub on_two : BinOp → Constant → Constant → Constant
on_two op IsNone b = IsNone
on_two op a IsNone = IsNone
on_two op (Is a) (Is b) = answered (operation op a b)
on_two op a b = HasNoValue

-- one of two; what isn't evaluated does not throw
abbrev pub chosen : Constant → Constant → Constant → Constant
chosen IsNone a b = IsNone
chosen test IsNone b = IsNone
chosen test a IsNone = IsNone
chosen (Is (val.Bool true)) a b = a
chosen (Is (val.Bool false)) a b = b
chosen HasNoValue a b = HasNoValue
chosen _ a b = IsNone

abbrev pub operated : BinOp → Constant → Constant → Constant
operated bin.AndAlso a b = chosen a b (Is (val.Bool false))
operated bin.OrElse a b = chosen a (Is (val.Bool true)) b
operated op a b = on_two op a b

abbrev pub constant_step : Expression-F Constant → Constant
constant_step (e.Int n) = Is (val.Int n)
constant_step (e.Long n) = Is (val.Long n)
constant_step (e.Bool b) = Is (val.Bool b)
constant_step (e.Unary op a) = on_one (unary_operation op) a
constant_step (e.Binary op a b) = operated op a b
constant_step (e.Cast to a) = on_one (converted to) a
constant_step (e.Conditional test a b) = chosen test a b
constant_step _ = IsNone

abbrev pub constant_of : Expression → Constant
constant_of = fold-Expression Constant constant_step

-- ---- statements

abbrev pub is_constant_true : Constant → Bool
is_constant_true (Is (val.Bool b)) = b
is_constant_true _ = false

-- A loop without condition goes on, as one with the constant `true` does.
abbrev pub goes_on : Option Expression → Bool
goes_on None = true
goes_on (Some test) = is_constant_true (constant_of test)

-- whether a statement completes normally, and whether a `break` in it leaves the loop around it
pub record Leaving : Type 0 where
  pub completes : Bool
  pub breaks : Bool

abbrev pub leaving : Bool → Bool → Leaving
leaving completes breaks = record { completes = completes; breaks = breaks }

-- A list completes where its last statement does: no statement before it is unreachable.
abbrev pub completing : List Leaving → Bool
completing [] = true
completing (l ∷ []) = l.completes
completing (l ∷ ls) = completing ls

abbrev pub breaking : List Leaving → Bool
breaking [] = false
breaking (l ∷ ls) = l.breaks || breaking ls

abbrev pub of_second : Leaving → Option Leaving → Leaving
of_second first None = leaving true first.breaks
of_second first (Some second) = leaving (first.completes || second.completes) (first.breaks || second.breaks)

abbrev pub is_returned : Target → Bool
is_returned target.Returned = true
is_returned _ = false

abbrev pub leaving_step : Statement-F Leaving → Leaving
leaving_step (s.Access a) = leaving (not (is_returned a.target)) false
leaving_step (s.Marked mark body) = body
leaving_step (s.Opened body) = body
leaving_step (s.Block items) = leaving (completing items) (breaking items)
leaving_step (s.If test first second) = of_second first second
leaving_step (s.Loop start test update body) = leaving (not (goes_on test) || body.breaks) false
leaving_step s.Break = leaving false true
leaving_step s.Continue = leaving false false
leaving_step (s.Return x) = leaving false false
leaving_step _ = leaving true false

abbrev pub leaving_of : Statement → Leaving
leaving_of = fold-Statement Leaving leaving_step

abbrev pub body_completes : List Statement → Bool
body_completes ss = completing (map leaving_of ss)
