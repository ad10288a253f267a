-- Reading locals and the statements that are expressions (JLS 14.4, 14.8).
-- The number is how many levels are left, that of the statement itself included.
use Rattle.std.specs.Prelude.{ℕ, zero, suc, Bool, true, false, ◌&&◌, if◌then◌else◌, List, [], ◌∷◌, Option, Some, None, is_some, Result, Ok, codes}
use Rattle.java_tree.specs.declared.token.Kind.TheVariants as k
use Rattle.java_tree.specs.declared.token.Symbol.{Symbol}
use Rattle.java_tree.specs.declared.token.Symbol.TheVariants as symbol
use Rattle.java_tree.specs.declared.tree.Local.{Local}
use Rattle.java_tree.specs.declared.tree.Simple.{Simple}
use Rattle.java_tree.specs.declared.tree.Simple.TheVariants as simple
use Rattle.java_tree.specs.declared.tree.Value.{Value}
use Rattle.java_tree.specs.Tokens.{Kinds, assign_symbol}
use Rattle.java_parser.specs.declared.forms.SimpleForm.{SimpleForm}
use Rattle.java_parser.specs.declared.forms.SimpleForm.TheVariants as form
use Rattle.java_parser.specs.Words.{◌>>=◌, Fault, Reading, too_deep, begins, after, name_at, all_at}
use Rattle.java_parser.specs.Members.{at_sign, assign, comma, optional_at, annotated, is_named, type_of, type_at}
use Rattle.java_parser.specs.Forms.{simple_form}
use Rattle.java_parser.specs.Expressions.{value_at, call_at}

-- how many levels are left inside
unfoldable pub inside : ℕ → Kinds → Result ℕ Fault
inside zero rest = too_deep rest
inside (suc n) rest = Ok n

-- ---- locals

unfoldable pub begins_name : Kinds → Bool
begins_name (k.Identifier name ∷ rest) = true
begins_name _ = false

abbrev pub is_partial_ahead : Kinds → Bool
is_partial_ahead rest = begins at_sign rest && is_named (codes "Partial") rest

-- A local begins with its annotation, or with its type and its name.
unfoldable pub local_ahead : Kinds → Bool
local_ahead (k.Reserved w ∷ rest) = is_some (type_of w)
local_ahead (k.Identifier name ∷ rest) = begins_name rest
local_ahead (k.Symbol s ∷ rest) = is_partial_ahead (k.Symbol s ∷ rest)
local_ahead _ = false

unfoldable pub initialiser_at : ℕ → Kinds → Reading (Option Value)
initialiser_at n rest = if begins assign rest then (do
  rest ← after (assign ∷ []) rest
  value ← value_at n rest
  Ok (Some value.0, value.1)) else Ok (None, rest)

unfoldable pub local_at : ℕ → Kinds → Reading Local
local_at n rest = do
  n ← inside n rest
  partial ← optional_at at_sign (k.Identifier (codes "Partial") ∷ []) rest
  type_name ← type_at partial.1
  name ← name_at type_name.1
  value ← initialiser_at n name.1
  Ok (record { is_partial = partial.0; type_name = type_name.0; name = name.0; value = value.0 }, value.1)

-- ---- simple statements

-- the name of a step up or down, before its symbol and behind it
unfoldable pub named_before : Symbol → Kinds → Reading (List ℕ)
named_before s rest = do
  name ← name_at rest
  rest ← after (k.Symbol s ∷ []) name.1
  Ok (name.0, rest)

unfoldable pub named_behind : Symbol → Kinds → Reading (List ℕ)
named_behind s rest = do
  rest ← after (k.Symbol s ∷ []) rest
  name_at rest

unfoldable pub simple_of : SimpleForm → ℕ → Kinds → Reading Simple
simple_of (form.Assign op) n rest = do
  name ← named_before (assign_symbol op) rest
  value ← value_at n name.1
  Ok (simple.Assign name.0 op value.0, value.1)
simple_of form.PostIncrement n rest = do
  name ← named_before symbol.PlusPlus rest
  Ok (simple.PostIncrement name.0, name.1)
simple_of form.PostDecrement n rest = do
  name ← named_before symbol.MinusMinus rest
  Ok (simple.PostDecrement name.0, name.1)
simple_of form.PreIncrement n rest = do
  name ← named_behind symbol.PlusPlus rest
  Ok (simple.PreIncrement name.0, name.1)
simple_of form.PreDecrement n rest = do
  name ← named_behind symbol.MinusMinus rest
  Ok (simple.PreDecrement name.0, name.1)
simple_of form.GlobalCall n rest = do
  rest ← annotated (codes "Global") rest
  call ← call_at n rest
  Ok (simple.Call true call.0, call.1)
simple_of form.Call n rest = do
  call ← call_at n rest
  Ok (simple.Call false call.0, call.1)

-- with how many levels are left inside it
unfoldable pub simple_in : ℕ → Kinds → Reading Simple
simple_in n rest = simple_of (simple_form rest) n rest

unfoldable pub simple_at : ℕ → Kinds → Reading Simple
simple_at n rest = do
  n ← inside n rest
  simple_in n rest

unfoldable pub other_simple_at : ℕ → Kinds → Reading Simple
other_simple_at n rest = do
  rest ← after (comma ∷ []) rest
  simple_at n rest

unfoldable pub other_simples_at : ℕ → Kinds → Reading (List Simple)
other_simples_at n = all_at (begins comma) (other_simple_at n)

unfoldable pub simples_at : ℕ → Kinds → Reading (List Simple)
simples_at n rest = do
  first ← simple_at n rest
  others ← other_simples_at n first.1
  Ok (first.0 ∷ others.0, others.1)
