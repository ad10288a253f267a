-- Reading expressions (JLS 15). Each is read with a number of levels on which it may stand inside itself, and goes on with
-- operators that hold loosely enough: 0 is for an operand of a unary operator, 1 and more also for the rows of operators
-- from the tightest level on, and 11 also for a conditional.
use Rattle.std.specs.Prelude.{ℕ, zero, suc, ◌-◌, Bool, true, false, not, ◌&&◌, if◌then◌else◌, nat_eq, nat_lt, nat_le, List, [], ◌∷◌, length, Option, Some, None, Ok, codes}
use Rattle.sdg_base.specs.declared.operator.BinOp.{BinOp}
use Rattle.sdg_base.specs.declared.operator.BinOp.TheVariants as bin
use Rattle.sdg_base.specs.declared.operator.UnOp.{UnOp}
use Rattle.sdg_base.specs.declared.operator.UnOp.TheVariants as un
use Rattle.sdg_base.specs.declared.val.Num.{Num}
use Rattle.sdg_base.specs.declared.val.Num.TheVariants as num
use Rattle.java_tree.specs.declared.token.Kind.{Kind}
use Rattle.java_tree.specs.declared.token.Kind.TheVariants as k
use Rattle.java_tree.specs.declared.token.Reserved.{Reserved}
use Rattle.java_tree.specs.declared.token.Reserved.TheVariants as word
use Rattle.java_tree.specs.declared.token.Symbol.{Symbol}
use Rattle.java_tree.specs.declared.token.Symbol.TheVariants as symbol
use Rattle.java_tree.specs.declared.tree.Expr.{Expr, out-Expr}
use Rattle.java_tree.specs.declared.tree.Expr.TheVariants as e
use Rattle.java_tree.specs.declared.tree.Value.{Value, roll-Value}
use Rattle.java_tree.specs.declared.tree.CallForm.{CallForm}
use Rattle.java_tree.specs.declared.tree.CallForm.TheVariants as call
use Rattle.java_tree.specs.declared.tree.CallForm.TheOpen.{Expr-F}
use Rattle.java_tree.specs.declared.tree.CallForm.TheOpen as layer
use Rattle.java_tree.specs.Tokens.{Kinds}
use Rattle.java_tree.specs.Levels.{operator_level}
use Rattle.java_tree.specs.Heights.{expr_height}
use Rattle.java_parser.specs.declared.operands.Opening.{Opening}
use Rattle.java_parser.specs.declared.operands.Opening.TheVariants as opening
use Rattle.java_parser.specs.Words.{Reading, ◌>>=◌, refused, too_deep, begins, after, name_at, all_at}
use Rattle.java_parser.specs.Members.{dot, at_sign, comma, open_paren, close_paren, open_bracket, close_bracket, optional_at}

-- ---- words

abbrev pub question : Kind
question = k.Symbol symbol.Question

abbrev pub colon : Kind
colon = k.Symbol symbol.Colon

abbrev pub binary_of : Symbol → Option BinOp
binary_of symbol.Star = Some bin.Mul
binary_of symbol.Slash = Some bin.Div
binary_of symbol.Percent = Some bin.Rem
binary_of symbol.Plus = Some bin.Add
binary_of symbol.Minus = Some bin.Sub
binary_of symbol.ShiftLeft = Some bin.Shl
binary_of symbol.ShiftRight = Some bin.Shr
binary_of symbol.ShiftRightUnsigned = Some bin.UShr
binary_of symbol.Less = Some bin.Lt
binary_of symbol.LessEqual = Some bin.Le
binary_of symbol.Greater = Some bin.Gt
binary_of symbol.GreaterEqual = Some bin.Ge
binary_of symbol.EqualEqual = Some bin.Eq
binary_of symbol.NotEqual = Some bin.Ne
binary_of symbol.Ampersand = Some bin.And
binary_of symbol.Caret = Some bin.Xor
binary_of symbol.Bar = Some bin.Or
binary_of symbol.AndAnd = Some bin.AndAlso
binary_of symbol.BarBar = Some bin.OrElse
binary_of _ = None

-- the binary operator that the tokens begin with
unfoldable pub operator_ahead : Kinds → Option BinOp
operator_ahead (k.Symbol s ∷ rest) = binary_of s
operator_ahead _ = None

-- where it is of this level
abbrev pub of_level : ℕ → Option BinOp → Option BinOp
of_level level None = None
of_level level (Some op) = if nat_eq (operator_level op) level then Some op else None

unfoldable pub operator_at : ℕ → Kinds → Option BinOp
operator_at level rest = of_level level (operator_ahead rest)

-- the type of a cast
abbrev pub number_type_of : Reserved → Option Num
number_type_of word.Int = Some num.Int
number_type_of word.Long = Some num.Long
number_type_of _ = None

unfoldable pub number_type_ahead : Kinds → Option Num
number_type_ahead (k.Reserved w ∷ rest) = number_type_of w
number_type_ahead _ = None

-- what the first token of an operand makes it
abbrev pub opening_reserved : Reserved → Opening
opening_reserved word.True = opening.Truth true
opening_reserved word.False = opening.Truth false
opening_reserved word.New = opening.New
opening_reserved _ = opening.Other

abbrev pub opening_symbol : Symbol → Opening
opening_symbol symbol.OpenParen = opening.Paren
opening_symbol symbol.Plus = opening.Unary un.Plus
opening_symbol symbol.Minus = opening.Unary un.Minus
opening_symbol symbol.Tilde = opening.Unary un.Complement
opening_symbol symbol.Bang = opening.Unary un.Not
opening_symbol _ = opening.Other

unfoldable pub opening_of : Kinds → Opening
opening_of [] = opening.Other
opening_of (k.Identifier name ∷ rest) = opening.Name
opening_of (k.Number digits decimal long ∷ rest) = opening.Number digits decimal long
opening_of (k.Reserved w ∷ rest) = opening_reserved w
opening_of (k.Symbol s ∷ rest) = opening_symbol s

abbrev pub is_other : Opening → Bool
is_other opening.Other = true
is_other _ = false

-- whether an expression may begin so
unfoldable pub begins_expr : Kinds → Bool
begins_expr rest = not (is_other (opening_of rest))

-- ---- what may follow

abbrev pub holds_from : ℕ → Option BinOp → Bool
holds_from level None = false
holds_from level (Some op) = nat_le level (operator_level op)

-- Whether an expression whose top holds at least as tightly as this ends before these tokens: there is one, no operator that
-- it could go on with, and nothing that goes on after a name.
unfoldable pub follows : ℕ → Kinds → Bool
follows level [] = false
follows level (x ∷ rest) =
    not (holds_from level (operator_ahead (x ∷ rest)))
    && (not (nat_eq level 0 && begins question (x ∷ rest))
    && (not (begins open_paren (x ∷ rest)) && (not (begins dot (x ∷ rest)) && not (begins open_bracket (x ∷ rest)))))

-- ---- expressions

-- of every operator and cast, and of each operand in them
abbrev pub all_rows : ℕ
all_rows = 11

-- what stands behind the first token
unfoldable pub tail : Kinds → Kinds
tail [] = []
tail (x ∷ rest) = rest

abbrev pub when_some : {A B : Type 0} → Option A → (A → B) → B → B
when_some None f other = other
when_some (Some x) f other = f x

abbrev pub valued : Bool → Expr → Value
valued is_global expr = roll-Value (record { is_global = is_global; expr = expr })

-- The parameter reads what stands one level deeper.
module _ (deeper : ℕ → Kinds → Reading Expr) where
  unfoldable pub value_in : Kinds → Reading Value
  value_in rest = do
    global ← optional_at at_sign (k.Identifier (codes "Global") ∷ []) rest
    x ← deeper all_rows global.1
    Ok (valued global.0 x.0, x.1)

  unfoldable pub other_value_in : Kinds → Reading Value
  other_value_in rest = do
    rest ← after (comma ∷ []) rest
    value_in rest

  unfoldable pub other_values_in : Kinds → Reading (List Value)
  other_values_in = all_at (begins comma) other_value_in

  unfoldable pub values_in : Kinds → Reading (List Value)
  values_in rest = if begins close_paren rest then Ok ([], rest) else (do
    first ← value_in rest
    others ← other_values_in first.1
    Ok (first.0 ∷ others.0, others.1))

  -- with their parentheses
  unfoldable pub args_in : Kinds → Reading (List Value)
  args_in rest = do
    rest ← after (open_paren ∷ []) rest
    args ← values_in rest
    rest ← after (close_paren ∷ []) args.1
    Ok (args.0, rest)

  -- the arguments of a call of a named object
  unfoldable pub of_in : List ℕ → List ℕ → Kinds → Reading Expr
  of_in object name rest = do
    args ← args_in rest
    Ok (e.Call (call.Of object name args.0), args.1)

  -- after a name and a dot
  unfoldable pub member_in : List ℕ → Kinds → Reading Expr
  member_in object rest = do
    name ← name_at rest
    if begins open_paren name.1 then of_in object name.0 name.1 else Ok (e.Member object name.0, name.1)

  -- a call of a member, from the dot on
  unfoldable pub of_member_in : List ℕ → Expr → Kinds → Reading Expr
  of_member_in object at rest = do
    rest ← after (dot ∷ []) rest
    name ← name_at rest
    args ← args_in name.1
    Ok (e.Call (call.OfMember object at name.0 args.0), args.1)

  -- after a name and a bracket
  unfoldable pub index_in : List ℕ → Kinds → Reading Expr
  index_in object rest = do
    at ← deeper all_rows rest
    rest ← after (close_bracket ∷ []) at.1
    if begins dot rest then of_member_in object at.0 rest else Ok (e.Index object at.0, rest)

  unfoldable pub own_in : List ℕ → Kinds → Reading Expr
  own_in name rest = do
    args ← args_in rest
    Ok (e.Call (call.Own name args.0), args.1)

  -- after a name
  unfoldable pub named_in : List ℕ → Kinds → Reading Expr
  named_in name rest =
      if begins open_paren rest then own_in name rest
      else (if begins dot rest then member_in name (tail rest)
      else (if begins open_bracket rest then index_in name (tail rest)
      else Ok (e.Name name, rest)))

  unfoldable pub called_in : Kinds → Reading Expr
  called_in rest = do
    name ← name_at rest
    named_in name.0 name.1

  -- from the type of a cast on
  unfoldable pub cast_in : Num → Kinds → Reading Expr
  cast_in to rest = do
    rest ← after (close_paren ∷ []) (tail rest)
    x ← deeper 0 rest
    Ok (e.Cast to x.0, x.1)

  -- after an opening parenthesis
  unfoldable pub inner_in : Kinds → Reading Expr
  inner_in rest = do
    x ← deeper all_rows rest
    rest ← after (close_paren ∷ []) x.1
    Ok (e.Paren x.0, rest)

  unfoldable pub paren_in : Kinds → Reading Expr
  paren_in rest = when_some (number_type_ahead rest) (λ to. cast_in to rest) (inner_in rest)

  -- after `new`
  unfoldable pub new_in : Kinds → Reading Expr
  new_in rest = do
    name ← name_at rest
    rest ← after (open_paren ∷ []) name.1
    size ← deeper all_rows rest
    rest ← after (close_paren ∷ []) size.1
    Ok (e.New name.0 size.0, rest)

  -- after an operator
  unfoldable pub prefixed_in : UnOp → Kinds → Reading Expr
  prefixed_in op rest = do
    x ← deeper 0 rest
    Ok (e.Unary op x.0, x.1)

  abbrev pub operand_by : Opening → Kinds → Reading Expr
  operand_by opening.Name rest = called_in rest
  operand_by (opening.Number digits decimal long) rest = Ok (e.Number digits decimal long, tail rest)
  operand_by (opening.Truth value) rest = Ok (e.Bool value, tail rest)
  operand_by opening.New rest = new_in (tail rest)
  operand_by opening.Paren rest = paren_in (tail rest)
  operand_by (opening.Unary op) rest = prefixed_in op (tail rest)
  operand_by opening.Other rest = refused rest

  -- an operand, with what stands before it
  unfoldable pub operand_in : Kinds → Reading Expr
  operand_in rest = operand_by (opening_of rest) rest

-- ---- rows and conditionals, whose parts may stand on this many levels
module _ (deeper : ℕ → Kinds → Reading Expr) (levels : ℕ) where
  -- Operators of one level, with what was read so far as the left operand of the next. The first number is the looseness of
  -- the right operands, and the second bounds the turns.
  unfoldable pub row_from : ℕ → ℕ → Expr → Kinds → Reading Expr
  row_from looseness zero left rest = refused rest
  row_from looseness (suc n) left rest =
      when_some (operator_at (10 - looseness) rest)
      (λ op. if nat_lt levels (expr_height left) then too_deep rest else (do
        right ← deeper looseness (tail rest)
        row_from looseness n (e.Binary op left right.0) right.1))
      (Ok (left, rest))

  unfoldable pub row_in : ℕ → Expr → Kinds → Reading Expr
  row_in looseness first rest = row_from looseness (length rest) first rest

  unfoldable pub conditional_in : Expr → Kinds → Reading Expr
  conditional_in test rest =
      if begins question rest then (if nat_lt levels (expr_height test) then too_deep rest else (do
        rest ← after (question ∷ []) rest
        first ← deeper all_rows rest
        rest ← after (colon ∷ []) first.1
        second ← deeper all_rows rest
        Ok (e.Conditional test first.0 second.0, second.1)))
      else Ok (test, rest)

  -- one level looser: the last is the conditional
  unfoldable pub looser_in : ℕ → Expr → Kinds → Reading Expr
  looser_in looseness x rest = if nat_eq looseness 10 then conditional_in x rest else row_in looseness x rest

  unfoldable pub extended_in : ℕ → Expr → Kinds → Reading Expr
  extended_in zero x rest = Ok (x, rest)
  extended_in (suc looseness) x rest = do
    y ← extended_in looseness x rest
    looser_in looseness y.0 y.1

  unfoldable pub read_in : ℕ → Kinds → Reading Expr
  read_in looseness rest = do
    x ← operand_in deeper rest
    extended_in looseness x.0 x.1

-- with that many levels, and as loose as that
unfoldable pub read_at : ℕ → ℕ → Kinds → Reading Expr
read_at zero looseness rest = if begins_expr rest then too_deep rest else refused rest
read_at (suc levels) looseness rest = read_in (read_at levels) levels looseness rest

abbrev pub expr_at : ℕ → Kinds → Reading Expr
expr_at levels = read_at levels all_rows

abbrev pub value_at : ℕ → Kinds → Reading Value
value_at levels = value_in (read_at levels)

-- arguments with their parentheses
abbrev pub args_at : ℕ → Kinds → Reading (List Value)
args_at levels = args_in (read_at levels)

-- of an expression that must be a call
abbrev pub call_of : Expr-F CallForm Expr Value → Kinds → Reading CallForm
call_of (layer.Call c) rest = Ok (c, rest)
call_of _ rest = refused rest

-- a call, whose arguments may stand on this many levels
unfoldable pub call_at : ℕ → Kinds → Reading CallForm
call_at levels rest = do
  x ← called_in (read_at levels) rest
  call_of (out-Expr x.0) x.1
