-- The tokens of each kind of expression.
use Rattle.std.proofs.Common.{◌≡◌, ℕ, Bool, true, false, List, [], ◌∷◌, ◌++◌, map}
use Rattle.sdg_base.specs.declared.operator.BinOp.{BinOp}
use Rattle.sdg_base.specs.declared.operator.UnOp.{UnOp}
use Rattle.sdg_base.specs.declared.val.Num.{Num}
use Rattle.java_tree.specs.declared.token.Kind.TheVariants as k
use Rattle.java_tree.specs.declared.token.Reserved.TheVariants as word
use Rattle.java_tree.specs.declared.tree.Expr.{Expr}
use Rattle.java_tree.specs.declared.tree.Expr.TheVariants as e
use Rattle.java_tree.specs.declared.tree.Value.{Value}
use Rattle.java_tree.specs.declared.tree.CallForm.{CallForm}
use Rattle.java_tree.specs.declared.tree.CallForm.TheVariants as call
use Rattle.java_parser.specs.Expressions.{valued, question, colon}
use Rattle.java_parser.specs.Members.{dot, open_bracket, close_bracket}
use Rattle.java_parser.proofs.TreeLayers as layer
use Rattle.java_tree.specs.Tokens.{Kinds, in_parentheses, separated, global, unary_symbol, operator_symbol, number_type, expr_step, value_step, call_step, expr_tokens, value_tokens, call_tokens}

unfoldable pub args_tokens : List Value → Kinds
args_tokens args = in_parentheses (separated (map value_tokens args))

pub conditional_tokens : (test first second : Expr) → expr_tokens (e.Conditional test first second) ≡ expr_tokens test ++ (question ∷ (expr_tokens first ++ (colon ∷ expr_tokens second)))
conditional_tokens test first second = layer.conditional Kinds Kinds Kinds call_step expr_step value_step test first second

pub binary_tokens : (op : BinOp) (left right : Expr) → expr_tokens (e.Binary op left right) ≡ expr_tokens left ++ (k.Symbol (operator_symbol op) ∷ expr_tokens right)
binary_tokens op left right = layer.binary Kinds Kinds Kinds call_step expr_step value_step op left right

pub unary_tokens : (op : UnOp) (x : Expr) → expr_tokens (e.Unary op x) ≡ k.Symbol (unary_symbol op) ∷ expr_tokens x
unary_tokens op x = layer.unary Kinds Kinds Kinds call_step expr_step value_step op x

pub cast_tokens : (to : Num) (x : Expr) → expr_tokens (e.Cast to x) ≡ in_parentheses (number_type to) ++ expr_tokens x
cast_tokens to x = layer.cast Kinds Kinds Kinds call_step expr_step value_step to x

pub number_tokens : (digits : ℕ) (decimal long : Bool) → expr_tokens (e.Number digits decimal long) ≡ k.Number digits decimal long ∷ []
number_tokens digits decimal long = layer.number Kinds Kinds Kinds call_step expr_step value_step digits decimal long

pub true_tokens : expr_tokens (e.Bool true) ≡ k.Reserved word.True ∷ []
true_tokens = layer.truth Kinds Kinds Kinds call_step expr_step value_step true

pub false_tokens : expr_tokens (e.Bool false) ≡ k.Reserved word.False ∷ []
false_tokens = layer.truth Kinds Kinds Kinds call_step expr_step value_step false

pub paren_tokens : (x : Expr) → expr_tokens (e.Paren x) ≡ in_parentheses (expr_tokens x)
paren_tokens x = layer.paren Kinds Kinds Kinds call_step expr_step value_step x

pub maker_tokens : (name : List ℕ) (x : Expr) → expr_tokens (e.New name x) ≡ k.Reserved word.New ∷ k.Identifier name ∷ in_parentheses (expr_tokens x)
maker_tokens name x = layer.maker Kinds Kinds Kinds call_step expr_step value_step name x

pub name_tokens : (name : List ℕ) → expr_tokens (e.Name name) ≡ k.Identifier name ∷ []
name_tokens name = layer.name Kinds Kinds Kinds call_step expr_step value_step name

pub index_tokens : (name : List ℕ) (x : Expr) → expr_tokens (e.Index name x) ≡ k.Identifier name ∷ open_bracket ∷ (expr_tokens x ++ close_bracket ∷ [])
index_tokens name x = layer.index Kinds Kinds Kinds call_step expr_step value_step name x

pub member_tokens : (object name : List ℕ) → expr_tokens (e.Member object name) ≡ k.Identifier object ∷ dot ∷ k.Identifier name ∷ []
member_tokens object name = layer.member Kinds Kinds Kinds call_step expr_step value_step object name

pub called_tokens : (c : CallForm) → expr_tokens (e.Call c) ≡ call_tokens c
called_tokens c = layer.called Kinds Kinds Kinds call_step expr_step value_step c

pub own_tokens : (name : List ℕ) (args : List Value) → call_tokens (call.Own name args) ≡ k.Identifier name ∷ args_tokens args
unfolding args_tokens
own_tokens name args = layer.own Kinds Kinds Kinds call_step expr_step value_step name args

pub of_tokens : (object name : List ℕ) (args : List Value) → call_tokens (call.Of object name args) ≡ k.Identifier object ∷ dot ∷ k.Identifier name ∷ args_tokens args
unfolding args_tokens
of_tokens object name args = layer.of Kinds Kinds Kinds call_step expr_step value_step object name args

pub of_member_tokens : (object : List ℕ) (at : Expr) (name : List ℕ) (args : List Value)
    → call_tokens (call.OfMember object at name args) ≡ k.Identifier object ∷ open_bracket ∷ (expr_tokens at ++ (close_bracket ∷ dot ∷ k.Identifier name ∷ args_tokens args))
unfolding args_tokens
of_member_tokens object at name args = layer.of_member Kinds Kinds Kinds call_step expr_step value_step object at name args

pub valued_tokens : (is_global : Bool) (x : Expr) → value_tokens (valued is_global x) ≡ global is_global ++ expr_tokens x
valued_tokens is_global x = layer.value Kinds Kinds Kinds call_step expr_step value_step is_global x
