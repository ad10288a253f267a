-- The standing of each kind of expression.
use Rattle.std.proofs.Common.{◌≡◌, ℕ, Bool, true, ◌&&◌, List, [], ◌∷◌, map, refl, ap, ◌∙◌}
use Rattle.sdg_base.specs.declared.operator.BinOp.{BinOp}
use Rattle.sdg_base.specs.declared.operator.UnOp.{UnOp}
use Rattle.sdg_base.specs.declared.val.Num.{Num}
use Rattle.java_tree.specs.declared.tree.Expr.{Expr}
use Rattle.java_tree.specs.declared.tree.Expr.TheVariants as e
use Rattle.java_tree.specs.declared.tree.Value.{Value}
use Rattle.java_tree.specs.declared.tree.CallForm.{CallForm}
use Rattle.java_tree.specs.declared.tree.CallForm.TheVariants as call
use Rattle.java_parser.specs.Expressions.{valued}
use Rattle.java_parser.proofs.TreeLayers as layer
use Rattle.java_tree.specs.Levels.{operator_level}
use Rattle.java_tree.specs.Placed.{all_of, Standing, holding, is_from, is_above, expr_standing, value_placed, call_placed, standing_of, is_placed_value, is_placed_call}

all_flat : {A : Type 0} (f : A → Bool) (xs : List A) → all_of (λ b. b) (map f xs) ≡ all_of f xs
all_flat f [] = refl
all_flat f (x ∷ xs) = ap (λ (rest : Bool). f x && rest) (all_flat f xs)

unfoldable pub args_placed : List Value → Bool
args_placed args = all_of is_placed_value args

pub conditional_standing : (test first second : Expr)
    → standing_of (e.Conditional test first second) ≡ holding 0 (is_above 0 (standing_of test) && ((standing_of first).is_placed && (standing_of second).is_placed))
conditional_standing test first second = layer.conditional Bool Standing Bool call_placed expr_standing value_placed test first second

pub binary_standing : (op : BinOp) (left right : Expr)
    → standing_of (e.Binary op left right) ≡ holding (operator_level op) (is_from (operator_level op) (standing_of left) && is_above (operator_level op) (standing_of right))
binary_standing op left right = layer.binary Bool Standing Bool call_placed expr_standing value_placed op left right

pub unary_standing : (op : UnOp) (x : Expr) → standing_of (e.Unary op x) ≡ holding 11 (is_above 10 (standing_of x))
unary_standing op x = layer.unary Bool Standing Bool call_placed expr_standing value_placed op x

pub cast_standing : (to : Num) (x : Expr) → standing_of (e.Cast to x) ≡ holding 11 (is_above 10 (standing_of x))
cast_standing to x = layer.cast Bool Standing Bool call_placed expr_standing value_placed to x

pub number_standing : (digits : ℕ) (decimal long : Bool) → standing_of (e.Number digits decimal long) ≡ holding 12 true
number_standing digits decimal long = layer.number Bool Standing Bool call_placed expr_standing value_placed digits decimal long

pub truth_standing : (value : Bool) → standing_of (e.Bool value) ≡ holding 12 true
truth_standing value = layer.truth Bool Standing Bool call_placed expr_standing value_placed value

pub paren_standing : (x : Expr) → standing_of (e.Paren x) ≡ holding 12 (standing_of x).is_placed
paren_standing x = layer.paren Bool Standing Bool call_placed expr_standing value_placed x

pub maker_standing : (name : List ℕ) (x : Expr) → standing_of (e.New name x) ≡ holding 12 (standing_of x).is_placed
maker_standing name x = layer.maker Bool Standing Bool call_placed expr_standing value_placed name x

pub name_standing : (name : List ℕ) → standing_of (e.Name name) ≡ holding 12 true
name_standing name = layer.name Bool Standing Bool call_placed expr_standing value_placed name

pub index_standing : (name : List ℕ) (x : Expr) → standing_of (e.Index name x) ≡ holding 12 (standing_of x).is_placed
index_standing name x = layer.index Bool Standing Bool call_placed expr_standing value_placed name x

pub member_standing : (object name : List ℕ) → standing_of (e.Member object name) ≡ holding 12 true
member_standing object name = layer.member Bool Standing Bool call_placed expr_standing value_placed object name

pub called_standing : (c : CallForm) → standing_of (e.Call c) ≡ holding 12 (is_placed_call c)
called_standing c = layer.called Bool Standing Bool call_placed expr_standing value_placed c

pub own_placed : (name : List ℕ) (args : List Value) → is_placed_call (call.Own name args) ≡ args_placed args
unfolding args_placed
own_placed name args = layer.own Bool Standing Bool call_placed expr_standing value_placed name args ∙ all_flat is_placed_value args

pub of_placed : (object name : List ℕ) (args : List Value) → is_placed_call (call.Of object name args) ≡ args_placed args
unfolding args_placed
of_placed object name args = layer.of Bool Standing Bool call_placed expr_standing value_placed object name args ∙ all_flat is_placed_value args

pub of_member_placed : (object : List ℕ) (at : Expr) (name : List ℕ) (args : List Value)
    → is_placed_call (call.OfMember object at name args) ≡ (standing_of at).is_placed && args_placed args
unfolding args_placed
of_member_placed object at name args = layer.of_member Bool Standing Bool call_placed expr_standing value_placed object at name args ∙ ap (λ (rest : Bool). (standing_of at).is_placed && rest) (all_flat is_placed_value args)

pub valued_placed : (is_global : Bool) (x : Expr) → is_placed_value (valued is_global x) ≡ (standing_of x).is_placed
valued_placed is_global x = layer.value Bool Standing Bool call_placed expr_standing value_placed is_global x
