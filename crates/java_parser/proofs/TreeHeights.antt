-- The height of each kind of expression.
use Rattle.std.proofs.Common.{◌≡◌, ℕ, suc, max, Bool, List, [], ◌∷◌, ◌++◌, map, refl, ap, ◌∙◌, arith}
use Rattle.sdg_base.specs.declared.operator.BinOp.{BinOp}
use Rattle.sdg_base.specs.declared.operator.UnOp.{UnOp}
use Rattle.sdg_base.specs.declared.val.Num.{Num}
use Rattle.java_tree.specs.declared.tree.Expr.{Expr}
use Rattle.java_tree.specs.declared.tree.Expr.TheVariants as e
use Rattle.java_tree.specs.declared.tree.Value.{Value}
use Rattle.java_tree.specs.declared.tree.CallForm.{CallForm}
use Rattle.java_tree.specs.declared.tree.CallForm.TheVariants as call
use Rattle.java_tree.specs.Heights.{greatest, expr_height, value_height, call_height, call_layer_height, expr_layer_height, value_layer_height}
use Rattle.java_parser.specs.Expressions.{valued}
use Rattle.java_parser.specs.Deeper.{values_height}
use Rattle.java_parser.proofs.TreeLayers as layer

pub conditional_height : (test first second : Expr) → expr_height (e.Conditional test first second) ≡ suc (max (expr_height test) (max (expr_height first) (expr_height second)))
conditional_height test first second = layer.conditional ℕ ℕ ℕ call_layer_height expr_layer_height value_layer_height test first second

pub binary_height : (op : BinOp) (left right : Expr) → expr_height (e.Binary op left right) ≡ suc (max (expr_height left) (expr_height right))
binary_height op left right = layer.binary ℕ ℕ ℕ call_layer_height expr_layer_height value_layer_height op left right

pub unary_height : (op : UnOp) (x : Expr) → expr_height (e.Unary op x) ≡ suc (expr_height x)
unary_height op x = layer.unary ℕ ℕ ℕ call_layer_height expr_layer_height value_layer_height op x

pub cast_height : (to : Num) (x : Expr) → expr_height (e.Cast to x) ≡ suc (expr_height x)
cast_height to x = layer.cast ℕ ℕ ℕ call_layer_height expr_layer_height value_layer_height to x

pub number_height : (digits : ℕ) (decimal long : Bool) → expr_height (e.Number digits decimal long) ≡ 1
number_height digits decimal long = layer.number ℕ ℕ ℕ call_layer_height expr_layer_height value_layer_height digits decimal long

pub truth_height : (value : Bool) → expr_height (e.Bool value) ≡ 1
truth_height value = layer.truth ℕ ℕ ℕ call_layer_height expr_layer_height value_layer_height value

pub paren_height : (x : Expr) → expr_height (e.Paren x) ≡ suc (expr_height x)
paren_height x = layer.paren ℕ ℕ ℕ call_layer_height expr_layer_height value_layer_height x

pub maker_height : (name : List ℕ) (x : Expr) → expr_height (e.New name x) ≡ suc (expr_height x)
maker_height name x = layer.maker ℕ ℕ ℕ call_layer_height expr_layer_height value_layer_height name x

pub name_height : (name : List ℕ) → expr_height (e.Name name) ≡ 1
name_height name = layer.name ℕ ℕ ℕ call_layer_height expr_layer_height value_layer_height name

pub index_height : (name : List ℕ) (x : Expr) → expr_height (e.Index name x) ≡ suc (expr_height x)
index_height name x = layer.index ℕ ℕ ℕ call_layer_height expr_layer_height value_layer_height name x

pub member_height : (object name : List ℕ) → expr_height (e.Member object name) ≡ 1
member_height object name = layer.member ℕ ℕ ℕ call_layer_height expr_layer_height value_layer_height object name

pub called_height : (call : CallForm) → expr_height (e.Call call) ≡ call_height call
called_height call = layer.called ℕ ℕ ℕ call_layer_height expr_layer_height value_layer_height call

pub own_height : (name : List ℕ) (args : List Value) → call_height (call.Own name args) ≡ suc (values_height args)
unfolding values_height
own_height name args = layer.own ℕ ℕ ℕ call_layer_height expr_layer_height value_layer_height name args

pub of_height : (object name : List ℕ) (args : List Value) → call_height (call.Of object name args) ≡ suc (values_height args)
unfolding values_height
of_height object name args = layer.of ℕ ℕ ℕ call_layer_height expr_layer_height value_layer_height object name args

pub of_member_height : (object : List ℕ) (at : Expr) (name : List ℕ) (args : List Value) → call_height (call.OfMember object at name args) ≡ suc (max (expr_height at) (values_height args))
unfolding values_height
of_member_height object at name args = layer.of_member ℕ ℕ ℕ call_layer_height expr_layer_height value_layer_height object at name args

pub valued_height : (is_global : Bool) (x : Expr) → value_height (valued is_global x) ≡ expr_height x
valued_height is_global x = layer.value ℕ ℕ ℕ call_layer_height expr_layer_height value_layer_height is_global x

-- the height of an expression that is a call
pub own_call_height : (name : List ℕ) (args : List Value) → expr_height (e.Call (call.Own name args)) ≡ suc (values_height args)
own_call_height name args = called_height (call.Own name args) ∙ own_height name args

pub of_call_height : (object name : List ℕ) (args : List Value) → expr_height (e.Call (call.Of object name args)) ≡ suc (values_height args)
of_call_height object name args = called_height (call.Of object name args) ∙ of_height object name args

pub of_member_call_height : (object : List ℕ) (at : Expr) (name : List ℕ) (args : List Value) → expr_height (e.Call (call.OfMember object at name args)) ≡ suc (max (expr_height at) (values_height args))
of_member_call_height object at name args = called_height (call.OfMember object at name args) ∙ of_member_height object at name args

-- ---- rows of things

greatest_more : (hs : List ℕ) (h : ℕ) → greatest (hs ++ h ∷ []) ≡ max (greatest hs) h
greatest_more [] h = omega arith
greatest_more (x ∷ hs) h = omega (arith, greatest_more hs h)

greatest_both : (hs is : List ℕ) → greatest (hs ++ is) ≡ max (greatest hs) (greatest is)
greatest_both [] is = omega arith
greatest_both (x ∷ hs) is = omega (arith, greatest_both hs is)

map_more : {A B : Type 0} (f : A → B) (xs : List A) (x : A) → map f (xs ++ x ∷ []) ≡ map f xs ++ f x ∷ []
map_more f [] x = refl
map_more f (y ∷ xs) x = ap (λ (rest : List _). f y ∷ rest) (map_more f xs x)

pub values_height_more : (values : List Value) (v : Value) → values_height (values ++ v ∷ []) ≡ max (values_height values) (value_height v)
unfolding values_height
values_height_more values v = ap greatest (map_more value_height values v) ∙ greatest_more (map value_height values) (value_height v)

pub values_height_first : (v : Value) (values : List Value) → values_height (v ∷ values) ≡ max (value_height v) (values_height values)
unfolding values_height
values_height_first v values = refl

pub values_height_none : values_height [] ≡ 0
unfolding values_height
values_height_none = refl
