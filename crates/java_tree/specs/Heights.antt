-- How many statements and expressions of a tree stand inside one another, parentheses included. A method's body is the
-- first level.
use Rattle.std.specs.Prelude.{ℕ, suc, max, List, [], ◌∷◌, map, Option, Some, None}
use Rattle.java_tree.specs.declared.tree.Class.{Class}
use Rattle.java_tree.specs.declared.tree.Member.{Member}
use Rattle.java_tree.specs.declared.tree.Member.TheVariants as member
use Rattle.java_tree.specs.declared.tree.Local.{Local}
use Rattle.java_tree.specs.declared.tree.Simple.{Simple}
use Rattle.java_tree.specs.declared.tree.Simple.TheVariants as simple
use Rattle.java_tree.specs.declared.tree.ForInit.{ForInit}
use Rattle.java_tree.specs.declared.tree.ForInit.TheVariants as for_init
use Rattle.java_tree.specs.declared.tree.ForHeader.{ForHeader}
use Rattle.java_tree.specs.declared.tree.Expr.{Expr}
use Rattle.java_tree.specs.declared.tree.Value.{Value}
use Rattle.java_tree.specs.declared.tree.CallForm.{CallForm}
use Rattle.java_tree.specs.declared.tree.CallForm.TheOpen.{CallForm-F, Expr-F, Value-F}
use Rattle.java_tree.specs.declared.tree.CallForm.TheOpen as e
use Rattle.java_tree.specs.declared.tree.CallForm.TheFolds.{fold-CallForm, fold-Expr, fold-Value}
use Rattle.java_tree.specs.declared.tree.BlockItem.{BlockItem}
use Rattle.java_tree.specs.declared.tree.BlockItem.TheOpen.{BlockItem-F, Stmt-F}
use Rattle.java_tree.specs.declared.tree.BlockItem.TheOpen as s
use Rattle.java_tree.specs.declared.tree.BlockItem.TheFolds.{fold-BlockItem}

-- the most that may be: no class is read with more
abbrev pub max_levels : ℕ
max_levels = 200

abbrev pub greatest : List ℕ → ℕ
greatest [] = 0
greatest (h ∷ more) = max h (greatest more)

-- ---- expressions

abbrev pub expr_layer_height : Expr-F ℕ ℕ ℕ → ℕ
expr_layer_height (e.Conditional test first second) = suc (max test (max first second))
expr_layer_height (e.Binary op left right) = suc (max left right)
expr_layer_height (e.Unary op operand) = suc operand
expr_layer_height (e.Cast to operand) = suc operand
expr_layer_height (e.Number digits decimal long) = 1
expr_layer_height (e.Bool value) = 1
expr_layer_height (e.Paren inner) = suc inner
expr_layer_height (e.New name size) = suc size
expr_layer_height (e.Name name) = 1
expr_layer_height (e.Index name at) = suc at
expr_layer_height (e.Member object name) = 1
expr_layer_height (e.Call call) = call

abbrev pub value_layer_height : Value-F ℕ ℕ ℕ → ℕ
value_layer_height v = v.expr

abbrev pub call_layer_height : CallForm-F ℕ ℕ ℕ → ℕ
call_layer_height (e.Own name args) = suc (greatest args)
call_layer_height (e.Of object name args) = suc (greatest args)
call_layer_height (e.OfMember object at name args) = suc (max at (greatest args))

abbrev pub expr_height : Expr → ℕ
expr_height = fold-Expr ℕ ℕ ℕ call_layer_height expr_layer_height value_layer_height

abbrev pub value_height : Value → ℕ
value_height = fold-Value ℕ ℕ ℕ call_layer_height expr_layer_height value_layer_height

abbrev pub call_height : CallForm → ℕ
call_height = fold-CallForm ℕ ℕ ℕ call_layer_height expr_layer_height value_layer_height

-- ---- statements

-- what is absent has no level
abbrev pub option_height : {A : Type 0} → (A → ℕ) → Option A → ℕ
option_height height None = 0
option_height height (Some x) = height x

abbrev pub local_height : Local → ℕ
local_height l = suc (option_height value_height l.value)

abbrev pub simple_height : Simple → ℕ
simple_height (simple.Assign name op v) = suc (value_height v)
simple_height (simple.PostIncrement name) = 1
simple_height (simple.PostDecrement name) = 1
simple_height (simple.PreIncrement name) = 1
simple_height (simple.PreDecrement name) = 1
simple_height (simple.Call is_global call) = call_height call

abbrev pub init_height : ForInit → ℕ
init_height for_init.Nothing = 0
init_height (for_init.Local l) = local_height l
init_height (for_init.Simples all) = greatest (map simple_height all)

abbrev pub header_height : ForHeader → ℕ
header_height h = max (init_height h.init) (max (option_height expr_height h.test) (greatest (map simple_height h.update)))

abbrev pub item_layer_height : BlockItem-F ℕ ℕ → ℕ
item_layer_height (s.Local l) = local_height l
item_layer_height (s.Stmt body) = body

abbrev pub statement_layer_height : Stmt-F ℕ ℕ → ℕ
statement_layer_height (s.Block items) = suc (greatest items)
statement_layer_height s.Empty = 1
statement_layer_height (s.Simple x) = simple_height x
statement_layer_height (s.If test first second) = suc (max (expr_height test) (max first (option_height (λ h. h) second)))
statement_layer_height (s.While test body) = suc (max (expr_height test) body)
statement_layer_height (s.For header body) = suc (max (header_height header) body)
statement_layer_height s.Break = 1
statement_layer_height s.Continue = 1
statement_layer_height (s.Return v) = suc (option_height value_height v)

abbrev pub item_height : BlockItem → ℕ
item_height = fold-BlockItem ℕ ℕ item_layer_height statement_layer_height

-- ---- members

abbrev pub member_height : Member → ℕ
member_height (member.Field f) = 0
member_height (member.Method m) = suc (greatest (map item_height m.body))

abbrev pub height : Class → ℕ
height c = greatest (map member_height c.members)
