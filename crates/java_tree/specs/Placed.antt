-- Whether each part of a tree stands where the grammar has it: operands hold tighter than their operators, but that
-- operators of one level associate to the left, and an `else` belongs to the innermost open `if` (JLS 14.9, 15.15 to 15.25).
use Rattle.std.specs.Prelude.{ℕ, Bool, true, false, not, IsTrue, ◌≡◌, ◌&&◌, nat_le, nat_lt, List, [], ◌∷◌, length, Option, Some, None}
use Rattle.java_tree.specs.declared.tree.Class.{Class}
use Rattle.java_tree.specs.declared.tree.Member.{Member}
use Rattle.java_tree.specs.declared.tree.Member.TheVariants as member
use Rattle.java_tree.specs.declared.tree.Local.{Local}
use Rattle.java_tree.specs.declared.tree.Simple.{Simple}
use Rattle.java_tree.specs.declared.tree.Simple.TheVariants as simple
use Rattle.java_tree.specs.declared.tree.ForInit.{ForInit}
use Rattle.java_tree.specs.declared.tree.ForInit.TheVariants as for_init
use Rattle.java_tree.specs.declared.tree.ForHeader.{ForHeader}
use Rattle.java_tree.specs.declared.tree.Expr.{Expr}
use Rattle.java_tree.specs.declared.tree.Value.{Value}
use Rattle.java_tree.specs.declared.tree.CallForm.{CallForm}
use Rattle.java_tree.specs.declared.tree.CallForm.TheOpen.{CallForm-F, Expr-F, Value-F}
use Rattle.java_tree.specs.declared.tree.CallForm.TheOpen as e
use Rattle.java_tree.specs.declared.tree.CallForm.TheFolds.{fold-CallForm, fold-Expr, fold-Value}
use Rattle.java_tree.specs.declared.tree.BlockItem.{BlockItem}
use Rattle.java_tree.specs.declared.tree.BlockItem.TheOpen.{BlockItem-F, Stmt-F}
use Rattle.java_tree.specs.declared.tree.BlockItem.TheOpen as s
use Rattle.java_tree.specs.declared.tree.BlockItem.TheFolds.{fold-BlockItem}
use Rattle.java_tree.specs.Tokens.{kinds_of}
use Rattle.java_tree.specs.Levels.{operator_level, conditional_level, unary_level, primary_level}

abbrev pub all_of : {A : Type 0} → (A → Bool) → List A → Bool
all_of test [] = true
all_of test (x ∷ xs) = test x && all_of test xs

-- ---- expressions

-- how tightly the top of an expression holds, and whether all of it is well placed
pub record Standing : Type 0 where
  pub tightness : ℕ
  pub is_placed : Bool

abbrev pub holding : ℕ → Bool → Standing
holding level placed = record { tightness = level; is_placed = placed }

-- an operand that holds at least as tightly, and one that holds tighter
abbrev pub is_from : ℕ → Standing → Bool
is_from level x = x.is_placed && nat_le level x.tightness

abbrev pub is_above : ℕ → Standing → Bool
is_above level x = x.is_placed && nat_lt level x.tightness

-- The left operand may be of the same level.
abbrev pub binary_standing : ℕ → Standing → Standing → Standing
binary_standing level left right = holding level (is_from level left && is_above level right)

abbrev pub expr_standing : Expr-F Bool Standing Bool → Standing
expr_standing (e.Conditional test first second) =
    holding conditional_level (is_above conditional_level test && (first.is_placed && second.is_placed))
expr_standing (e.Binary op left right) = binary_standing (operator_level op) left right
expr_standing (e.Unary op operand) = holding unary_level (is_above 10 operand)
expr_standing (e.Cast to operand) = holding unary_level (is_above 10 operand)
expr_standing (e.Number digits decimal long) = holding primary_level true
expr_standing (e.Bool value) = holding primary_level true
expr_standing (e.Paren inner) = holding primary_level inner.is_placed
expr_standing (e.New name size) = holding primary_level size.is_placed
expr_standing (e.Name name) = holding primary_level true
expr_standing (e.Index name at) = holding primary_level at.is_placed
expr_standing (e.Member object name) = holding primary_level true
expr_standing (e.Call call) = holding primary_level call

abbrev pub value_placed : Value-F Bool Standing Bool → Bool
value_placed v = v.expr.is_placed

abbrev pub call_placed : CallForm-F Bool Standing Bool → Bool
call_placed (e.Own name args) = all_of (λ a. a) args
call_placed (e.Of object name args) = all_of (λ a. a) args
call_placed (e.OfMember object at name args) = at.is_placed && all_of (λ a. a) args

abbrev pub standing_of : Expr → Standing
standing_of = fold-Expr Bool Standing Bool call_placed expr_standing value_placed

abbrev pub is_placed_value : Value → Bool
is_placed_value = fold-Value Bool Standing Bool call_placed expr_standing value_placed

abbrev pub is_placed_call : CallForm → Bool
is_placed_call = fold-CallForm Bool Standing Bool call_placed expr_standing value_placed

abbrev pub is_placed_expr : Expr → Bool
is_placed_expr x = (standing_of x).is_placed

-- ---- statements

abbrev pub is_placed_option : {A : Type 0} → (A → Bool) → Option A → Bool
is_placed_option test None = true
is_placed_option test (Some x) = test x

abbrev pub is_placed_local : Local → Bool
is_placed_local l = is_placed_option is_placed_value l.value

abbrev pub is_placed_simple : Simple → Bool
is_placed_simple (simple.Assign name op v) = is_placed_value v
is_placed_simple (simple.PostIncrement name) = true
is_placed_simple (simple.PostDecrement name) = true
is_placed_simple (simple.PreIncrement name) = true
is_placed_simple (simple.PreDecrement name) = true
is_placed_simple (simple.Call is_global call) = is_placed_call call

-- no list of simple statements is empty: that is nothing
abbrev pub is_placed_init : ForInit → Bool
is_placed_init for_init.Nothing = true
is_placed_init (for_init.Local l) = is_placed_local l
is_placed_init (for_init.Simples []) = false
is_placed_init (for_init.Simples (x ∷ more)) = all_of is_placed_simple (x ∷ more)

abbrev pub is_placed_header : ForHeader → Bool
is_placed_header h = is_placed_init h.init && (is_placed_option is_placed_expr h.test && all_of is_placed_simple h.update)

-- whether an `if` without `else` stands at the right edge, and whether the statement is well placed
pub record Ending : Type 0 where
  pub is_open : Bool
  pub is_placed : Bool

abbrev pub closed : Bool → Ending
closed placed = record { is_open = false; is_placed = placed }

abbrev pub ending : Bool → Bool → Ending
ending open_if placed = record { is_open = open_if; is_placed = placed }

abbrev pub item_placed : BlockItem-F Bool Ending → Bool
item_placed (s.Local l) = is_placed_local l
item_placed (s.Stmt body) = body.is_placed

abbrev pub statement_ending : Stmt-F Bool Ending → Ending
statement_ending (s.Block items) = closed (all_of (λ i. i) items)
statement_ending s.Empty = closed true
statement_ending (s.Simple x) = closed (is_placed_simple x)
statement_ending (s.If test first None) = ending true (is_placed_expr test && first.is_placed)
statement_ending (s.If test first (Some second)) =
    ending second.is_open (is_placed_expr test && (first.is_placed && (not first.is_open && second.is_placed)))
statement_ending (s.While test body) = ending body.is_open (is_placed_expr test && body.is_placed)
statement_ending (s.For header body) = ending body.is_open (is_placed_header header && body.is_placed)
statement_ending s.Break = closed true
statement_ending s.Continue = closed true
statement_ending (s.Return v) = closed (is_placed_option is_placed_value v)

abbrev pub is_placed_item : BlockItem → Bool
is_placed_item = fold-BlockItem Bool Ending item_placed statement_ending

-- ---- members

abbrev pub is_placed_member : Member → Bool
is_placed_member (member.Field f) = true
is_placed_member (member.Method m) = all_of is_placed_item m.body

-- Each token has its place.
pub record IsWellPlaced (c : Class) : Type 0 where
  pub members : IsTrue (all_of is_placed_member c.members)
  pub places : length c.places ≡ length (kinds_of c)
