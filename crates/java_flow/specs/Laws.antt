-- The walk passes each token once: of each part of a class as many places as it has tokens. A finding names the next place
-- where it is noted, so no part that was passed before shifts it from the token that it speaks of.
use Rattle.std.specs.Prelude.{◌≡◌, Bool, [], ◌∷◌, ◌++◌, length, drop}
use Rattle.java_tree.specs.declared.token.Kind.TheVariants as k
use Rattle.java_tree.specs.declared.token.Symbol.TheVariants as symbol
use Rattle.java_tree.specs.declared.tree.Expr.{Expr}
use Rattle.java_tree.specs.declared.tree.Value.{Value}
use Rattle.java_tree.specs.declared.tree.CallForm.{CallForm}
use Rattle.java_tree.specs.declared.tree.Local.{Local}
use Rattle.java_tree.specs.declared.tree.Simple.{Simple}
use Rattle.java_tree.specs.declared.tree.ForHeader.{ForHeader}
use Rattle.java_tree.specs.declared.tree.BlockItem.{BlockItem}
use Rattle.java_tree.specs.declared.tree.Stmt.{Stmt}
use Rattle.java_tree.specs.declared.tree.Member.{Member}
use Rattle.java_tree.specs.declared.tree.Class.{Class}
use Rattle.java_tree.specs.Tokens.{Kinds, in_parentheses, expr_tokens, value_tokens, call_tokens, local_tokens, simple_tokens, header_tokens, item_tokens, statement_tokens, member_tokens, kinds_of}
use Rattle.java_flow.specs.Points.{Point, behind}
use Rattle.java_flow.specs.Expressions.{judged, value_walk, call_walk}
use Rattle.java_flow.specs.Simples.{local_walk, simple_walk}
use Rattle.java_flow.specs.Statements.{init_walk, header_test_walk, behind_update, item_of, statement_walk}
use Rattle.java_flow.specs.Findings.{member_walk, class_walk}

-- Wherever it begins, it ends as many places further on as there are tokens.
abbrev pub Passes : Kinds → (Point → Point) → Type 0
Passes tokens walk = (p : Point) → (walk p).places ≡ drop (length tokens) p.places

-- the header of a `for` from its opening parenthesis to behind its closing one, in text order
abbrev pub header_walk : ForHeader → Point → Point
header_walk h p = behind_update h (header_test_walk h.test (behind 1 (init_walk h.init p)))

-- all tokens of a class but its closing brace
pub record PassesClass (c : Class) : Type 0 where
  pub front : Kinds
  pub tokens : kinds_of c ≡ front ++ k.Symbol symbol.CloseBrace ∷ []
  pub passes : Passes front (class_walk c)

pub record PassesEachToken : Type 0 where
  pub expr : (x : Expr) (cut : Bool) → Passes (expr_tokens x) ((judged x).walk cut)
  pub value : (v : Value) (cut : Bool) → Passes (value_tokens v) (value_walk v cut)
  pub call : (c : CallForm) (cut : Bool) → Passes (call_tokens c) (call_walk c cut)
  pub local : (l : Local) → Passes (local_tokens l) (local_walk l)
  pub simple : (x : Simple) → Passes (simple_tokens x) (simple_walk x)
  pub header : (h : ForHeader) → Passes (in_parentheses (header_tokens h)) (header_walk h)
  pub statement : (s : Stmt) → Passes (statement_tokens s) (statement_walk s)
  pub item : (i : BlockItem) → Passes (item_tokens i) (item_of i).walk
  pub member : (m : Member) → Passes (member_tokens m) (member_walk m)
  pub class : (c : Class) → PassesClass c
