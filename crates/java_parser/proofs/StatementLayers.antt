-- A fold of each kind of statement is its step at the folds of the parts; and each statement is of one of these kinds.
use Rattle.std.proofs.Common.{◌≡◌, List, map, Option, Some, None, sym, ap, subst, ◌∙◌}
use Rattle.java_tree.specs.declared.tree.Local.{Local}
use Rattle.java_tree.specs.declared.tree.Simple.{Simple}
use Rattle.java_tree.specs.declared.tree.ForHeader.{ForHeader}
use Rattle.java_tree.specs.declared.tree.Expr.{Expr}
use Rattle.java_tree.specs.declared.tree.Value.{Value}
use Rattle.java_tree.specs.declared.tree.BlockItem.{BlockItem, out-BlockItem, roll-BlockItem, roll-out-BlockItem}
use Rattle.java_tree.specs.declared.tree.BlockItem.TheVariants as item
use Rattle.java_tree.specs.declared.tree.Stmt.{Stmt, out-Stmt, roll-Stmt, roll-out-Stmt}
use Rattle.java_tree.specs.declared.tree.Stmt.TheVariants as stmt
use Rattle.java_tree.specs.declared.tree.BlockItem.TheOpen.{BlockItem-F, Stmt-F}
use Rattle.java_tree.specs.declared.tree.BlockItem.TheOpen as layer
use Rattle.java_tree.specs.declared.tree.BlockItem.TheFolds.{fold-BlockItem, fold-Stmt, fold-roll-BlockItem, fold-roll-Stmt}

module _ (I S : Type 0) (item_step : BlockItem-F I S → I) (statement_step : Stmt-F I S → S) where
  abbrev pub of_item : BlockItem → I
  of_item = fold-BlockItem I S item_step statement_step

  abbrev pub of_statement : Stmt → S
  of_statement = fold-Stmt I S item_step statement_step

  pub local_item : (l : Local) → of_item (item.Local l) ≡ item_step (layer.Local l)
  local_item l = ap of_item (sym (item.rolls-Local l)) ∙ fold-roll-BlockItem I S item_step statement_step (layer.Local l)

  pub statement_item : (s : Stmt) → of_item (item.Stmt s) ≡ item_step (layer.Stmt (of_statement s))
  statement_item s = ap of_item (sym (item.rolls-Stmt s)) ∙ fold-roll-BlockItem I S item_step statement_step (layer.Stmt s)

  pub block : (items : List BlockItem) → of_statement (stmt.Block items) ≡ statement_step (layer.Block (map of_item items))
  block items = ap of_statement (sym (stmt.rolls-Block items)) ∙ fold-roll-Stmt I S item_step statement_step (layer.Block items)

  pub empty : of_statement stmt.Empty ≡ statement_step layer.Empty
  empty = ap of_statement (sym stmt.rolls-Empty) ∙ fold-roll-Stmt I S item_step statement_step layer.Empty

  pub simple : (x : Simple) → of_statement (stmt.Simple x) ≡ statement_step (layer.Simple x)
  simple x = ap of_statement (sym (stmt.rolls-Simple x)) ∙ fold-roll-Stmt I S item_step statement_step (layer.Simple x)

  pub if_alone : (test : Expr) (first : Stmt) → of_statement (stmt.If test first None) ≡ statement_step (layer.If test (of_statement first) None)
  if_alone test first = ap of_statement (sym (stmt.rolls-If test first None)) ∙ fold-roll-Stmt I S item_step statement_step (layer.If test first None)

  pub if_else : (test : Expr) (first second : Stmt) → of_statement (stmt.If test first (Some second)) ≡ statement_step (layer.If test (of_statement first) (Some (of_statement second)))
  if_else test first second = ap of_statement (sym (stmt.rolls-If test first (Some second))) ∙ fold-roll-Stmt I S item_step statement_step (layer.If test first (Some second))

  pub while_loop : (test : Expr) (body : Stmt) → of_statement (stmt.While test body) ≡ statement_step (layer.While test (of_statement body))
  while_loop test body = ap of_statement (sym (stmt.rolls-While test body)) ∙ fold-roll-Stmt I S item_step statement_step (layer.While test body)

  pub for_loop : (header : ForHeader) (body : Stmt) → of_statement (stmt.For header body) ≡ statement_step (layer.For header (of_statement body))
  for_loop header body = ap of_statement (sym (stmt.rolls-For header body)) ∙ fold-roll-Stmt I S item_step statement_step (layer.For header body)

  pub breaking : of_statement stmt.Break ≡ statement_step layer.Break
  breaking = ap of_statement (sym stmt.rolls-Break) ∙ fold-roll-Stmt I S item_step statement_step layer.Break

  pub continuing : of_statement stmt.Continue ≡ statement_step layer.Continue
  continuing = ap of_statement (sym stmt.rolls-Continue) ∙ fold-roll-Stmt I S item_step statement_step layer.Continue

  pub returning : (v : Option Value) → of_statement (stmt.Return v) ≡ statement_step (layer.Return v)
  returning v = ap of_statement (sym (stmt.rolls-Return v)) ∙ fold-roll-Stmt I S item_step statement_step (layer.Return v)

-- what holds of each kind of statement
pub record EachStatement (P : Stmt → Type 0) : Type 0 where
  pub block : (items : List BlockItem) → P (stmt.Block items)
  pub empty : P stmt.Empty
  pub simple : (x : Simple) → P (stmt.Simple x)
  pub if_alone : (test : Expr) (first : Stmt) → P (stmt.If test first None)
  pub if_else : (test : Expr) (first second : Stmt) → P (stmt.If test first (Some second))
  pub while_loop : (test : Expr) (body : Stmt) → P (stmt.While test body)
  pub for_loop : (header : ForHeader) (body : Stmt) → P (stmt.For header body)
  pub breaking : P stmt.Break
  pub continuing : P stmt.Continue
  pub returning : (v : Option Value) → P (stmt.Return v)

layer_cases : (P : Stmt → Type 0) → EachStatement P → (x : Stmt-F BlockItem Stmt) → P (roll-Stmt x)
layer_cases P each (layer.Block items) = subst P (sym (stmt.rolls-Block items)) (each.block items)
layer_cases P each layer.Empty = subst P (sym stmt.rolls-Empty) each.empty
layer_cases P each (layer.Simple x) = subst P (sym (stmt.rolls-Simple x)) (each.simple x)
layer_cases P each (layer.If test first None) = subst P (sym (stmt.rolls-If test first None)) (each.if_alone test first)
layer_cases P each (layer.If test first (Some second)) = subst P (sym (stmt.rolls-If test first (Some second))) (each.if_else test first second)
layer_cases P each (layer.While test body) = subst P (sym (stmt.rolls-While test body)) (each.while_loop test body)
layer_cases P each (layer.For header body) = subst P (sym (stmt.rolls-For header body)) (each.for_loop header body)
layer_cases P each layer.Break = subst P (sym stmt.rolls-Break) each.breaking
layer_cases P each layer.Continue = subst P (sym stmt.rolls-Continue) each.continuing
layer_cases P each (layer.Return v) = subst P (sym (stmt.rolls-Return v)) (each.returning v)

pub statement_cases : (P : Stmt → Type 0) → EachStatement P → (s : Stmt) → P s
statement_cases P each s = subst P (roll-out-Stmt s) (layer_cases P each (out-Stmt s))

item_layer_cases : (P : BlockItem → Type 0) → ((l : Local) → P (item.Local l)) → ((s : Stmt) → P (item.Stmt s)) → (x : BlockItem-F BlockItem Stmt) → P (roll-BlockItem x)
item_layer_cases P local statement (layer.Local l) = subst P (sym (item.rolls-Local l)) (local l)
item_layer_cases P local statement (layer.Stmt s) = subst P (sym (item.rolls-Stmt s)) (statement s)

pub item_cases : (P : BlockItem → Type 0) → ((l : Local) → P (item.Local l)) → ((s : Stmt) → P (item.Stmt s)) → (x : BlockItem) → P x
item_cases P local statement x = subst P (roll-out-BlockItem x) (item_layer_cases P local statement (out-BlockItem x))
