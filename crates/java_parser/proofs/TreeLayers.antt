-- A fold of each kind of expression is its step at the folds of the parts.
use Rattle.std.proofs.Common.{◌≡◌, ℕ, Bool, List, map, sym, ap, ◌∙◌}
use Rattle.sdg_base.specs.declared.operator.BinOp.{BinOp}
use Rattle.sdg_base.specs.declared.operator.UnOp.{UnOp}
use Rattle.sdg_base.specs.declared.val.Num.{Num}
use Rattle.java_tree.specs.declared.tree.Expr.{Expr}
use Rattle.java_tree.specs.declared.tree.Expr.TheVariants as e
use Rattle.java_tree.specs.declared.tree.Value.{Value}
use Rattle.java_tree.specs.declared.tree.CallForm.{CallForm}
use Rattle.java_tree.specs.declared.tree.CallForm.TheVariants as call
use Rattle.java_tree.specs.declared.tree.CallForm.TheOpen.{CallForm-F, Expr-F, Value-F}
use Rattle.java_tree.specs.declared.tree.CallForm.TheOpen as layer
use Rattle.java_tree.specs.declared.tree.CallForm.TheFolds.{fold-CallForm, fold-Expr, fold-Value, fold-roll-CallForm, fold-roll-Expr, fold-roll-Value}
use Rattle.java_parser.specs.Expressions.{valued}

module _ (C E V : Type 0) (call_step : CallForm-F C E V → C) (expr_step : Expr-F C E V → E) (value_step : Value-F C E V → V) where
  abbrev pub of_call : CallForm → C
  of_call = fold-CallForm C E V call_step expr_step value_step

  abbrev pub of_expr : Expr → E
  of_expr = fold-Expr C E V call_step expr_step value_step

  abbrev pub of_value : Value → V
  of_value = fold-Value C E V call_step expr_step value_step

  pub conditional : (test first second : Expr) → of_expr (e.Conditional test first second) ≡ expr_step (layer.Conditional (of_expr test) (of_expr first) (of_expr second))
  conditional test first second = ap of_expr (sym (e.rolls-Conditional test first second)) ∙ fold-roll-Expr C E V call_step expr_step value_step (layer.Conditional test first second)

  pub binary : (op : BinOp) (left right : Expr) → of_expr (e.Binary op left right) ≡ expr_step (layer.Binary op (of_expr left) (of_expr right))
  binary op left right = ap of_expr (sym (e.rolls-Binary op left right)) ∙ fold-roll-Expr C E V call_step expr_step value_step (layer.Binary op left right)

  pub unary : (op : UnOp) (x : Expr) → of_expr (e.Unary op x) ≡ expr_step (layer.Unary op (of_expr x))
  unary op x = ap of_expr (sym (e.rolls-Unary op x)) ∙ fold-roll-Expr C E V call_step expr_step value_step (layer.Unary op x)

  pub cast : (to : Num) (x : Expr) → of_expr (e.Cast to x) ≡ expr_step (layer.Cast to (of_expr x))
  cast to x = ap of_expr (sym (e.rolls-Cast to x)) ∙ fold-roll-Expr C E V call_step expr_step value_step (layer.Cast to x)

  pub number : (digits : ℕ) (decimal long : Bool) → of_expr (e.Number digits decimal long) ≡ expr_step (layer.Number digits decimal long)
  number digits decimal long = ap of_expr (sym (e.rolls-Number digits decimal long)) ∙ fold-roll-Expr C E V call_step expr_step value_step (layer.Number digits decimal long)

  pub truth : (value : Bool) → of_expr (e.Bool value) ≡ expr_step (layer.Bool value)
  truth value = ap of_expr (sym (e.rolls-Bool value)) ∙ fold-roll-Expr C E V call_step expr_step value_step (layer.Bool value)

  pub paren : (x : Expr) → of_expr (e.Paren x) ≡ expr_step (layer.Paren (of_expr x))
  paren x = ap of_expr (sym (e.rolls-Paren x)) ∙ fold-roll-Expr C E V call_step expr_step value_step (layer.Paren x)

  pub maker : (name : List ℕ) (x : Expr) → of_expr (e.New name x) ≡ expr_step (layer.New name (of_expr x))
  maker name x = ap of_expr (sym (e.rolls-New name x)) ∙ fold-roll-Expr C E V call_step expr_step value_step (layer.New name x)

  pub name : (n : List ℕ) → of_expr (e.Name n) ≡ expr_step (layer.Name n)
  name n = ap of_expr (sym (e.rolls-Name n)) ∙ fold-roll-Expr C E V call_step expr_step value_step (layer.Name n)

  pub index : (n : List ℕ) (x : Expr) → of_expr (e.Index n x) ≡ expr_step (layer.Index n (of_expr x))
  index n x = ap of_expr (sym (e.rolls-Index n x)) ∙ fold-roll-Expr C E V call_step expr_step value_step (layer.Index n x)

  pub member : (object n : List ℕ) → of_expr (e.Member object n) ≡ expr_step (layer.Member object n)
  member object n = ap of_expr (sym (e.rolls-Member object n)) ∙ fold-roll-Expr C E V call_step expr_step value_step (layer.Member object n)

  pub called : (c : CallForm) → of_expr (e.Call c) ≡ expr_step (layer.Call (of_call c))
  called c = ap of_expr (sym (e.rolls-Call c)) ∙ fold-roll-Expr C E V call_step expr_step value_step (layer.Call c)

  pub own : (n : List ℕ) (args : List Value) → of_call (call.Own n args) ≡ call_step (layer.Own n (map of_value args))
  own n args = ap of_call (sym (call.rolls-Own n args)) ∙ fold-roll-CallForm C E V call_step expr_step value_step (layer.Own n args)

  pub of : (object n : List ℕ) (args : List Value) → of_call (call.Of object n args) ≡ call_step (layer.Of object n (map of_value args))
  of object n args = ap of_call (sym (call.rolls-Of object n args)) ∙ fold-roll-CallForm C E V call_step expr_step value_step (layer.Of object n args)

  pub of_member : (object : List ℕ) (at : Expr) (n : List ℕ) (args : List Value) → of_call (call.OfMember object at n args) ≡ call_step (layer.OfMember object (of_expr at) n (map of_value args))
  of_member object at n args = ap of_call (sym (call.rolls-OfMember object at n args)) ∙ fold-roll-CallForm C E V call_step expr_step value_step (layer.OfMember object at n args)

  pub value : (is_global : Bool) (x : Expr) → of_value (valued is_global x) ≡ value_step (record { is_global = is_global; expr = of_expr x })
  value is_global x = fold-roll-Value C E V call_step expr_step value_step (record { is_global = is_global; expr = x })
