-- No value and no call declares a variable as it is read.
use Rattle.std.proofs.Common.{ℕ, Bool}
use Rattle.sdg_base.specs.declared.operator.BinOp.{BinOp}
use Rattle.java_tree.specs.declared.tree.CallForm.{CallForm}
use Rattle.java_tree.specs.declared.tree.CallForm.TheOpen.{Expr-F}
use Rattle.java_tree.specs.declared.tree.CallForm.TheOpen as e
use Rattle.java_tree.specs.declared.tree.Expr.{Expr, out-Expr}
use Rattle.java_tree.specs.declared.tree.Value.{Value, out-Value}
use Rattle.java_tree.specs.declared.types.ExprType.{ExprType}
use Rattle.access_blocks.specs.declared.body.Target.{Target}
use Rattle.access_blocks.specs.declared.scope.Scope.{Scope}
use Rattle.access_blocks.specs.Cursors.{Cursor, behind_type}
use Rattle.access_blocks.specs.Resolving.{expression_of}
use Rattle.access_blocks.specs.ResolvingStatements.{called_alone, compound, value_to, whole_in}
use Rattle.typed_bodies.specs.StayLaws.{Keeps}
use Rattle.typed_bodies.proofs.SitesRead.{SitesBetween, call_sites, expression_sites}

kept : {c k : Cursor} → SitesBetween c k → Keeps c k
kept s = record { variables = s.variables; locals = s.locals }

behind_a_type : (c : Cursor) {k : Cursor} → Keeps (behind_type c) k → Keeps c k
behind_a_type c s = record { variables = s.variables; locals = s.locals }

module _ (scope : Scope) where
  pub expression_keeps : (x : Expr) (c : Cursor) → Keeps c (expression_of scope x c).cursor
  expression_keeps x c = kept (expression_sites scope x c)

  pub call_keeps : (is_global : Bool) (call : CallForm) (c : Cursor) → Keeps c (called_alone scope is_global call c).cursor
  call_keeps is_global call c = behind_a_type c (kept (call_sites scope call (behind_type c)))

  whole_keeps : (x : Expr) (y : Expr-F CallForm Expr Value) (c : Cursor) → Keeps c (whole_in scope x y c).cursor
  whole_keeps x (e.Conditional test first second) c = expression_keeps x c
  whole_keeps x (e.Binary op left right) c = expression_keeps x c
  whole_keeps x (e.Unary op part) c = expression_keeps x c
  whole_keeps x (e.Cast to part) c = expression_keeps x c
  whole_keeps x (e.Number digits decimal long) c = expression_keeps x c
  whole_keeps x (e.Bool b) c = expression_keeps x c
  whole_keeps x (e.Paren inner) c = expression_keeps x c
  whole_keeps x (e.New name size) c = expression_keeps x c
  whole_keeps x (e.Name name) c = expression_keeps x c
  whole_keeps x (e.Index name at) c = expression_keeps x c
  whole_keeps x (e.Member object name) c = expression_keeps x c
  whole_keeps x (e.Call call) c = behind_a_type c (kept (call_sites scope call (behind_type c)))

  pub value_keeps : (to : Target) (wanted : ExprType) (v : Value) (c : Cursor) → Keeps c (value_to scope to wanted v c).cursor
  value_keeps to wanted v c = let k = whole_keeps (out-Value v).expr (out-Expr (out-Value v).expr) c in record { variables = k.variables; locals = k.locals }

  pub compound_keeps : (op : BinOp) (variable : ℕ) (v : Value) (c : Cursor) → Keeps c (compound scope op variable v c).cursor
  compound_keeps op variable v c = let k = expression_keeps (out-Value v).expr c in record { variables = k.variables; locals = k.locals }
