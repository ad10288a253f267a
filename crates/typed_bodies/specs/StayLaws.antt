-- What holds of every expression, value and call, whatever the rules find: what was found stays, and nothing is declared.
use Rattle.std.specs.Prelude.{◌≡◌, ℕ, Bool, [], Option}
use Rattle.sdg_base.specs.declared.operator.BinOp.{BinOp}
use Rattle.java_tree.specs.declared.tree.CallForm.{CallForm}
use Rattle.java_tree.specs.declared.tree.Expr.{Expr}
use Rattle.java_tree.specs.declared.tree.Value.{Value}
use Rattle.java_tree.specs.declared.types.ExprType.{ExprType}
use Rattle.annotations.specs.declared.position.Position.{Position}
use Rattle.annotations.specs.declared.walk.Walk.{Walk}
use Rattle.annotations.specs.Expressions.{expr_of, value_of, call_of}
use Rattle.access_blocks.specs.declared.body.Target.{Target}
use Rattle.access_blocks.specs.declared.scope.Scope.{Scope}
use Rattle.access_blocks.specs.Cursors.{Cursor}
use Rattle.access_blocks.specs.Resolving.{expression_of}
use Rattle.access_blocks.specs.ResolvingStatements.{called_alone, compound, value_to}
use Rattle.typed_bodies.specs.Reading.{Place}

-- the variables and the locals so far are the same
pub record Keeps (c k : Cursor) : Type 0 where
  pub variables : k.variables ≡ c.variables
  pub locals : k.locals ≡ c.locals

-- Where the walk of the rules on annotations has found nothing behind a part, it had found nothing before it. A part declares no
-- variable as it is read.
pub record PartsStay : Type 0 where
  pub found_before : (p : Place) (x : Expr) (position : Position) (global : Option ℕ) (u : Walk) → ((expr_of p.marks x).walk position global u).findings ≡ [] → u.findings ≡ []
  pub found_before_value : (p : Place) (v : Value) (position : Position) (u : Walk) → ((value_of p.marks v).walk position u).findings ≡ [] → u.findings ≡ []
  pub found_before_call : (p : Place) (c : CallForm) (position : Position) (global : Option ℕ) (u : Walk) → (call_of p.marks c position global u).findings ≡ [] → u.findings ≡ []
  pub expressions_keep : (scope : Scope) (x : Expr) (c : Cursor) → Keeps c (expression_of scope x c).cursor
  pub values_keep : (scope : Scope) (to : Target) (wanted : ExprType) (v : Value) (c : Cursor) → Keeps c (value_to scope to wanted v c).cursor
  pub calls_keep : (scope : Scope) (is_global : Bool) (call : CallForm) (c : Cursor) → Keeps c (called_alone scope is_global call c).cursor
  pub compounds_keep : (scope : Scope) (op : BinOp) (variable : ℕ) (v : Value) (c : Cursor) → Keeps c (compound scope op variable v c).cursor
