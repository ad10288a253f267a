-- What holds of conditions, of compound assignments, and of `++` and `--`.
use Rattle.std.specs.Prelude.{◌≡◌, ℕ, Bool, true, false, [], slice_get, Some}
use Rattle.sdg_base.specs.declared.operator.BinOp.{BinOp}
use Rattle.sdg_base.specs.declared.operator.BinOp.TheVariants as bin
use Rattle.java_tree.specs.declared.tree.AssignOp.{AssignOp}
use Rattle.java_tree.specs.declared.tree.Expr.{Expr}
use Rattle.java_tree.specs.declared.tree.Value.{Value}
use Rattle.java_tree.specs.declared.types.ValueType.{ValueType}
use Rattle.java_tree.specs.declared.types.ExprType.TheVariants as types
use Rattle.java_types.specs.declared.walk.Walk.{Walk}
use Rattle.java_types.specs.Expressions.{operated, value_walk}
use Rattle.java_types.specs.Fits.{may_be_number}
use Rattle.java_types.specs.Simples.{operator_of}
use Rattle.java_types.specs.Statements.{condition}
use Rattle.annotations.specs.declared.position.Position.TheVariants.{Inside}
use Rattle.annotations.specs.Expressions as marking
use Rattle.access_blocks.specs.Resolving.{expression_of}
use Rattle.access_blocks.specs.ResolvingStatements.{compound, start_expression, step_of}
use Rattle.access_blocks.specs.declared.body.Statement.TheVariants as statement
use Rattle.body_code.specs.Checking.{Surroundings}
use Rattle.body_code.specs.Typing.{type_by, variable_type}
use Rattle.typed_bodies.specs.Reading.{Place, IsSound}
use Rattle.typed_bodies.specs.Needing.{InScope}
use Rattle.typed_bodies.specs.Parts.{Starts, Tests, Changes, ReadsPart}
use Rattle.typed_bodies.specs.Targets.{StandsIn}

-- a variable in scope that has a value of this type
pub record IsVariable (p : Place) (v : ℕ) (t : ValueType) : Type 0 where
  pub in_scope : InScope p v
  pub so_far : slice_get p.variables v ≡ Some t
  pub typed : variable_type p.context v ≡ Some (type_by t)

-- the operator of `++` or of `--`
abbrev pub is_step : BinOp → Bool
is_step bin.Add = true
is_step bin.Sub = true
is_step _ = false

-- A local without initialiser starts with a value of its type. A condition in which no rule has a finding is a truth value. A compound assignment of a value that fits the operator gives the variable
-- a value of its type, and so do `++` and `--` on a number. No site is read.
pub record PartsAreTyped : Type 0 where
  pub conditions : (p : Place) → IsSound p → (around : Surroundings) → StandsIn p around → (x : Expr) (w : Walk) → (condition p.env x w).findings ≡ []
      → ReadsPart p (Tests p around) w (condition p.env x w) (marking.inside (marking.expr_of p.marks x)) (expression_of p.scope x)
  pub compounds : (p : Place) → IsSound p → (around : Surroundings) → StandsIn p around → (assign : AssignOp) (op : BinOp) → operator_of assign ≡ Some op
      → (variable : ℕ) (t : ValueType) → IsVariable p variable t → (v : Value) (at value_at : ℕ) (w : Walk)
      → (operated op (record { found = types.Value t; at = at }) (record { found = (value_walk p.env v w).given.found; at = value_at }) (value_walk p.env v w).walk).walk.findings ≡ []
      → ReadsPart p (Changes p around variable) w (operated op (record { found = types.Value t; at = at }) (record { found = (value_walk p.env v w).given.found; at = value_at }) (value_walk p.env v w).walk).walk
      ((marking.value_of p.marks v).walk Inside) (compound p.scope op variable v)
  pub starts : (p : Place) (around : Surroundings) → StandsIn p around → (variable : ℕ) (t : ValueType) → variable_type p.context variable ≡ Some (type_by t)
      → Starts around variable (statement.Assign variable (start_expression t))
  pub steps : (p : Place) (around : Surroundings) → StandsIn p around → (op : BinOp) → is_step op ≡ true → (variable : ℕ) (t : ValueType) → IsVariable p variable t
      → may_be_number (types.Value t) ≡ true → Changes p around variable (step_of op variable (types.Value t))
