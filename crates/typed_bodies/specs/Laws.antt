-- What holds of what is resolved of an accepted class.
use Rattle.std.specs.Prelude.{◌≡◌, Bool, []}
use Rattle.java_tree.specs.declared.tree.Expr.{Expr}
use Rattle.java_tree.specs.declared.tree.Value.{Value}
use Rattle.java_tree.specs.declared.tree.CallForm.{CallForm}
use Rattle.java_types.specs.declared.walk.Walk.{Walk}
use Rattle.java_types.specs.Expressions.{expr_walk, value_walk, call_walk}
use Rattle.annotations.specs.Expressions as marking
use Rattle.access_blocks.specs.Resolving.{expression_of, value_of, call_of}
use Rattle.typed_bodies.specs.Reading.{Place, IsSound, Follows}
use Rattle.typed_bodies.specs.Expressions.{IsFound, IsCall, is_of_member, as_reading}

-- Where what is known of names is sound, and the rules on types find nothing in an expression, a value or a call, as many types
-- and names are read of it as the walk of the rules adds. What is resolved of it is of the type that they find, where it is made
-- of plain names; then it reads only variables of names in scope, merges nothing and reads no key. A call may begin with a field.
-- The walk of the rules on annotations passes the same names, and where it finds nothing in what is a part of an expression, they
-- are plain. A call that is a whole reaches a field at most once, or merges the local that waits, or is plain too.
pub record ExpressionsAreTyped : Type 0 where
  pub expressions : (p : Place) → IsSound p → (x : Expr) (negated : Bool) (w : Walk) → (expr_walk p.env x negated w).walk.findings ≡ []
      → Follows p w (expr_walk p.env x negated w).walk (expression_of p.scope x) (IsFound p (expr_walk p.env x negated w).found (marking.expr_of p.marks x))
  pub values : (p : Place) → IsSound p → (v : Value) (w : Walk) → (value_walk p.env v w).walk.findings ≡ []
      → Follows p w (value_walk p.env v w).walk (value_of p.scope v) (IsFound p (value_walk p.env v w).given.found (as_reading (marking.value_of p.marks v)))
  pub calls : (p : Place) → IsSound p → (c : CallForm) (w : Walk) → (call_walk p.env c w).walk.findings ≡ []
      → Follows p w (call_walk p.env c w).walk (call_of p.scope c) (IsCall p (is_of_member c) (call_walk p.env c w).found (marking.call_of p.marks c))
