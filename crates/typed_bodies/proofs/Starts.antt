-- What a local starts with has its type and reads nothing.
use Rattle.std.proofs.Common.{◌≡◌, ℕ, pos, false, [], ◌∷◌, Some, sym, ap, ◌∙◌}
use Rattle.sdg_base.specs.declared.value_type.ValueType.TheVariants as type
use Rattle.java_tree.specs.declared.types.ValueType.{ValueType}
use Rattle.java_tree.specs.declared.types.ValueType.TheVariants as value
use Rattle.access_blocks.specs.declared.body.Expression.{Expression, roll-Expression}
use Rattle.access_blocks.specs.declared.body.Expression.TheOpen.{Expression-F}
use Rattle.access_blocks.specs.declared.body.Expression.TheOpen as e
use Rattle.access_blocks.specs.declared.body.Expression.TheFolds.{fold-roll-Expression, map-Expression}
use Rattle.access_blocks.specs.declared.body.Expression.TheVariants as x
use Rattle.access_blocks.specs.declared.body.Statement.TheVariants as statement
use Rattle.access_blocks.specs.ResolvingStatements.{start_expression}
use Rattle.body_code.specs.Checking.{Surroundings, are_met}
use Rattle.body_code.specs.Typing.{Context, Needs, needs, needs_step, nothing, type_by, type_of, variable_type, where_type}
use Rattle.typed_bodies.specs.Parts.{Starts}
use Rattle.typed_bodies.specs.Reading.{Place}
use Rattle.typed_bodies.specs.Targets.{StandsIn}
use Rattle.typed_bodies.proofs.Assigns.{assign_assigns}
use Rattle.typed_bodies.proofs.Conversions.{bool_is, int_is, long_is, new_vector_is}
use Rattle.typed_bodies.proofs.Running.{assign_runs}

start_typed : (c : Context) (t : ValueType) → type_of c (start_expression t) ≡ Some (type_by t)
start_typed c value.Int = int_is c (pos 0)
start_typed c value.Long = long_is c (pos 0)
start_typed c value.Boolean = bool_is c false
start_typed c value.Vector = new_vector_is c (x.Int (pos 0)) ∙ ap (λ o. where_type o type.Int type.Vector) (int_is c (pos 0))

from_layer : (layer : Expression-F Expression) {a : Expression} → roll-Expression layer ≡ a → needs a ≡ needs_step (map-Expression Expression Needs needs layer)
from_layer layer rolled = ap needs (sym rolled) ∙ fold-roll-Expression Needs needs_step layer

start_needs : (t : ValueType) → needs (start_expression t) ≡ nothing
start_needs value.Int = from_layer (e.Int (pos 0)) (x.rolls-Int (pos 0))
start_needs value.Long = from_layer (e.Long (pos 0)) (x.rolls-Long (pos 0))
start_needs value.Boolean = from_layer (e.Bool false) (x.rolls-Bool false)
start_needs value.Vector = from_layer (e.NewVector (x.Int (pos 0))) (x.rolls-NewVector (x.Int (pos 0))) ∙ from_layer (e.Int (pos 0)) (x.rolls-Int (pos 0))

-- a local without initialiser
pub local_starts : (p : Place) (around : Surroundings) → StandsIn p around → (variable : ℕ) (t : ValueType) → variable_type p.context variable ≡ Some (type_by t)
    → Starts around variable (statement.Assign variable (start_expression t))
local_starts p around stands variable t typed = record {
  assigns = assign_assigns variable (start_expression t) ∙ ap (λ (n : Needs). record { variable = variable; reads = n.variables } ∷ []) (start_needs t);
  runs = λ exits st.
      assign_runs around exits st variable (start_expression t) (type_by t) (start_typed around.context t) (ap (λ (c : Context). variable_type c variable) stands.context ∙ typed)
      (ap (λ (n : Needs). are_met around st n) (start_needs t));
}
