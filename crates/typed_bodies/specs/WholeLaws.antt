-- What holds of whole values and of calls that stand alone, as statements are resolved to them.
use Rattle.std.specs.Prelude.{◌≡◌, Bool, true, [], Some}
use Rattle.sdg_base.specs.declared.value_type.ValueType.{ValueType as SignatureType}
use Rattle.java_tree.specs.declared.tree.CallForm.{CallForm}
use Rattle.java_tree.specs.declared.tree.Value.{Value, out-Value}
use Rattle.java_tree.specs.declared.types.ExprType.{ExprType}
use Rattle.java_tree.specs.declared.types.ExprType.TheVariants.{Unknown}
use Rattle.java_types.specs.declared.walk.Walk.{Walk}
use Rattle.java_types.specs.Expressions.{value_walk}
use Rattle.java_types.specs.Fits.{fits}
use Rattle.java_types.specs.Simples.{call_alone}
use Rattle.annotations.specs.Expressions as marking
use Rattle.annotations.specs.Simples as marking_simples
use Rattle.access_blocks.specs.declared.body.Expression.{Expression}
use Rattle.access_blocks.specs.declared.body.Target.{Target}
use Rattle.access_blocks.specs.declared.body.Target.TheVariants.{Dropped}
use Rattle.access_blocks.specs.ResolvingStatements.{value_to, called_alone}
use Rattle.body_code.specs.Checking.{Surroundings, Standing, are_met}
use Rattle.body_code.specs.Typing.{needs, type_of}
use Rattle.typed_bodies.specs.Reading.{Place, IsSound}
use Rattle.typed_bodies.specs.Needing.{IsWithin}
use Rattle.typed_bodies.specs.Targets.{KnowsRead, StandsIn, Takes, Puts}

-- An expression with a type that reads names in scope has what it needs where the standing is ready. A value in which no rule has a
-- finding, and that fits where it goes, is read as a statement that is typed; so is a call that stands alone. A method of a field is
-- accessed with the key that its site says, all of what is gathered waits for the merge behind it, and no further site is read.
pub record WholesAreTyped : Type 0 where
  pub met : (p : Place) (around : Surroundings) (st : Standing) (a : Expression) → KnowsRead p st (needs a).variables → (t : SignatureType)
      → type_of p.context a ≡ Some t → IsWithin p (needs a) → are_met around st (needs a) ≡ true
  pub values : (p : Place) → IsSound p → (around : Surroundings) → StandsIn p around → (to : Target) (wanted : ExprType) (v : Value) → Takes around (out-Value v).is_global to wanted
      → (w : Walk) → (value_walk p.env v w).walk.findings ≡ [] → fits wanted (value_walk p.env v w).given.found ≡ true
      → Puts p around (out-Value v).is_global to wanted w (value_walk p.env v w).walk (marking.value_of p.marks v).walk (value_to p.scope to wanted v)
  pub calls : (p : Place) → IsSound p → (around : Surroundings) → StandsIn p around → (is_global : Bool) (call : CallForm) (w : Walk) → (call_alone p.env is_global call w).findings ≡ []
      → Puts p around is_global Dropped Unknown w (call_alone p.env is_global call w) (λ position u. marking_simples.call_alone p.marks is_global call u) (called_alone p.scope is_global call)
