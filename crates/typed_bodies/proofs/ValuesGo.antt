-- A value that is an expression goes to its target.
use Rattle.std.proofs.Common.{◌≡◌, Bool, true, false, Some, refl, sym, ap, ◌∙◌}
use Rattle.sdg_base.specs.declared.value_type.ValueType.{ValueType as SignatureType}
use Rattle.sdg_base.specs.declared.value_type.ValueType.TheVariants as type
use Rattle.java_tree.specs.declared.types.ValueType.{ValueType}
use Rattle.java_tree.specs.declared.types.ValueType.TheVariants as value
use Rattle.java_tree.specs.declared.types.ExprType.{ExprType}
use Rattle.java_tree.specs.declared.types.ExprType.TheVariants.{Unknown, Void, Value, Collection, State}
use Rattle.java_types.specs.Fits.{fits}
use Rattle.access_blocks.specs.declared.body.Expression.{Expression}
use Rattle.access_blocks.specs.declared.body.Target.{Target}
use Rattle.access_blocks.specs.declared.body.Target.TheVariants as target
use Rattle.access_blocks.specs.Resolving.{converted_to}
use Rattle.access_blocks.specs.ResolvingStatements.{put}
use Rattle.body_code.specs.Typing.{Context, Needs, type_by, type_of, needs}
use Rattle.body_code.specs.Checking.{Surroundings, Standing, Around, is_void, are_met}
use Rattle.marked_bodies.specs.Unmarked.{unmarked}
use Rattle.typed_bodies.specs.Reading.{Place, IsOfType}
use Rattle.typed_bodies.specs.Targets.{StandsIn, Takes, put_in}
use Rattle.typed_bodies.proofs.Conversions.{taken_typed}
use Rattle.typed_bodies.proofs.Needing.{needs_converted}
use Rattle.typed_bodies.proofs.Running.{assign_runs, evaluate_runs, return_runs}

abbrev pub is_collection : ExprType → Bool
is_collection (Collection t) = true
is_collection _ = false

-- What is found goes to its target: of a type that it takes, with the type that it is converted from, or to none.
abbrev pub Meets : Surroundings → Bool → Target → ExprType → ExprType → ExprType → Type 0
Meets around is_global target.Dropped wanted from found = (wanted ≡ Unknown) × (is_collection found ≡ false)
Meets around is_global (target.Variable v) wanted from found = Takes around is_global (target.Variable v) wanted × (from ≡ found × fits wanted found ≡ true)
Meets around is_global target.Returned wanted from found = Takes around is_global target.Returned wanted × (from ≡ found × fits wanted found ≡ true)

no_void : (t : ValueType) → is_void (type_by t) ≡ false
no_void value.Int = refl
no_void value.Long = refl
no_void value.Boolean = refl
no_void value.Vector = refl

pub has_type_of : (c : Context) (found : ExprType) (a : Expression) → is_collection found ≡ false → IsOfType c found a → (t : SignatureType) × (type_of c a ≡ Some t)
has_type_of c Unknown a e typed = absurd typed
has_type_of c Void a e typed = (type.Void, typed)
has_type_of c (Value t) a e typed = (type_by t, typed)
has_type_of c (Collection t) a e typed = absurd (cc)
has_type_of c (State class) a e typed = absurd typed

-- what is converted to a type that is wanted has it
made_typed : (c : Context) (wanted from found : ExprType) (t : ValueType) (a : Expression) → wanted ≡ Value t → from ≡ found → fits wanted found ≡ true → IsOfType c found a
    → type_of c (converted_to wanted from a) ≡ Some (type_by t)
made_typed c wanted from found t a is same fit typed =
    ap (λ (w : ExprType). type_of c (converted_to w from a)) is ∙ (ap (λ (f : ExprType). type_of c (converted_to (Value t) f a)) same
    ∙ taken_typed c t found a typed (ap (λ (w : ExprType). fits w found) (sym is) ∙ fit))

module _ (p : Place) (around : Surroundings) (stands : StandsIn p around) (exits : Around) (st : Standing) where
  in_body : (a : Expression) (t : SignatureType) → type_of p.context a ≡ Some t → type_of around.context a ≡ Some t
  in_body a t typed = ap (λ (c : Context). type_of c a) stands.context ∙ typed

  met_too : (wanted from : ExprType) (a : Expression) → are_met around st (needs a) ≡ true → are_met around st (needs (converted_to wanted from a)) ≡ true
  met_too wanted from a met = ap (λ (n : Needs). are_met around st n) (needs_converted p wanted from a) ∙ met

  -- a value of the type that the rules find runs
  pub value_runs : (to : Target) (wanted from found : ExprType) (a : Expression) → Meets around false to wanted from found → IsOfType p.context found a → are_met around st (needs a) ≡ true
      → unmarked around (put to (converted_to wanted from a)) exits st ≡ Some (put_in to st)
  value_runs target.Dropped wanted from found a meets typed met =
      let t = has_type_of p.context found a meets.1 typed in
      ap (λ (w : ExprType). unmarked around (put target.Dropped (converted_to w from a)) exits st) meets.0
      ∙ evaluate_runs around exits st a t.0 (in_body a t.0 t.1) met
  value_runs (target.Variable v) wanted from found a meets typed met =
      let takes = meets.0 in
      let b = converted_to wanted from a in
      let is = made_typed p.context wanted from found takes.0 a takes.1 meets.1.0 meets.1.1 typed in
      assign_runs around exits st v b (type_by takes.0) (in_body b _ is) (takes.2 refl) (met_too wanted from a met)
  value_runs target.Returned wanted from found a meets typed met =
      let takes = meets.0 in
      let b = converted_to wanted from a in
      let is = made_typed p.context wanted from found takes.0 a takes.1 meets.1.0 meets.1.1 typed in
      return_runs around exits st b (in_body b (type_by takes.0) is ∙ ap (λ (t : SignatureType). Some t) (sym takes.2))
      (ap is_void takes.2 ∙ no_void takes.0) (met_too wanted from a met)
