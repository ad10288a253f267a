-- Where a body begins, its parameters have values, and so do the locals that it reads before it assigns them.
use Rattle.std.proofs.Common.{◌≡◌, ℕ, zero, ◌<◌, true, false, List, [], ◌∷◌, slice_get, Some, None, sym, ap, subst, ◌∙◌, arith}
use Rattle.std.specs.List.{range_with_len}
use Rattle.sdg_base.specs.declared.value_type.ValueType.{ValueType as SignatureType}
use Rattle.java_tree.specs.declared.tree.Class.{Class}
use Rattle.java_tree.specs.declared.tree.Method.{Method}
use Rattle.java_tree.specs.declared.method_kinds.MethodKind.{MethodKind}
use Rattle.java_tree.specs.declared.method_kinds.MethodKind.TheVariants.{Entry, Helper, Merge}
use Rattle.java_tree.specs.declared.types.Declaration.{Declaration}
use Rattle.java_tree.specs.declared.types.ExprType.{ExprType}
use Rattle.java_tree.specs.declared.types.ValueType.{ValueType}
use Rattle.java_types.proofs.Lists.{length_map}
use Rattle.java_types.specs.declared.walk.Walk.{Walk}
use Rattle.annotations.specs.declared.walk.Walk.{Walk as MarkingWalk}
use Rattle.access_blocks.specs.declared.body.Body.{Body}
use Rattle.access_blocks.specs.Cursors.{Cursor, variable_of}
use Rattle.access_blocks.specs.Programs.{methods_in, scope_of, param_variable, body_of}
use Rattle.body_code.specs.ClassCode.{members_of}
use Rattle.body_code.specs.Checking.{IsOne, at_start, known_parameters}
use Rattle.body_code.specs.Early.{early, is_in}
use Rattle.body_code.specs.Typing.{variable_type_in}
use Rattle.accepted_classes.specs.Beginning.{IsKnownParameter}
use Rattle.accepted_classes.specs.Classes.{resolved_of, IsQuiet}
use Rattle.accepted_classes.proofs.MarkedEntering.{no_marks}
use Rattle.typed_bodies.specs.Bodies.{bare_of}
use Rattle.typed_bodies.specs.Needing.{InScope}
use Rattle.typed_bodies.specs.Reading.{Place, cursor_at}
use Rattle.typed_statements.specs.Checks.{Ready, all_assigned}
use Rattle.typed_statements.specs.Points.{Setting, Point, place_at}
use Rattle.walked_bodies.specs.Begun.{names_of, setting}
use Rattle.walked_bodies.proofs.Beginning.{beginning, takes, known, field_not_plain}
use Rattle.walked_bodies.proofs.Words.{in_left, in_right, in_range, range_within}

-- A parameter has a value where it has a type of one value.

first_has_none : (vs : List ValueType) (s : ValueType) (t : SignatureType) → slice_get vs zero ≡ Some s → variable_type_in (members_of Merge vs) vs zero ≡ Some t → ⊥
first_has_none [] s t there is = absurd (cc)
first_has_none (v ∷ vs) s t there is = absurd (cc)

has_value : (kind : MethodKind) (vs : List ValueType) (arity number : ℕ) (s : ValueType) (t : SignatureType) → IsOne kind arity → number < arity → slice_get vs number ≡ Some s
    → variable_type_in (members_of kind vs) vs number ≡ Some t → is_in number (known_parameters kind arity) ≡ true
has_value Entry vs arity number s t one within there is = in_range arity 0 number (omega arith) (omega (arith, within))
has_value Helper vs arity number s t one within there is = in_range arity 0 number (omega arith) (omega (arith, within))
has_value Merge vs arity number s t one within there is =
    let zeroth : number ≡ 0 = omega (arith, one, within) in
    absurd (first_has_none vs s t (ap (slice_get vs) (sym zeroth) ∙ there) (ap (λ i. variable_type_in (members_of Merge vs) vs i) (sym zeroth) ∙ is))

none_some : {A : Type 0} (x : A) → None ≡ Some x → ⊥
none_some x e = absurd (cc)

module _ (class : Class) (quiet : IsQuiet class) (n : ℕ) (m : Method) (c : Cursor) (at_m : slice_get (methods_in class.members) n ≡ Some m)
    (at_b : slice_get (resolved_of class).methods n ≡ Some (body_of (scope_of class) m c).it) (w : Walk) (u : MarkingWalk) where
  abbrev k : Setting
  k = setting class m c

  abbrev here : Point
  here = beginning class quiet n m c at_m at_b w u

  abbrev p : Place
  p = place_at k here

  abbrev b : Body
  b = bare_of (scope_of class) m c

  parameter_known : (v : ℕ) (t : SignatureType) (i : InScope p v) → variable_type_in p.context.members p.context.variables v ≡ Some t → IsKnownParameter (body_of (scope_of class) m c).it i.it
      → is_in v (known_parameters b.kind b.arity) ≡ true
  parameter_known v t i is q =
      let same : v ≡ q.number = i.number ∙ ap (λ (d : Declaration). variable_of (cursor_at p) (Some d)) q.is_parameter in
      subst (λ j. is_in j (known_parameters b.kind b.arity) ≡ true) (sym same)
      (has_value b.kind b.variables b.arity q.number q.type t (takes class quiet n m c at_m at_b w u).one q.within q.has_type
      (ap (λ j. variable_type_in p.context.members p.context.variables j) (sym same) ∙ is))

  waits_none : here.marks.awaited ≡ u.awaited
  waits_none = (no_marks class (names_of class) m u).awaited

  pub ready : (result : ExprType) → u.awaited ≡ None → Ready k (record { result = result; in_loop = false }) here (at_start b) None (range_with_len 0 b.arity) (all_assigned b.statements)
  ready result none = record {
    knows = λ v t i is.
        in_left v (known_parameters b.kind b.arity) (early b)
        (known class quiet n m c at_m at_b w u i.name i.it i.is (parameter_known v t i is) (λ f. absurd (field_not_plain p i.it.declaration f.number f.is_field i.plain)));
    waits = λ local token is. absurd (none_some _ (sym (waits_none ∙ none) ∙ is));
    leads = λ h. absurd (cc);
    are_seen = λ v is.
        let as_many = length_map param_variable m.params in
        let within = range_within b.arity 0 v is in
        let arity = (takes class quiet n m c at_m at_b w u).arity in
        omega (arith, within, as_many, arity);
    early = λ v is. in_right v (known_parameters b.kind b.arity) (early b) is;
  }
