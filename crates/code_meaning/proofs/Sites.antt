-- The part of a field that is the state of the code.
use Rattle.std.proofs.Common.{◌≡◌, refl, sym, ap, subst, ◌∙◌, ℕ, zero, suc, true, List, [], ◌∷◌, Option, Some, None, is_some, slice_get, slice_set}
use Rattle.state_classes.specs.States.{State, class_of}
use Rattle.access_blocks.specs.Statements.{Field, Whole, Instances, Machine, part_of, with_part, changed_field, with_state}
use Rattle.code_meaning.specs.Running.{Ground, SiteAgrees, fields_with, FieldsAgree}
use Rattle.code_meaning.proofs.Lists.{none_some, get_within, get_set}

set_set : {A : Type 0} (xs : List A) (i : ℕ) (x y : A) → slice_set (slice_set xs i x) i y ≡ slice_set xs i y
set_set [] i x y = refl
set_set (z ∷ xs) zero x y = refl
set_set (z ∷ xs) (suc i) x y = ap (λ l. z ∷ l) (set_set xs i x y)

part_set : (old : Field) (i : ℕ) (part state : State) → part_of (Some old) i ≡ Some part → part_of (Some (with_part old i state)) i ≡ Some state
part_set (Whole s) i part state is = refl
part_set (Instances states) i part state is = get_set states i state (get_within states i part is)

part_twice : (old : Field) (i : ℕ) (a b : State) → with_part (with_part old i a) i b ≡ with_part old i b
part_twice (Whole s) i a b = refl
part_twice (Instances states) i a b = ap Instances (set_set states i a b)

-- the fields with another part, where the field is there
with_there : (fields : List Field) (field i : ℕ) (state : State) (old : Field) → slice_get fields field ≡ Some old
    → changed_field (slice_get fields field) field state fields i ≡ slice_set fields field (with_part old i state)
with_there fields field i state old is = ap (λ o. changed_field o field state fields i) is

-- Where a part is there, one is there after it has changed.
pub part_stays : (field f : ℕ) (old state : State) (m : Machine) → part_of (slice_get m.fields field) m.instance ≡ Some old → field ≡ f
    → is_some (part_of (slice_get (with_state field state m).fields f) (with_state field state m).instance) ≡ true
part_stays field f old state m is same = subst (λ n. is_some (part_of (slice_get (with_state field state m).fields n) m.instance) ≡ true) same (by (slice_get m.fields field) refl is)
  where
    by : (o : Option Field) → slice_get m.fields field ≡ o → part_of o m.instance ≡ Some old → is_some (part_of (slice_get (changed_field (slice_get m.fields field) field state m.fields m.instance) field) m.instance) ≡ true
    by None e h = absurd (none_some old h)
    by (Some there) e h =
        ap (λ fields. is_some (part_of (slice_get fields field) m.instance)) (with_there m.fields field m.instance state there e)
        ∙ ap (λ o. is_some (part_of o m.instance)) (get_set m.fields field (with_part there m.instance state) (get_within m.fields field there e))
        ∙ ap is_some (part_set there m.instance old state h)

module _ {g : Ground} (field : ℕ) (on : g.site ≡ Some field) (site : SiteAgrees g field) where
  set_fields : {state : State} {m : Machine} → FieldsAgree g state m → m.fields ≡ slice_set g.fields field (with_part site.old g.instance state)
  set_fields {state} {m} h = h.same_fields ∙ ap (λ o. fields_with o g.instance state g.fields) on ∙ with_there g.fields field g.instance state site.old site.is_old

  found : {state : State} {m : Machine} → FieldsAgree g state m → slice_get m.fields field ≡ Some (with_part site.old g.instance state)
  found {state} {m} h = ap (λ fs. slice_get fs field) (set_fields h) ∙ get_set g.fields field (with_part site.old g.instance state) (get_within g.fields field site.old site.is_old)

  -- The part of the machine's field is the state.
  pub part_is : {state : State} {m : Machine} → FieldsAgree g state m → part_of (slice_get m.fields field) m.instance ≡ Some state
  part_is {state} {m} h =
      ap (λ o. part_of o m.instance) (found h) ∙ ap (λ i. part_of (Some (with_part site.old g.instance state)) i) h.same_instance ∙ part_set site.old g.instance site.part state site.is_part

  pub class_is : {state : State} {m : Machine} → FieldsAgree g state m → class_of state ≡ site.holder.class
  class_is h = h.of_class field site.holder on site.is_holder

  pub fields_set : {state : State} {m : Machine} (next : State) → FieldsAgree g state m → class_of next ≡ class_of state → FieldsAgree g next (with_state field next m)
  fields_set {state} {m} next h same = record {
    same_fields =
        with_there m.fields field m.instance next (with_part site.old g.instance state) (found h)
        ∙ ap (λ i. slice_set m.fields field (with_part (with_part site.old g.instance state) i next)) h.same_instance
        ∙ ap (λ x. slice_set m.fields field x) (part_twice site.old g.instance state next)
        ∙ ap (λ fs. slice_set fs field (with_part site.old g.instance next)) (set_fields h)
        ∙ set_set g.fields field (with_part site.old g.instance state) (with_part site.old g.instance next)
        ∙ sym (ap (λ o. fields_with o g.instance next g.fields) on ∙ with_there g.fields field g.instance next site.old site.is_old);
    same_instance = h.same_instance;
    of_class = λ f holder is there. same ∙ h.of_class f holder is there;
  }
