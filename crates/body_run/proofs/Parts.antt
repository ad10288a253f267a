-- A part of a field, or an element, replaced in place.
use Rattle.std.proofs.Common.{◌≡◌, ℕ, ◌<◌, ◌≤◌, List, Option, Some, None, slice_get, slice_set, get_or, length, unwrap_or, refl, ap, sym, ◌∙◌}
use Rattle.std.specs.Option.{option_map}
use Rattle.std.proofs.lemmas.List.{set-get_or}
use Rattle.std.proofs.lemmas.Option.{slice_get_read, slice_get_past}
use Rattle.sdg_base.specs.declared.val.Val.{Val}
use Rattle.sdg_base.specs.declared.val.Val.TheVariants as val
use Rattle.sdg_base.specs.declared.val.Exn.TheVariants as exn
use Rattle.state_classes.specs.States.{State}
use Rattle.access_blocks.specs.declared.halt.Halt.TheVariants.{Threw}
use Rattle.access_blocks.specs.Statements.{Field, Machine, Halts, completed, element_set, with_element, variable_in, part_of, changed_field}
use Rattle.body_run.specs.Fields.{replaced, with_made, field_after, machine_after}

unset : {X : Type 0} (xs : List X) (i : ℕ) (x y : X) → x ≡ get_or xs i x → y ≡ x → slice_set xs i y ≡ xs
unset xs i x y is same = ap (slice_set xs i) (same ∙ is) ∙ set-get_or xs i x

found : {X : Type 0} (xs : List X) (i : ℕ) (x : X) → i < length xs → x ≡ get_or xs i x → slice_get xs i ≡ Some x
found xs i x within is = slice_get_read xs (length xs) i x refl within is

made_by : (f : State → State) (m : Machine) (field : ℕ) (old : Field) → field < length m.fields → old ≡ get_or m.fields field old → (part : Option State)
    → record m { fields = slice_set m.fields field (replaced f old m.instance part) } ≡ with_made f m field part
made_by f m field old within is None = ap (λ fields. record m { fields = fields }) (unset m.fields field old old is refl)
made_by f m field old within is (Some state) = ap (λ one. record m { fields = changed_field one field (f state) m.fields m.instance }) (sym (found m.fields field old within is))

pub made : (f : State → State) (m : Machine) (field : ℕ) (old new : Field) → field < length m.fields → old ≡ get_or m.fields field old → new ≡ field_after f old m.instance
    → record m { fields = slice_set m.fields field new } ≡ machine_after f m field
made f m field old new within is after =
    ap (λ one. record m { fields = slice_set m.fields field one }) after
    ∙ made_by f m field old within is (part_of (Some old) m.instance) ∙ ap (λ one. with_made f m field (part_of one m.instance)) (sym (found m.fields field old within is))

pub no_field : {B : Type 0} (f : State → B) (fields : List Field) (field instance : ℕ) → length fields ≤ field → None ≡ option_map f (part_of (slice_get fields field) instance)
no_field f fields field instance past = ap (λ one. option_map f (part_of one instance)) (sym (slice_get_past fields field past))

pub not_set : (m : Machine) (v : ℕ) (index element old new : Val) → v < length m.variables → old ≡ get_or m.variables v old → new ≡ old → with_element old index element ≡ None
    → element_set v (with_element (variable_in m v) index element) m ≡ completed (Halts (Threw exn.Index)) (record m { variables = slice_set m.variables v new })
not_set m v index element old new within is same none =
    ap (λ one. element_set v (with_element (unwrap_or one val.Unit) index element) m) (found m.variables v old within is)
    ∙ ap (λ one. element_set v one m) none
    ∙ ap (λ vs. completed (Halts (Threw exn.Index)) (record m { variables = vs })) (sym (unset m.variables v old new is same))
