-- Fields that are as the class says stay so where a part changes, and have the parts that blocks and visits work on.
use Rattle.std.proofs.Common.{◌≡◌, ◌≢◌, refl, sym, ap, subst, ◌∙◌, ℕ, zero, suc, Bool, true, false, nat_lt, cond, List, [], ◌∷◌, ◌++◌, map, replicate, length, unwrap_or, Option, Some, None, slice_get, slice_set, inl, inr, ◌⊎◌}
use Rattle.std.proofs.lemmas.Bool.{false≢true, ltb-true}
use Rattle.std.specs.List.{AllByRecursion}
use Rattle.sdg_base.specs.declared.val.Val.{Val}
use Rattle.sdg_base.specs.declared.store.ClassName.{ClassName}
use Rattle.sdg_base.specs.declared.store.ClassName.TheVariants as class_name
use Rattle.state_classes.specs.States.{State, empty_state, class_of}
use Rattle.access_blocks.specs.declared.body.Holder.{Holder}
use Rattle.access_blocks.specs.declared.body.Program.{Program}
use Rattle.access_blocks.specs.Statements.{Field, Whole, Instances, part_of, with_part, changed_field}
use Rattle.access_blocks.specs.Source as source
use Rattle.access_blocks.specs.Source.{width_in, fits_block, grown_field, grown, field_at_start}
use Rattle.code_meaning.specs.Running.{fields_with}
use Rattle.code_meaning.specs.Resting.{IsKeyFor}
use Rattle.code_meaning.specs.Standing.{FieldFits, FieldsFit}
use Rattle.code_meaning.proofs.Lists.{none_some, some_is, get_within, within_get, get_set, get_set_other, same_or_not}

all_set : (c : ClassName) (states : List State) (i : ℕ) (state : State) → class_of state ≡ c → AllByRecursion (λ s. class_of s ≡ c) states → AllByRecursion (λ s. class_of s ≡ c) (slice_set states i state)
all_set c [] i state is h = h
all_set c (s ∷ states) zero state is h = (is, h.1)
all_set c (s ∷ states) (suc i) state is h = (h.0, all_set c states i state is h.1)

all_at : (c : ClassName) (states : List State) (i : ℕ) (state : State) → AllByRecursion (λ s. class_of s ≡ c) states → slice_get states i ≡ Some state → class_of state ≡ c
all_at c [] i state h is = absurd (none_some state is)
all_at c (s ∷ states) zero state h is = ap class_of (sym (some_is s state is)) ∙ h.0
all_at c (s ∷ states) (suc i) state h is = all_at c states i state h.1 is

part_fits : (h : Holder) (old : Field) (i : ℕ) (state : State) → class_of state ≡ h.class → FieldFits h (Some old) → FieldFits h (Some (with_part old i state))
part_fits h (Whole part) i state is fits = (fits.0, is)
part_fits h (Instances states) i state is fits = (fits.0, all_set h.class states i state is fits.1)

-- the part that is there is of the class
pub part_class : (h : Holder) (o : Option Field) (i : ℕ) (part : State) → FieldFits h o → part_of o i ≡ Some part → class_of part ≡ h.class
part_class h None i part fits is = absurd fits
part_class h (Some (Whole state)) i part fits is = ap class_of (sym (some_is state part is)) ∙ fits.1
part_class h (Some (Instances states)) i part fits is = all_at h.class states i part fits.1 is

-- a field that fits, in the place of another
pub set_fits : (program : Program) (fields : List Field) (field : ℕ) (old new : Field) → slice_get fields field ≡ Some old → ((h : Holder) → slice_get program.fields field ≡ Some h → FieldFits h (Some new)) → FieldsFit program fields
    → FieldsFit program (slice_set fields field new)
set_fits program fields field old new is fits fit f h there = by (same_or_not f field)
  where
    by : (f ≡ field) ⊎ (f ≢ field) → FieldFits h (slice_get (slice_set fields field new) f)
    by (inl e) =
        let here : slice_get program.fields field ≡ Some h = sym (ap (slice_get program.fields) e) ∙ there in
        subst (FieldFits h) (sym (ap (slice_get (slice_set fields field new)) e ∙ get_set fields field new (get_within fields field old is))) (fits h here)
    by (inr other) = subst (FieldFits h) (sym (get_set_other fields field f new other)) (fit f h there)

changed_fits : (program : Program) (fields : List Field) (field i : ℕ) (state : State) (o : Option Field) → slice_get fields field ≡ o → ((h : Holder) → slice_get program.fields field ≡ Some h → class_of state ≡ h.class) → FieldsFit program fields
    → FieldsFit program (changed_field o field state fields i)
changed_fits program fields field i state None is of_class fit f h there = fit f h there
changed_fits program fields field i state (Some old) is of_class fit f h there =
    set_fits program fields field old (with_part old i state) is (λ x here. part_fits x old i state (of_class x here) (subst (FieldFits x) is (fit field x here))) fit f h there

pub changed_fit : (program : Program) (fields : List Field) (site : Option ℕ) (i : ℕ) (state : State) → ((field : ℕ) (h : Holder) → site ≡ Some field → slice_get program.fields field ≡ Some h → class_of state ≡ h.class) → FieldsFit program fields
    → FieldsFit program (fields_with site i state fields)
changed_fit program fields None i state of_class fit = fit
changed_fit program fields (Some field) i state of_class fit = changed_fits program fields field i state (slice_get fields field) refl (λ h there. of_class field h refl there) fit

-- ---- the part of a block

whole_part : (h : Holder) (o : Option Field) (i : ℕ) → FieldFits h o → h.is_partial ≡ false → (part : State) × (part_of o i ≡ Some part)
whole_part h None i fits whole = absurd fits
whole_part h (Some (Whole state)) i fits whole = (state, refl)
whole_part h (Some (Instances states)) i fits whole = absurd (false≢true (sym whole ∙ fits.0))

instance_part : (h : Holder) (o : Option Field) (i : ℕ) → FieldFits h o → nat_lt i (width_in o) ≡ true → (part : State) × (part_of o i ≡ Some part)
instance_part h None i fits less = absurd fits
instance_part h (Some (Whole state)) i fits less = (state, refl)
instance_part h (Some (Instances states)) i fits less = within_get states i (ltb-true i (length states) less)

-- A legal step finds the part that it works on.
pub block_part : (h : Holder) (o : Option Field) (key : Option Val) (i : Option ℕ) → FieldFits h o → IsKeyFor (Some h) key → fits_block key i (width_in o) ≡ true → (part : State) × (part_of o (unwrap_or i 0) ≡ Some part)
block_part h o (Some key) None fits is legal = whole_part h o 0 fits is.0
block_part h o (Some key) (Some i) fits is legal = absurd (false≢true legal)
block_part h o None (Some i) fits is legal = instance_part h o i fits legal
block_part h o None None fits is legal = absurd (false≢true legal)

-- ---- fields that grow, and fields at the start

empty_class : (c : ClassName) → class_of (empty_state c) ≡ c
empty_class class_name.Table = refl
empty_class class_name.Matrix = refl
empty_class class_name.Counter = refl

all_grown : (c : ClassName) (states : List State) (state : State) → class_of state ≡ c → AllByRecursion (λ s. class_of s ≡ c) states → AllByRecursion (λ s. class_of s ≡ c) (states ++ state ∷ [])
all_grown c [] state is h = (is, tt)
all_grown c (s ∷ states) state is h = (h.0, all_grown c states state is h.1)

grown_fits : (h : Holder) (old : Field) (state : State) → class_of state ≡ h.class → FieldFits h (Some old) → FieldFits h (Some (grown_field state old))
grown_fits h (Whole part) state is fits = fits
grown_fits h (Instances states) state is fits = (fits.0, all_grown h.class states state is fits.1)

-- One instance more is of the field's class.
pub grown_fit : (program : Program) (fields : List Field) (field : ℕ) → FieldsFit program fields → FieldsFit program (grown program field (slice_get fields field) fields)
grown_fit program fields field fit = by (slice_get fields field) refl
  where
    by : (o : Option Field) → slice_get fields field ≡ o → FieldsFit program (grown program field o fields)
    by None is = fit
    by (Some old) is =
        set_fits program fields field old (grown_field (empty_state (source.class_of program field)) old) is
        (λ h here. grown_fits h old (empty_state (source.class_of program field)) (empty_class (source.class_of program field) ∙ ap source.class_in here) (subst (FieldFits h) is (fit field h here))) fit

all_empty : (c : ClassName) (n : ℕ) → AllByRecursion (λ s. class_of s ≡ c) (replicate n (empty_state c))
all_empty c zero = tt
all_empty c (suc n) = (empty_class c, all_empty c n)

start_fits : (width : ℕ) (h : Holder) → FieldFits h (Some (field_at_start width h))
start_fits width h = by h.is_partial refl
  where
    by : (b : Bool) → h.is_partial ≡ b → FieldFits h (Some (cond b (Instances (replicate width (empty_state h.class))) (Whole (empty_state h.class))))
    by true is = (is, all_empty h.class width)
    by false is = (is, empty_class h.class)

each_start : (width : ℕ) (holders : List Holder) (field : ℕ) (h : Holder) → slice_get holders field ≡ Some h → FieldFits h (slice_get (map (field_at_start width) holders) field)
each_start width [] field h is = absurd (none_some h is)
each_start width (x ∷ holders) zero h is = subst (λ y. FieldFits h (Some (field_at_start width y))) (sym (some_is x h is)) (start_fits width h)
each_start width (x ∷ holders) (suc n) h is = each_start width holders n h is

pub fit_at_start : (program : Program) (width : ℕ) → FieldsFit program (map (field_at_start width) program.fields)
fit_at_start program width field h is = each_start width program.fields field h is
