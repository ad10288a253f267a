-- The key of a mark has a value of its type where the mark stands.
use Rattle.std.proofs.Common.{◌≡◌, refl, sym, ap, ◌∙◌, ℕ, true, not, ◌&&◌, List, [], ◌∷◌, Option, Some, None, slice_get, inl}
use Rattle.std.specs.List.{list_all}
use Rattle.std.proofs.lemmas.Bool.{false≢true}
use Rattle.sdg_base.specs.declared.value_type.ValueType.{ValueType}
use Rattle.sdg_base.specs.declared.value_type.ValueType.TheVariants as type
use Rattle.sdg_base.specs.Signatures.{Signature}
use Rattle.access_blocks.specs.declared.body.Access.{Access}
use Rattle.access_blocks.specs.declared.body.Choice.{Choice}
use Rattle.access_blocks.specs.declared.body.Choice.TheVariants as choice
use Rattle.access_blocks.specs.declared.body.Expression.{Expression}
use Rattle.access_blocks.specs.declared.body.Expression.TheOpen as e
use Rattle.access_blocks.specs.declared.body.Expression.TheVariants as x
use Rattle.access_blocks.specs.declared.body.Expression.TheFolds.{fold-roll-Expression}
use Rattle.access_blocks.specs.declared.body.Holder.{Holder}
use Rattle.access_blocks.specs.declared.place.Site.{Site}
use Rattle.access_blocks.specs.Marks.{first_argument, key_by, carried_args}
use Rattle.body_code.specs.Early.{is_in}
use Rattle.body_code.specs.Typing.{Needs, needs, needs_step, needs_of_all, key_alone, both, type_of, type_step, types_of, with_type}
use Rattle.body_code.specs.Checking.{Surroundings, Standing, outside, are_met, are_types, is_type, is_entry, is_partial, is_partitioned, has_key, is_key_of, takes, takes_all, takes_gathered}
use Rattle.marked_bodies.specs.Unmarked.{has_place}
use Rattle.marked_bodies.proofs.Facts.{none_some, some_is, both_true, and_true, or_first, all_both, is_type_is}
use Rattle.marked_bodies.proofs.Within.{within, is_met, met_is, met_within}
use Rattle.marked_bodies.proofs.Keys.{KeyFits, NoAccess, ByInstance, ByKey, Reads, Nothing, One}
use Rattle.marked_bodies.proofs.Choices.{IsKeyed, keyed_by}

by_instance : (around : Surroundings) (st : Standing) (o : Option Holder) → is_partial o ≡ true → is_key_of around st o None ≡ true
by_instance around st None is = absurd (false≢true is)
by_instance around st (Some h) is = is

by_key : (around : Surroundings) (st : Standing) (o : Option Holder) (k : Expression) → is_partitioned o ≡ true → takes around st k type.Long ≡ true → is_key_of around st o (Some k) ≡ true
by_key around st None k is value = absurd (false≢true is)
by_key around st (Some h) k is value = and_true (not h.is_partial) (takes around st k type.Long) is value

reads_no_merges : (how : Option Choice) (n : Needs) → Reads how n → n.merges ≡ []
reads_no_merges how n (Nothing v m k) = m
reads_no_merges how n (One v is all m k) = m

reads_no_key : (how : Option Choice) (n : Needs) → Reads how n → not n.key ≡ true
reads_no_key how n (Nothing v m k) = k
reads_no_key how n (One v is all m k) = k

-- a key of one part, wherever the variables that it reads are known
pub part_key : (around : Surroundings) (part : Site) (sites : List Site) (key : Option Expression) (st : Standing) → KeyFits around st.known part sites key → (sites ≡ [] → ⊥)
    → (is_entry around.kind && is_key_of around st (slice_get around.fields part.field) key) ≡ true
part_key around part sites key st (NoAccess none is) some = absurd (some none)
part_key around part sites key st (ByInstance entry partial is) some =
    and_true (is_entry around.kind) (is_key_of around st (slice_get around.fields part.field) key) entry
    (ap (is_key_of around st (slice_get around.fields part.field)) is ∙ by_instance around st (slice_get around.fields part.field) partial)
part_key around part sites key st (ByKey k entry is partitioned long reads known) some =
    let n = needs k in
    let met : are_met around st n ≡ true = met_is around st n (record {
      known = known;
      merges = ap (list_all (takes_gathered around st.gathered)) (reads_no_merges part.choice n reads);
      key = or_first (not n.key) (has_key around st.field) (reads_no_key part.choice n reads);
    }) in
    and_true (is_entry around.kind) (is_key_of around st (slice_get around.fields part.field) key) entry
    (ap (is_key_of around st (slice_get around.fields part.field)) is
    ∙ by_key around st (slice_get around.fields part.field) k partitioned (and_true (are_met around st n) (is_type (type_of around.context k) type.Long) met long))

-- the key of a simple access
keyed_access : (around : Surroundings) (a : Access) (how : Choice) (field : Option ℕ) (gathered : Option ValueType) (st : Standing) → IsKeyed around a how (outside st)
    → is_key_of around (within field gathered st) (slice_get around.fields a.field) (first_argument a.args) ≡ true
keyed_access around a how field gathered st k =
    let there = within field gathered st in
    let met = met_within around field gathered (outside st) refl (inl refl) (needs k.key) (met_is around (outside st) (needs k.key) k.met) in
    ap (is_key_of around there (slice_get around.fields a.field)) k.first
    ∙ by_key around there (slice_get around.fields a.field) k.key k.partitioned (and_true (are_met around there (needs k.key)) (is_type (type_of around.context k.key) type.Long) met k.long)

pub access_key : (around : Surroundings) (a : Access) (sig : Signature) (how : Choice) (field : Option ℕ) (gathered : Option ValueType) (st : Standing) → has_place around a sig how ≡ true
    → takes_all around (outside st) a.args sig.arguments ≡ true → is_key_of around (within field gathered st) (slice_get around.fields a.field) (key_by how a.args) ≡ true
access_key around a sig choice.Instance field gathered st place arguments = by_instance around (within field gathered st) (slice_get around.fields a.field) place
access_key around a sig choice.Compound field gathered st place arguments = keyed_access around a choice.Compound field gathered st (keyed_by around a sig choice.Compound (outside st) place arguments)
access_key around a sig (choice.Literal n) field gathered st place arguments = keyed_access around a (choice.Literal n) field gathered st (keyed_by around a sig (choice.Literal n) (outside st) place arguments)
access_key around a sig (choice.Variable v) field gathered st place arguments = keyed_access around a (choice.Variable v) field gathered st (keyed_by around a sig (choice.Variable v) (outside st) place arguments)

-- ---- a compound key is carried by the block

pub carried_needs : needs x.CarriedKey ≡ key_alone
carried_needs = ap needs (sym x.rolls-CarriedKey) ∙ fold-roll-Expression Needs needs_step e.CarriedKey

carried_type : (around : Surroundings) → type_of around.context x.CarriedKey ≡ Some type.Long
carried_type around = ap (type_of around.context) (sym x.rolls-CarriedKey) ∙ fold-roll-Expression (Option ValueType) (type_step around.context) e.CarriedKey

key_met : (around : Surroundings) (st : Standing) (k others : Needs) → has_key around st.field ≡ true → are_met around st (both k others) ≡ true → are_met around st (both key_alone others) ≡ true
key_met around st k others has is =
    let h = is_met around st (both k others) is in
    met_is around st (both key_alone others) (record {
      known = (all_both (λ v. is_in v st.known) k.variables others.variables h.known).1;
      merges = (all_both (takes_gathered around st.gathered) k.merges others.merges h.merges).1;
      key = has;
    })

pub carried_takes : (around : Surroundings) (st : Standing) (args : List Expression) (k : Expression) (ts : List ValueType) → first_argument args ≡ Some k → is_type (type_of around.context k) type.Long ≡ true
    → has_key around st.field ≡ true → takes_all around st args ts ≡ true → takes_all around st (carried_args args) ts ≡ true
carried_takes around st [] k ts is long has value = absurd (none_some k is)
carried_takes around st (first ∷ args) k ts is long has value =
    let h = both_true (are_met around st (needs_of_all (first ∷ args))) (are_types (types_of around.context (first ∷ args)) ts) value in
    let types = types_of around.context args in
    let same : type_of around.context first ≡ type_of around.context x.CarriedKey = ap (type_of around.context) (some_is first k is) ∙ is_type_is (type_of around.context k) type.Long long ∙ sym (carried_type around) in
    and_true (are_met around st (needs_of_all (x.CarriedKey ∷ args))) (are_types (types_of around.context (x.CarriedKey ∷ args)) ts)
    (ap (λ (n : Needs). are_met around st (both n (needs_of_all args))) carried_needs ∙ key_met around st (needs first) (needs_of_all args) has h.0)
    (ap (λ (t : Option ValueType). are_types (with_type t types) ts) (sym same) ∙ h.1)
