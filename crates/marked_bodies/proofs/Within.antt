-- The tests of a standing without marks hold in the same standing in a block.
use Rattle.std.proofs.Common.{◌≡◌, refl, sym, ap, ◌∙◌, ℕ, Bool, true, false, not, ◌&&◌, ◌||◌, List, Option, Some, None, slice_get, inl, inr, ◌⊎◌}
use Rattle.std.specs.List.{list_all}
use Rattle.std.proofs.lemmas.Bool.{false≢true}
use Rattle.sdg_base.specs.declared.value_type.ValueType.{ValueType}
use Rattle.sdg_base.specs.declared.value_type.ValueType.TheVariants as type
use Rattle.sdg_base.specs.Signatures.{Signature}
use Rattle.access_blocks.specs.declared.body.Access.{Access}
use Rattle.access_blocks.specs.declared.body.Choice.{Choice}
use Rattle.access_blocks.specs.declared.body.Choice.TheVariants as choice
use Rattle.access_blocks.specs.declared.body.Expression.{Expression}
use Rattle.access_blocks.specs.declared.body.Holder.{Holder}
use Rattle.access_blocks.specs.Marks.{first_argument}
use Rattle.body_code.specs.Typing.{Needs, needs, needs_of_all, type_of, types_of, variable_type}
use Rattle.body_code.specs.Early.{is_in}
use Rattle.body_code.specs.Checking.{Surroundings, Standing, with_known, same_number, are_known, is_partitioned, is_partial, has_key, takes_gathered, are_met, is_type, are_types, takes, takes_all, assigned, set_element, evaluated, has_type, is_result, to_variable, targeted, is_access, access, is_entry, is_condition, returning, is_void}
use Rattle.marked_bodies.specs.Unmarked.{is_key, has_place, is_unmarked_access}
use Rattle.marked_bodies.proofs.Facts.{none_some, some_is, both_true, and_true, or_first, or_second, either_true, if_so_is, so, where_true, all_so}
use Rattle.marked_bodies.proofs.Standings.{assigned_is, Leaves, Nowhere, ToVariable, ToResult}

abbrev pub within : Option ℕ → Option ValueType → Standing → Standing
within field gathered st = record { known = st.known; field = field; gathered = gathered }

-- what was gathered, where anything was
abbrev pub GatheredAs : Standing → Option ValueType → Type 0
GatheredAs st gathered = (st.gathered ≡ None) ⊎ (st.gathered ≡ gathered)

pub none_or_key : (around : Surroundings) (key : Bool) (field : Option ℕ) → field ≡ None → (not key || has_key around field) ≡ true → not key ≡ true
none_or_key around key field out is = by (either_true (not key) (has_key around field) is)
  where
    by : (not key ≡ true) ⊎ (has_key around field ≡ true) → not key ≡ true
    by (inl h) = h
    by (inr h) = absurd (false≢true (ap (has_key around) (sym out) ∙ h))

pub takes_as : (around : Surroundings) (st : Standing) (gathered : Option ValueType) → GatheredAs st gathered → (m : ℕ) → takes_gathered around st.gathered m ≡ true → takes_gathered around gathered m ≡ true
takes_as around st gathered (inl none) m is = absurd (false≢true (ap (λ (o : Option ValueType). takes_gathered around o m) (sym none) ∙ is))
takes_as around st gathered (inr same) m is = ap (λ (o : Option ValueType). takes_gathered around o m) (sym same) ∙ is

-- what an expression needs, part by part
pub record IsMet (around : Surroundings) (st : Standing) (n : Needs) : Type 0 where
  pub known : are_known st n.variables ≡ true
  pub merges : list_all (takes_gathered around st.gathered) n.merges ≡ true
  pub key : (not n.key || has_key around st.field) ≡ true

pub is_met : (around : Surroundings) (st : Standing) (n : Needs) → are_met around st n ≡ true → IsMet around st n
is_met around st n e =
    let k = both_true (are_known st n.variables) (list_all (takes_gathered around st.gathered) n.merges && (not n.key || has_key around st.field)) e in
    let l = both_true (list_all (takes_gathered around st.gathered) n.merges) (not n.key || has_key around st.field) k.1 in
    record { known = k.0; merges = l.0; key = l.1 }

pub met_is : (around : Surroundings) (st : Standing) (n : Needs) → IsMet around st n → are_met around st n ≡ true
met_is around st n h =
    and_true (are_known st n.variables) (list_all (takes_gathered around st.gathered) n.merges && (not n.key || has_key around st.field)) h.known
    (and_true (list_all (takes_gathered around st.gathered) n.merges) (not n.key || has_key around st.field) h.merges h.key)

module _ (around : Surroundings) (field : Option ℕ) (gathered : Option ValueType) (st : Standing) (out : st.field ≡ None) (as_gathered : GatheredAs st gathered) where
  abbrev there : Standing
  there = within field gathered st

  pub met_within : (n : Needs) → are_met around st n ≡ true → are_met around there n ≡ true
  met_within n is =
      let h = is_met around st n is in
      met_is around there n (record {
        known = h.known;
        merges = all_so (takes_gathered around st.gathered) (takes_gathered around gathered) (takes_as around st gathered as_gathered) n.merges h.merges;
        key = or_first (not n.key) (has_key around field) (none_or_key around n.key st.field out h.key);
      })

  pub takes_within : (x : Expression) (t : ValueType) → takes around st x t ≡ true → takes around there x t ≡ true
  takes_within x t is =
      let k = both_true (are_met around st (needs x)) (is_type (type_of around.context x) t) is in
      and_true (are_met around there (needs x)) (is_type (type_of around.context x) t) (met_within (needs x) k.0) k.1

  pub takes_all_within : (xs : List Expression) (ts : List ValueType) → takes_all around st xs ts ≡ true → takes_all around there xs ts ≡ true
  takes_all_within xs ts is =
      let k = both_true (are_met around st (needs_of_all xs)) (are_types (types_of around.context xs) ts) is in
      and_true (are_met around there (needs_of_all xs)) (are_types (types_of around.context xs) ts) (met_within (needs_of_all xs) k.0) k.1

  variable_within : (v : ℕ) (t : ValueType) → is_type (variable_type around.context v) t ≡ true → to_variable around v t there ≡ Some (within field gathered (with_known v st))
  variable_within v t is = so (is_type (variable_type around.context v) t) (with_known v there) is

  assigned_here : (v : ℕ) (o : Option ValueType) (t : ValueType) (met : Bool) → o ≡ Some t → met ≡ true → is_type (variable_type around.context v) t ≡ true
      → assigned around v o met there ≡ Some (within field gathered (with_known v st))
  assigned_here v (Some u) t true same met is = variable_within v u (ap (is_type (variable_type around.context v)) (some_is u t same) ∙ is)
  assigned_here v (Some u) t false same met is = absurd (false≢true met)
  assigned_here v None t met same so is = absurd (none_some t same)

  pub assigned_within : (v : ℕ) (o : Option ValueType) (n : Needs) (end : Standing) → assigned around v o (are_met around st n) st ≡ Some end → assigned around v o (are_met around there n) there ≡ Some (within field gathered end)
  assigned_within v o n end is =
      let k = assigned_is around v o (are_met around st n) st end is in
      assigned_here v o k.0 (are_met around there n) k.1 (met_within n k.2) k.3 ∙ ap (λ (z : Standing). Some (within field gathered z)) k.4

  same_end : (end : Standing) → st ≡ end → Some there ≡ Some (within field gathered end)
  same_end end is = ap (λ (z : Standing). Some (within field gathered z)) is

  pub set_within : (v : ℕ) (at x : Expression) (end : Standing) → set_element around v at x st ≡ Some end → set_element around v at x there ≡ Some (within field gathered end)
  set_within v at x end is =
      let a = is_type (variable_type around.context v) type.Vector in
      let b = is_in v st.known in
      let c = takes around st at type.Int in
      let d = takes around st x type.Long in
      let k = if_so_is (a && (b && (c && d))) st end is in
      let l = both_true a (b && (c && d)) k.0 in
      let m = both_true b (c && d) l.1 in
      let n = both_true c d m.1 in
      so (a && (b && (takes around there at type.Int && takes around there x type.Long))) there
      (and_true a (b && (takes around there at type.Int && takes around there x type.Long)) l.0
      (and_true b (takes around there at type.Int && takes around there x type.Long) m.0
      (and_true (takes around there at type.Int) (takes around there x type.Long) (takes_within at type.Int n.0) (takes_within x type.Long n.1))))
      ∙ same_end end k.1

  pub evaluated_within : (x : Expression) (end : Standing) → evaluated around x st ≡ Some end → evaluated around x there ≡ Some (within field gathered end)
  evaluated_within x end is =
      let k = if_so_is (are_met around st (needs x) && has_type (type_of around.context x)) st end is in
      let l = both_true (are_met around st (needs x)) (has_type (type_of around.context x)) k.0 in
      so (are_met around there (needs x) && has_type (type_of around.context x)) there (and_true (are_met around there (needs x)) (has_type (type_of around.context x)) (met_within (needs x) l.0) l.1)
      ∙ same_end end k.1

  pub returning_within : (x : Option Expression) (end : Standing) → returning around x st ≡ Some end → returning around x there ≡ Some (within field gathered end)
  returning_within None end is = let k = if_so_is (is_void around.result) st end is in so (is_void around.result) there k.0 ∙ same_end end k.1
  returning_within (Some x) end is =
      let k = if_so_is (takes around st x around.result && not (is_void around.result)) st end is in
      let l = both_true (takes around st x around.result) (not (is_void around.result)) k.0 in
      so (takes around there x around.result && not (is_void around.result)) there (and_true (takes around there x around.result) (not (is_void around.result)) (takes_within x around.result l.0) l.1)
      ∙ same_end end k.1

  pub condition_within : (test : Option Expression) → is_condition around st test ≡ true → is_condition around there test ≡ true
  condition_within None is = refl
  condition_within (Some test) is = takes_within test type.Boolean is

-- ---- accesses

leaves_within : (around : Surroundings) (a : Access) (t : ValueType) (field : Option ℕ) (gathered : Option ValueType) (st end : Standing) → Leaves around a.target t st end
    → targeted around a.target t (within field gathered st) ≡ Some (within field gathered end)
leaves_within around a t field gathered st end (Nowhere to e) =
    ap (λ to. targeted around to t (within field gathered st)) to ∙ ap (λ (z : Standing). Some (within field gathered z)) e
leaves_within around a t field gathered st end (ToVariable v to typed e) =
    ap (λ to. targeted around to t (within field gathered st)) to
    ∙ (so (is_type (variable_type around.context v) t) (with_known v (within field gathered st)) typed ∙ ap (λ (z : Standing). Some (within field gathered z)) e)
leaves_within around a t field gathered st end (ToResult to typed e) =
    ap (λ to. targeted around to t (within field gathered st)) to
    ∙ (so (is_result around t) (within field gathered st) typed ∙ ap (λ (z : Standing). Some (within field gathered z)) e)

whole_or_part : (o : Option Holder) → is_partial o ≡ true → not (is_partitioned o) ≡ true
whole_or_part None is = absurd (false≢true is)
whole_or_part (Some h) is = by h.is_partial is
  where
    by : (b : Bool) → b ≡ true → not (not b) ≡ true
    by true e = refl
    by false e = e

-- keyed, where the field is partitioned
keyed_right : (around : Surroundings) (a : Access) (sig : Signature) (how : Choice) → has_place around a sig how ≡ true → (sig.keyed || not (is_partitioned (slice_get around.fields a.field))) ≡ true
keyed_right around a sig choice.Instance is = or_second sig.keyed (not (is_partitioned (slice_get around.fields a.field))) (whole_or_part (slice_get around.fields a.field) is)
keyed_right around a sig (choice.Literal n) is =
    let k = both_true (is_partitioned (slice_get around.fields a.field)) (sig.keyed && is_key around (choice.Literal n) (first_argument a.args)) is in
    or_first sig.keyed (not (is_partitioned (slice_get around.fields a.field))) (both_true sig.keyed (is_key around (choice.Literal n) (first_argument a.args)) k.1).0
keyed_right around a sig (choice.Variable v) is =
    let k = both_true (is_partitioned (slice_get around.fields a.field)) (sig.keyed && is_key around (choice.Variable v) (first_argument a.args)) is in
    or_first sig.keyed (not (is_partitioned (slice_get around.fields a.field))) (both_true sig.keyed (is_key around (choice.Variable v) (first_argument a.args)) k.1).0
keyed_right around a sig choice.Compound is =
    let k = both_true (is_partitioned (slice_get around.fields a.field)) (sig.keyed && is_key around choice.Compound (first_argument a.args)) is in
    or_first sig.keyed (not (is_partitioned (slice_get around.fields a.field))) (both_true sig.keyed (is_key around choice.Compound (first_argument a.args)) k.1).0

-- what is known of an access that is right
pub record IsRight (around : Surroundings) (a : Access) (sig : Signature) (st : Standing) : Type 0 where
  pub entry : is_entry around.kind ≡ true
  pub place : has_place around a sig a.choice ≡ true
  pub keyed : (sig.keyed || not (is_partitioned (slice_get around.fields a.field))) ≡ true
  pub arguments : takes_all around st a.args sig.arguments ≡ true

pub is_right : (around : Surroundings) (a : Access) (sig : Signature) (st : Standing) → is_unmarked_access around a sig st ≡ true → IsRight around a sig st
is_right around a sig st is =
    let k = both_true (is_entry around.kind) (has_place around a sig a.choice && takes_all around st a.args sig.arguments) is in
    let l = both_true (has_place around a sig a.choice) (takes_all around st a.args sig.arguments) k.1 in
    record { entry = k.0; place = l.0; keyed = keyed_right around a sig a.choice l.0; arguments = l.1 }

-- an access of a block, with the arguments that it has there
pub access_in_block : (around : Surroundings) (a : Access) (args : List Expression) (o : Option Signature) (sig : Signature) (field : Option ℕ) (gathered : Option ValueType) (st end : Standing) → o ≡ Some sig
    → same_number field (Some a.field) ≡ true → (sig.keyed || not (is_partitioned (slice_get around.fields a.field))) ≡ true → takes_all around (within field gathered st) args sig.arguments ≡ true
    → Leaves around a.target sig.result st end → access around (record a { args = args }) o (within field gathered st) ≡ Some (within field gathered end)
access_in_block around a args o sig field gathered st end known at keyed arguments leaves =
    let there = within field gathered st in
    let b = record a { args = args } in
    let right : is_access around b sig there ≡ true =
    and_true (same_number field (Some a.field)) ((sig.keyed || not (is_partitioned (slice_get around.fields a.field))) && takes_all around there args sig.arguments) at
    (and_true (sig.keyed || not (is_partitioned (slice_get around.fields a.field))) (takes_all around there args sig.arguments) keyed arguments) in
    ap (λ (p : Option Signature). access around b p there) known
    ∙ (where_true (is_access around b sig there) (targeted around a.target sig.result there) None right ∙ leaves_within around a sig.result field gathered st end leaves)
