-- The key of an access whose choice is known, as the key of its part.
use Rattle.std.proofs.Common.{◌≡◌, refl, ap, subst, ◌∙◌, ℕ, true, ◌&&◌, List, [], ◌∷◌, Option, Some, None, slice_get}
use Rattle.std.specs.Prelude.{nat_eq}
use Rattle.std.proofs.lemmas.Bool.{false≢true}
use Rattle.sdg_base.specs.declared.value_type.ValueType.TheVariants as type
use Rattle.sdg_base.specs.Signatures.{Signature}
use Rattle.access_blocks.specs.declared.body.Access.{Access}
use Rattle.access_blocks.specs.declared.body.Choice.{Choice}
use Rattle.access_blocks.specs.declared.body.Choice.TheVariants as choice
use Rattle.access_blocks.specs.declared.body.Expression.{Expression}
use Rattle.access_blocks.specs.declared.place.Site.{Site}
use Rattle.access_blocks.specs.Marks.{same_part, same_site, first_argument, key_by}
use Rattle.body_code.specs.Typing.{needs, needs_of_all, type_of, types_of}
use Rattle.body_code.specs.Checking.{Surroundings, Standing, are_met, are_types, is_type, is_entry, is_partial, is_partitioned, takes_all}
use Rattle.marked_bodies.specs.Unmarked.{is_chosen_so, is_key, has_place}
use Rattle.marked_bodies.proofs.Facts.{none_some, some_is, both_true, nat_is}
use Rattle.marked_bodies.proofs.Keys.{KeyFits, ByInstance, ByKey, Reads, literal_reads, variable_reads, met_first}
use Rattle.marked_bodies.proofs.Within.{IsMet}

pub same_field : (a b : Site) → same_site a b ≡ true → a.field ≡ b.field
same_field a b is = nat_is a.field b.field (both_true (nat_eq a.field b.field) (same_part a.choice b.choice) is).0

variable_same : (o : Option Choice) (v : ℕ) → same_part o (Some (choice.Variable v)) ≡ true → o ≡ Some (choice.Variable v)
variable_same None v is = absurd (false≢true is)
variable_same (Some (choice.Variable u)) v is = ap (λ (n : ℕ). Some (choice.Variable n)) (nat_is u v is)
variable_same (Some (choice.Literal n)) v is = absurd (false≢true is)
variable_same (Some choice.Compound) v is = absurd (false≢true is)
variable_same (Some choice.Instance) v is = absurd (false≢true is)

-- no key is like a compound one
compound_differs : (o : Option Choice) → same_part o (Some choice.Compound) ≡ true → ⊥
compound_differs None is = absurd (false≢true is)
compound_differs (Some (choice.Variable u)) is = absurd (false≢true is)
compound_differs (Some (choice.Literal n)) is = absurd (false≢true is)
compound_differs (Some choice.Compound) is = absurd (false≢true is)
compound_differs (Some choice.Instance) is = absurd (false≢true is)

pub none_differs : (o : Option Choice) → same_part o None ≡ true → ⊥
none_differs None is = absurd (false≢true is)
none_differs (Some how) is = absurd (false≢true is)

-- ---- the first argument

pub key_first : (around : Surroundings) (how : Choice) (args : List Expression) → is_key around how (first_argument args) ≡ true
    → (k : Expression) × (first_argument args ≡ Some k) × (is_chosen_so how k ≡ true) × (is_type (type_of around.context k) type.Long ≡ true)
key_first around how [] is = absurd (false≢true is)
key_first around how (k ∷ args) is = let b = both_true (is_chosen_so how k) (is_type (type_of around.context k) type.Long) is in (k, refl, b.0, b.1)

pub first_met : (around : Surroundings) (st : Standing) (args : List Expression) (k : Expression) → first_argument args ≡ Some k → are_met around st (needs_of_all args) ≡ true → IsMet around st (needs k)
first_met around st [] k is met = absurd (none_some k is)
first_met around st (x ∷ args) k is met = subst (λ (e : Expression). IsMet around st (needs e)) (some_is x k is) (met_first around st (needs x) (needs_of_all args) met)

-- what an access by a key is known by
pub record IsKeyed (around : Surroundings) (a : Access) (how : Choice) (st : Standing) : Type 0 where
  pub key : Expression
  pub first : first_argument a.args ≡ Some key
  pub chosen : is_chosen_so how key ≡ true
  pub long : is_type (type_of around.context key) type.Long ≡ true
  pub partitioned : is_partitioned (slice_get around.fields a.field) ≡ true
  pub met : IsMet around st (needs key)

pub keyed_by : (around : Surroundings) (a : Access) (sig : Signature) (how : Choice) (st : Standing) → (is_partitioned (slice_get around.fields a.field) && (sig.keyed && is_key around how (first_argument a.args))) ≡ true
    → takes_all around st a.args sig.arguments ≡ true → IsKeyed around a how st
keyed_by around a sig how st place arguments =
    let p = both_true (is_partitioned (slice_get around.fields a.field)) (sig.keyed && is_key around how (first_argument a.args)) place in
    let k = key_first around how a.args (both_true sig.keyed (is_key around how (first_argument a.args)) p.1).1 in
    let m = both_true (are_met around st (needs_of_all a.args)) (are_types (types_of around.context a.args) sig.arguments) arguments in
    record { key = k.0; first = k.1; chosen = k.2; long = k.3; partitioned = p.0; met = first_met around st a.args k.0 k.1 m.0 }

fits_by : (around : Surroundings) (a : Access) (how : Choice) (part : Site) (sites : List Site) (st : Standing) (key : Option Expression) → is_entry around.kind ≡ true → part.field ≡ a.field → (k : IsKeyed around a how st)
    → key ≡ first_argument a.args → Reads part.choice (needs k.key) → KeyFits around st.known part sites key
fits_by around a how part sites st key entry at k is reads =
    ByKey k.key entry (is ∙ k.first) (ap (λ (n : ℕ). is_partitioned (slice_get around.fields n)) at ∙ k.partitioned) k.long reads k.met.known

-- an access to a part
pub access_fits : (around : Surroundings) (a : Access) (sig : Signature) (how : Choice) (part : Site) (sites : List Site) (st : Standing) → is_entry around.kind ≡ true → has_place around a sig how ≡ true
    → takes_all around st a.args sig.arguments ≡ true → part.field ≡ a.field → same_part part.choice (Some how) ≡ true → KeyFits around st.known part sites (key_by how a.args)
access_fits around a sig choice.Instance part sites st entry place arguments at same = ByInstance entry (ap (λ (n : ℕ). is_partial (slice_get around.fields n)) at ∙ place) refl
access_fits around a sig choice.Compound part sites st entry place arguments at same = absurd (compound_differs part.choice same)
access_fits around a sig (choice.Literal n) part sites st entry place arguments at same =
    let k = keyed_by around a sig (choice.Literal n) st place arguments in
    fits_by around a (choice.Literal n) part sites st (first_argument a.args) entry at k refl (literal_reads part.choice (needs k.key) k.chosen)
access_fits around a sig (choice.Variable v) part sites st entry place arguments at same =
    let k = keyed_by around a sig (choice.Variable v) st place arguments in
    fits_by around a (choice.Variable v) part sites st (first_argument a.args) entry at k refl (variable_reads part.choice v (needs k.key) (variable_same part.choice v same) k.chosen)
