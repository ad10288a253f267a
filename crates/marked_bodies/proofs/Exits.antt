-- What a standing in a block has of another one, and where jumps out of the block lead.
use Rattle.std.proofs.Common.{◌≡◌, refl, sym, ap, subst, ◌∙◌, ℕ, Bool, true, false, ◌&&◌, ◌||◌, Option, Some, None, inl, inr, ◌⊎◌}
use Rattle.std.proofs.lemmas.Bool.{false≢true}
use Rattle.sdg_base.specs.declared.value_type.ValueType.{ValueType}
use Rattle.sdg_base.specs.declared.value_type.ValueType.TheVariants as type
use Rattle.body_code.specs.Checking.{Standing, Around, outside, same_number, same_value, is_none, are_known, covers, common, jumping}
use Rattle.flat_code.specs.Types.{same_type}
use Rattle.marked_bodies.proofs.Facts.{none_some, some_is, both_true, and_true, or_second, so}
use Rattle.marked_bodies.proofs.Standings.{nat_same, jumping_is}
use Rattle.marked_bodies.proofs.Within.{within}

pub same_number_same : (o : Option ℕ) → same_number o o ≡ true
same_number_same None = refl
same_number_same (Some n) = nat_same n

same_type_same : (t : ValueType) → same_type t t ≡ true
same_type_same type.Int = refl
same_type_same type.Long = refl
same_type_same type.Boolean = refl
same_type_same type.Vector = refl
same_type_same type.Void = refl

pub same_value_same : (o : Option ValueType) → same_value o o ≡ true
same_value_same None = refl
same_value_same (Some t) = same_type_same t

pub common_true : {A : Type 0} (b : Bool) (o : Option A) → b ≡ true → common b o ≡ o
common_true true o e = refl
common_true false o e = absurd (false≢true e)

pub covers_known : (st need : Standing) → covers st need ≡ true → are_known st need.known ≡ true
covers_known st need is = (both_true (are_known st need.known) ((is_none need.field || same_number st.field need.field) && (is_none need.gathered || same_value st.gathered need.gathered)) is).0

-- what a standing in a block has to have of another one
needed : {A : Type 0} (same : Option A → Option A → Bool) → ((o : Option A) → same o o ≡ true) → (here need : Option A) → (need ≡ None) ⊎ (need ≡ here) → (is_none need || same here need) ≡ true
needed same h here need (inl e) = ap (λ o. is_none o || same here o) e
needed same h here need (inr e) = ap (λ o. is_none o || same here o) e ∙ or_second (is_none here) (same here here) (h here)

-- where a jump leads with marks, to the same without
pub record ExitsTo (field : Option ℕ) (gathered : Option ValueType) (bare need : Standing) : Type 0 where
  pub known : need.known ≡ bare.known
  pub at_field : (need.field ≡ None) ⊎ (need.field ≡ field)
  pub at_gathered : (need.gathered ≡ None) ⊎ (need.gathered ≡ gathered)

abbrev pub ExitsAs : Option ℕ → Option ValueType → Around → Around → Type 0
ExitsAs field gathered None None = Unit {0}
ExitsAs field gathered (Some bare) (Some need) = ExitsTo field gathered bare need
ExitsAs field gathered _ _ = ⊥

pub covers_there : (field : Option ℕ) (gathered : Option ValueType) (st bare need : Standing) → are_known st bare.known ≡ true → ExitsTo field gathered bare need → covers (within field gathered st) need ≡ true
covers_there field gathered st bare need known h =
    let a = are_known st need.known in
    let b = is_none need.field || same_number field need.field in
    let c = is_none need.gathered || same_value gathered need.gathered in
    and_true a (b && c) (ap (are_known st) h.known ∙ known)
    (and_true b c (needed same_number same_number_same field need.field h.at_field) (needed same_value same_value_same gathered need.gathered h.at_gathered))

pub jumping_within : (field : Option ℕ) (gathered : Option ValueType) (bare need : Around) (st end : Standing) → ExitsAs field gathered bare need → jumping bare (outside st) ≡ Some end → jumping need (within field gathered st) ≡ Some (within field gathered end)
jumping_within field gathered None None st end as_exits is = absurd (none_some end is)
jumping_within field gathered (Some bare) (Some need) st end as_exits is =
    let k = jumping_is (Some bare) (outside st) end is in
    let there = within field gathered st in
    let known : are_known st bare.known ≡ true = covers_known (outside st) bare (subst (λ (z : Standing). covers (outside st) z ≡ true) (sym (some_is bare k.0 k.1)) k.2) in
    so (covers there need) there (covers_there field gathered st bare need known as_exits) ∙ ap (λ (z : Standing). Some (within field gathered z)) k.3
jumping_within field gathered None (Some need) st end as_exits is = absurd as_exits
jumping_within field gathered (Some bare) None st end as_exits is = absurd as_exits
