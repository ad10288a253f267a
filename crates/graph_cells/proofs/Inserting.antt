-- A part put among others by its place.
use Rattle.std.proofs.Common.{◌≡◌, ℕ, suc, ◌≤◌, ◌+◌, Bool, true, false, cond, not, ltb, Result, Ok, Err, List, [], ◌∷◌, length, Some, None, refl, sym, ap, ◌∙◌, arith}
use Rattle.std.specs.Prelude.{OnOk}
use Rattle.std.proofs.lemmas.Bool.{ltb-true, ltb-false}
use Rattle.std.specs.List.{insert, position, position_or_len, prefix_len}
use Rattle.sdg_base.specs.declared.item.Item.{Item}
use Rattle.flat_code.specs.Items.{with_part}
use Rattle.graph_cells.specs.Gathered.{is_before}

some_of_cond : (b : Bool) (n i : ℕ) → cond b (Some n) None ≡ Some i → (b ≡ true) × (n ≡ i)
some_of_cond true n i e = (refl, cc)
some_of_cond false n i e = cc

none_of_cond : (b : Bool) (n : ℕ) → cond b (Some n) None ≡ None → b ≡ false
none_of_cond true n e = cc
none_of_cond false n e = refl

-- a place that was found
pub place_is : {A : Type 0} (test : A → Bool) (xs : List A) (i : ℕ) → position test xs ≡ Some i → (i ≡ position_or_len test xs) × (i ≤ length xs)
place_is test xs i e =
    let found = some_of_cond (ltb (position_or_len test xs) (length xs)) (position_or_len test xs) i e in
    let below = ltb-true (position_or_len test xs) (length xs) found.0 in
    (sym found.1, omega (arith, found.1))

prefix_within : {A : Type 0} (test : A → Bool) (xs : List A) → prefix_len test xs ≤ length xs
prefix_within test [] = omega arith
prefix_within test (x ∷ xs) = by (test x) (prefix_within test xs)
  where
    by : (b : Bool) → prefix_len test xs ≤ length xs → cond b (1 + prefix_len test xs) 0 ≤ length (x ∷ xs)
    by true h = omega arith
    by false h = omega arith

-- none was found
pub place_past : {A : Type 0} (test : A → Bool) (xs : List A) → position test xs ≡ None → length xs ≡ position_or_len test xs
place_past test xs e =
    let above = ltb-false (position_or_len test xs) (length xs) (none_of_cond (ltb (position_or_len test xs) (length xs)) (position_or_len test xs) e) in
    let within = prefix_within (λ x. not (test x)) xs in
    omega arith

pub with_part_inserted : (x : Item) (others : List Item) → with_part x others ≡ insert others (position_or_len (is_before x) others) x
with_part_inserted x [] = refl
with_part_inserted x (other ∷ others) = by (is_before x other) (with_part_inserted x others)
  where
    more : (n : ℕ) → other ∷ insert others n x ≡ insert (other ∷ others) (1 + n) x
    more n = let e : suc n ≡ 1 + n = omega arith in ap (λ (k : ℕ). insert (other ∷ others) k x) e

    by : (b : Bool) → with_part x others ≡ insert others (position_or_len (is_before x) others) x
        → cond b (x ∷ other ∷ others) (other ∷ with_part x others) ≡ insert (other ∷ others) (cond (not b) (1 + position_or_len (is_before x) others) 0) x
    by true h = refl
    by false h = ap (λ (xs : List Item). other ∷ xs) h ∙ more (position_or_len (is_before x) others)

pub on_ok : {A E : Type 0} (r : Result A E) {P Q : Type 0} → OnOk r P → (P → Q) → OnOk r Q
on_ok (Ok x) p f = f p
on_ok (Err e) p f = tt
