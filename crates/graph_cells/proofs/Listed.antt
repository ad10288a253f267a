-- Parts in the order of their instances, as the program keeps them.
use Rattle.std.proofs.Common.{◌≡◌, ◌≢◌, ℕ, zero, suc, ◌+◌, ◌<◌, ◌≤◌, Bool, true, cond, List, [], ◌∷◌, Option, Some, None, refl, sym, ap, subst, ◌∙◌, arith, inl, inr}
use Rattle.std.specs.List.{list_all}
use Rattle.std.proofs.lemmas.Bool.{cases_eq, and_parts, lt-ltb, le-ltb}
use Rattle.sdg_base.specs.declared.item.Item.{Item}
use Rattle.flat_code.specs.Items.{instance_of, with_part}
use Rattle.tagged_agreement.specs.Machine.{Parts}
use Rattle.graph_cells.specs.Gathered.{in_front, listed_from}

pub listed_same : (P Q : Parts) (k n : ℕ) → ((i : ℕ) → k ≤ i → Q i ≡ P i) → listed_from Q k n ≡ listed_from P k n
unfolding listed_from
listed_same P Q k zero same = refl
listed_same P Q k (suc n) same = both (same k (omega arith)) (listed_same P Q (suc k) n (λ i h. same i (omega arith)))
  where
    both : Q k ≡ P k → listed_from Q (suc k) n ≡ listed_from P (suc k) n → in_front (Q k) (listed_from Q (suc k) n) ≡ in_front (P k) (listed_from P (suc k) n)
    both e h = ap (λ (o : Option Item). in_front o (listed_from Q (suc k) n)) e ∙ ap (λ (xs : List Item). in_front (P k) xs) h

pub listed_none : (P : Parts) (k n : ℕ) → ((i : ℕ) → P i ≡ None) → listed_from P k n ≡ []
unfolding listed_from
listed_none P k zero none = refl
listed_none P k (suc n) none = ap (λ (o : Option Item). in_front o (listed_from P (suc k) n)) (none k) ∙ listed_none P (suc k) n none

all_in_front : (test : Item → Bool) (o : Option Item) (xs : List Item) → list_all test (in_front o xs) ≡ true → list_all test xs ≡ true
all_in_front test None xs e = e
all_in_front test (Some x) xs e = (and_parts (test x) (list_all test xs) e).1

first_in_front : (test : Item → Bool) (o : Option Item) (x : Item) (xs : List Item) → o ≡ Some x → list_all test (in_front o xs) ≡ true → test x ≡ true
first_in_front test o x xs is e = (and_parts (test x) (list_all test xs) (subst (λ (o : Option Item). list_all test (in_front o xs) ≡ true) is e)).0

-- what holds of all that are listed holds of each
pub listed_each : (test : Item → Bool) (P : Parts) (k n i : ℕ) (x : Item) → list_all test (listed_from P k n) ≡ true → k ≤ i → i < k + n → P i ≡ Some x → test x ≡ true
unfolding listed_from
listed_each test P k zero i x all low high is = absurd (omega arith)
listed_each test P k (suc n) i x all low high is =
    elim (cases_eq i k) [
      | inl here ↦ first_in_front test (P k) x (listed_from P (suc k) n) (subst (λ (j : ℕ). P j ≡ Some x) here is) all
      | inr other ↦ listed_each test P (suc k) n i x (all_in_front test (P k) (listed_from P (suc k) n) all) (omega arith) (omega arith) is
    ]

module _ (x : Item) (P : Parts) (own : (j : ℕ) (y : Item) → P j ≡ Some y → instance_of y ≡ j) where
  before : (y : Item) (ys : List Item) → instance_of x < instance_of y → with_part x (y ∷ ys) ≡ x ∷ y ∷ ys
  before y ys less = ap (λ (b : Bool). cond b (x ∷ y ∷ ys) (y ∷ with_part x ys)) (lt-ltb (instance_of x) (instance_of y) less)

  behind : (y : Item) (ys : List Item) → instance_of y ≤ instance_of x → with_part x (y ∷ ys) ≡ y ∷ with_part x ys
  behind y ys less = ap (λ (b : Bool). cond b (x ∷ y ∷ ys) (y ∷ with_part x ys)) (le-ltb (instance_of x) (instance_of y) less)

  -- it comes before all that are listed
  first_put : (k n : ℕ) → instance_of x < k → with_part x (listed_from P k n) ≡ x ∷ listed_from P k n
  unfolding listed_from
  first_put k zero less = refl
  first_put k (suc n) less = by (P k) refl (first_put (suc k) n (omega arith))
    where
      by : (o : Option Item) → P k ≡ o → with_part x (listed_from P (suc k) n) ≡ x ∷ listed_from P (suc k) n → with_part x (in_front o (listed_from P (suc k) n)) ≡ x ∷ in_front o (listed_from P (suc k) n)
      by None e h = h
      by (Some y) e h = let at = own k y e in before y (listed_from P (suc k) n) (omega arith)

  passed : (k n : ℕ) (o : Option Item) → P k ≡ o → k < instance_of x → in_front o (with_part x (listed_from P (suc k) n)) ≡ with_part x (in_front o (listed_from P (suc k) n))
  passed k n None e less = refl
  passed k n (Some y) e less = let at = own k y e in sym (behind y (listed_from P (suc k) n) (omega arith))

  -- one more is listed in its place
  pub listed_with : (Q : Parts) (i : ℕ) → instance_of x ≡ i → Q i ≡ Some x → ((j : ℕ) → j ≢ i → Q j ≡ P j) → P i ≡ None → (k n : ℕ) → k ≤ i → i < k + n → listed_from Q k n ≡ with_part x (listed_from P k n)
  unfolding listed_from
  listed_with Q i at here others none k zero low high = absurd (omega arith)
  listed_with Q i at here others none k (suc n) low high =
      elim (cases_eq k i) [
        | inl same ↦
            ap (λ (o : Option Item). in_front o (listed_from Q (suc k) n)) (ap Q same ∙ here)
            ∙ ap (λ (xs : List Item). x ∷ xs) (listed_same P Q (suc k) n (λ j h. others j (λ e. absurd (omega arith))))
            ∙ sym (first_put (suc k) n (omega arith))
            ∙ ap (λ (o : Option Item). with_part x (in_front o (listed_from P (suc k) n))) (sym none ∙ ap P (sym same))
        | inr differs ↦
            ap (λ (o : Option Item). in_front o (listed_from Q (suc k) n)) (others k differs)
            ∙ ap (λ (xs : List Item). in_front (P k) xs) (listed_with Q i at here others none (suc k) n (omega arith) (omega arith))
            ∙ passed k n (P k) refl (omega arith)
      ]
