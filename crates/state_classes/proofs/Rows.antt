-- The elements of a row between one column and the next entry.
use Rattle.std.proofs.Common.{◌≡◌, ◌≢◌, ◌⊎◌, ℕ, zero, suc, ◌<◌, ◌≤◌, ℤ, pos, negsuc, ◌-ℤ◌, ◌<ℤ◌, ◌≤ℤ◌, Bool, true, false, cond, ◌&&◌, int_le, int_lt, Some, None, unwrap_or, refl, sym, ap, subst, ◌∙◌, ◌^◌, to_z, of_z, w64, unsigned_abs, inl, inr, arith}
use Rattle.std.proofs.lemmas.Int.{ints, to_z-of_z, to_z_pos}
use Rattle.std.proofs.lemmas.Bool.Decides.{Decides-int_eq}
use mathlib.Core.Bool.{true≢false}
use Rattle.std.specs.Prelude.{FitsSigned}
use Rattle.std.specs.Cmp.{int_cmp_is, int_ranks}
use Rattle.std.specs.List.Sorted.{IsStrictlySortedBy}
use Rattle.std.specs.Map.{keys_of}
use Rattle.std.specs.Ordering.{int_cmp, int_eq, ordering_then, MatchOrdering}
use Rattle.std.specs.declared.cmp.Ordering.{Ordering}
use Rattle.std.specs.declared.cmp.Ordering.TheVariants.{Less, Equal, Greater}
use Rattle.state_classes.specs.Entries.{Entries, MatrixKey, by_row_and_column, entry_at, key_after}
use Rattle.state_classes.specs.Plans.{element}
use Rattle.state_classes.specs.Walks.{IsBlank, IsNextInRow, column_below}
use Rattle.state_classes.proofs.Order.{none_above, none_between, found_above}
use Rattle.state_classes.proofs.Parts.{by_row_and_column_total}

earlier_row : (a b : MatrixKey) → a.0 <ℤ b.0 → by_row_and_column a b ≡ Less
earlier_row a b h = ap (λ r. ordering_then r (int_cmp a.1 b.1)) (sym (int_cmp_is a.0 b.0 Less h))

earlier_column : (a b : MatrixKey) → a.0 ≡ b.0 → a.1 <ℤ b.1 → by_row_and_column a b ≡ Less
earlier_column a b e h = ap (λ r. ordering_then r (int_cmp a.1 b.1)) (sym (int_cmp_is a.0 b.0 Equal e)) ∙ sym (int_cmp_is a.1 b.1 Less h)

earlier : (a b : MatrixKey) → by_row_and_column a b ≡ Less → (a.0 <ℤ b.0) ⊎ ((a.0 ≡ b.0) × (a.1 <ℤ b.1))
earlier a b h = by (int_cmp a.0 b.0) (int_cmp a.1 b.1) (int_ranks a.0 b.0) (int_ranks a.1 b.1) h
  where
    by : (r s : Ordering) → MatchOrdering r (a.0 <ℤ b.0) (a.0 ≡ b.0) (b.0 <ℤ a.0) → MatchOrdering s (a.1 <ℤ b.1) (a.1 ≡ b.1) (b.1 <ℤ a.1) → ordering_then r s ≡ Less → (a.0 <ℤ b.0) ⊎ ((a.0 ≡ b.0) × (a.1 <ℤ b.1))
    by Less s m n h = inl m
    by Equal Less m n h = inr (m, n)
    by Equal Equal m n h = cc
    by Equal Greater m n h = cc
    by Greater s m n h = cc

-- a whole number from a natural number on
natural : (from : ℕ) (z : ℤ) → pos from ≤ℤ z → (from ≤ unsigned_abs z) × (pos (unsigned_abs z) ≡ z)
natural from (pos m) h = (omega (arith, ints), refl)
natural from (negsuc m) h = omega (arith, ints)

module _ (row : ℤ) (from : ℕ) (es : Entries MatrixKey) where
  -- the last key before the column
  before : MatrixKey
  before = (row, pos from -ℤ pos 1)

  after-before : (j : ℕ) → from ≤ j → by_row_and_column (row, pos from -ℤ pos 1) (row, pos j) ≡ Less
  after-before j h = earlier_column (row, pos from -ℤ pos 1) (row, pos j) refl (omega (arith, ints))

  blank-from_none : (j : ℕ) → entry_at by_row_and_column (row, pos j) es ≡ None → element row (pos j) es ≡ pos 0
  blank-from_none j e = ap (λ o. unwrap_or o (pos 0)) e

  pub blank-to_end : key_after by_row_and_column (Some (row, pos from -ℤ pos 1)) es ≡ None → (end : ℕ) → IsBlank row from end es
  blank-to_end h end = record { is = λ j a b. blank-from_none j (none_above by_row_and_column by_row_and_column_total (row, pos from -ℤ pos 1) (row, pos j) es h (after-before j a)) }

  module _ (rising : IsStrictlySortedBy by_row_and_column (keys_of es)) (key : MatrixKey) (found : key_after by_row_and_column (Some (row, pos from -ℤ pos 1)) es ≡ Some key) where
    blank-below : (end : ℕ) → ((j : ℕ) → from ≤ j → j < end → by_row_and_column (row, pos j) key ≡ Less) → IsBlank row from end es
    blank-below end lower = record { is = λ j a b. blank-from_none j (none_between by_row_and_column by_row_and_column_total (row, pos from -ℤ pos 1) (row, pos j) key es rising found (after-before j a) (lower j a b)) }

    place : (row <ℤ key.0) ⊎ ((row ≡ key.0) × ((pos from -ℤ pos 1) <ℤ key.1))
    place = earlier (row, pos from -ℤ pos 1) key (found_above by_row_and_column by_row_and_column_total (row, pos from -ℤ pos 1) key es found)

    blank-other_row : key.0 ≢ row → (end : ℕ) → IsBlank row from end es
    blank-other_row other end = by place
      where
        by : (row <ℤ key.0) ⊎ ((row ≡ key.0) × ((pos from -ℤ pos 1) <ℤ key.1)) → IsBlank row from end es
        by (inl h) = blank-below end (λ j a b. earlier_row (row, pos j) key h)
        by (inr h) = absurd (other (sym h.0))

    -- a key of the row
    column_from : key.0 ≡ row → pos from ≤ℤ key.1
    column_from same = by place
      where
        by : (row <ℤ key.0) ⊎ ((row ≡ key.0) × ((pos from -ℤ pos 1) <ℤ key.1)) → pos from ≤ℤ key.1
        by (inl h) = omega (arith, ints)
        by (inr h) = omega (arith, ints)

    blank-before : key.0 ≡ row → (end : ℕ) → pos end ≤ℤ key.1 → IsBlank row from end es
    blank-before same end upto = blank-below end (λ j a b. earlier_column (row, pos j) key (sym same) (omega (arith, ints)))

    pub next-some : (end : ℕ) → IsNextInRow row from end es (column_below key row end)
    next-some end = by (int_eq key.0 row) (int_le (pos 0) key.1) (int_lt key.1 (pos end)) refl refl refl
      where
        by : (a b c : Bool) → int_eq key.0 row ≡ a → int_le (pos 0) key.1 ≡ b → int_lt key.1 (pos end) ≡ c → IsNextInRow row from end es (cond (a && b && c) (Some (unsigned_abs key.1)) None)
        by false b c e f g = blank-other_row (λ same. true≢false (sym ((Decides-int_eq key.0 row).1 same) ∙ e)) end
        by true false c e f g = let from_there = column_from ((Decides-int_eq key.0 row).0 e) in omega (arith, ints)
        by true true false e f g = blank-before ((Decides-int_eq key.0 row).0 e) end (omega (arith, ints))
        by true true true e f g =
            let same : key.0 ≡ row = (Decides-int_eq key.0 row).0 e in
            let n = natural from key.1 (column_from same) in
            let here : pos (unsigned_abs key.1) ≡ key.1 = n.1 in
            (n.0, omega (arith, ints), blank-before same (unsigned_abs key.1) (omega (arith, ints)))

-- ---- the key before a column, as the machine has it

fits-before : (n : ℕ) → n < 2 ^ 63 → FitsSigned w64 (pos n -ℤ pos 1)
fits-before zero h = record { sfits = omega arith }
fits-before (suc n) h = let e : pos n ≡ pos (suc n) -ℤ pos 1 = omega (arith, ints) in let P : ℤ → Type 0 = λ z. FitsSigned w64 z in subst P e (record { sfits = omega arith })

pub key-before : (row : ℤ) (from : ℕ) → FitsSigned w64 row → from < 2 ^ 63 → (let P : MatrixKey = (row, pos from -ℤ pos 1) in let Q : MatrixKey = (to_z w64 (of_z w64 row), to_z w64 (of_z w64 (to_z w64 from -ℤ pos 1))) in P ≡ Q)
key-before row from f h =
    let column : to_z w64 (of_z w64 (to_z w64 from -ℤ pos 1)) ≡ pos from -ℤ pos 1 = ap (λ z. to_z w64 (of_z w64 (z -ℤ pos 1))) (to_z_pos w64 from h) ∙ to_z-of_z w64 (pos from -ℤ pos 1) (fits-before from h) in
    sym (λ i. (to_z-of_z w64 row f i, column i))
