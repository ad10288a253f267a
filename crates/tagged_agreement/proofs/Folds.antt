-- A cell is the fold of its own entries.
use Rattle.std.proofs.Common.{◌≡◌, ℕ, zero, suc, ◌+◌, List, [], ◌∷◌, length, take, Some, slice_get, Bool, true, false, if◌then◌else◌, refl, ap, sym, ◌∙◌, arith}
use Rattle.sdg_base.specs.declared.port.Port.{Port}
use Rattle.sdg_base.specs.Ports.{same_port}
use Rattle.tagged_agreement.specs.Machine.{Machine, Taken, Progress, progress_after, cell_after}
use Rattle.tagged_agreement.specs.History.{Setup, Happening, Took, Grew, Now, after, after_all, entries_of, at_start}
use Rattle.tagged_agreement.specs.Laws.{CellsAreTheirEntries, CellsAreReplayed}

one_entry : {State : Type 0} (m : Machine State) (b : Bool) (e : Taken) (entries : List Taken) (now : Progress State)
    → cell_after m (if b then e ∷ entries else entries) now ≡ cell_after m entries (if b then progress_after m e now else now)
one_entry m true e entries now = refl
one_entry m false e entries now = refl

pub fold_of : {State : Type 0} (s : Setup State) (hist : List Happening) (now : Now State) (p : Port) → (after_all s hist now).cells p ≡ cell_after s.machine (entries_of p hist) (now.cells p)
fold_of s [] now p = refl
fold_of s (Took e ∷ hist) now p = fold_of s hist (after s (Took e) now) p ∙ sym (one_entry s.machine (same_port e.cell p) e (entries_of p hist) (now.cells p))
fold_of s (Grew number field at ∷ hist) now p = fold_of s hist (after s (Grew number field at) now) p

pub cells_are_their_entries : (State : Type 0) → CellsAreTheirEntries State
cells_are_their_entries State s hist p = fold_of s hist (at_start s) p

-- ---- a cell that is replayed

position_of : {State : Type 0} (m : Machine State) (entries : List Taken) (now : Progress State) → (cell_after m entries now).position ≡ now.position + length entries
position_of m [] now = plus_zero now.position
  where
    plus_zero : (n : ℕ) → n ≡ n + 0
    plus_zero n = omega arith
position_of m (e ∷ entries) now = position_of m entries (progress_after m e now) ∙ over now.position (length entries)
  where
    over : (n k : ℕ) → n + 1 + k ≡ n + suc k
    over n k = omega arith

next_of : {State : Type 0} (m : Machine State) (entries : List Taken) (now : Progress State) (n : ℕ) (e : Taken) → slice_get entries n ≡ Some e
    → cell_after m (take (n + 1) entries) now ≡ progress_after m e (cell_after m (take n entries) now)
next_of m [] now n e at = absurd cc
next_of m (f ∷ entries) now zero e at = let same : f ≡ e = cc in ap (λ (g : Taken). progress_after m g now) same
next_of m (f ∷ entries) now (suc n) e at = ap (λ (k : ℕ). cell_after m (take k (f ∷ entries)) now) (over n) ∙ next_of m entries (progress_after m f now) n e at
  where
    over : (n : ℕ) → suc n + 1 ≡ suc (n + 1)
    over n = omega arith

pub cells_are_replayed : (State : Type 0) → CellsAreReplayed State
cells_are_replayed State = record { position = position_of; next = next_of }
