-- Single instructions as a walk backward sees them, and tables of what leads to an instruction and of what reads a variable.
use Rattle.std.specs.Prelude.{◌≡◌, ℕ, ◌<◌, suc, Bool, false, ◌==◌, ◌⊎◌, List, [], ◌∷◌, length, Some, slice_get}
use Rattle.flat_code.specs.declared.graph.Instr.{Instr}
use Rattle.flat_code.specs.declared.graph.Instr.TheVariants as instr
use Rattle.flat_code.specs.Ways.{IsIn, next_of, reads}

-- the instruction behind, where control may go on to it
abbrev pub behind : ℕ → Instr → List ℕ
behind at (instr.Jump to) = []
behind at instr.Return = []
behind at instr.ReturnVoid = []
behind at _ = suc at ∷ []

-- where it may jump to
abbrev pub targets : Instr → List ℕ
targets (instr.Jump to) = to ∷ []
targets (instr.IfFalse to) = to ∷ []
targets _ = []

abbrev pub is_written : Instr → ℕ → Bool
is_written (instr.Store w) v = w == v
is_written _ v = false

-- the last number is this one
abbrev pub ends_in : List ℕ → ℕ → Bool
ends_in [] v = false
ends_in (x ∷ []) v = x == v
ends_in (x ∷ y ∷ ys) v = ends_in (y ∷ ys) v

-- ---- tables

-- a row of a table has a number
pub record Has (table : List (List ℕ)) (row n : ℕ) : Type 0 where
  pub numbers : List ℕ
  pub is_row : slice_get table row ≡ Some numbers
  pub is_in : IsIn n numbers

-- a number was added to each of these rows that is there, and nothing else changed
pub record AreNoted (rows : List ℕ) (n : ℕ) (old new : List (List ℕ)) : Type 0 where
  pub as_many : length new ≡ length old
  pub kept : (row m : ℕ) → Has old row m → Has new row m
  pub noted : (row : ℕ) → IsIn row rows → row < length old → Has new row n
  pub others : (row m : ℕ) → Has new row m → Has old row m ⊎ (IsIn row rows × (m ≡ n))

-- An instruction may come right before another one.
pub record Leads (code : List Instr) (at next : ℕ) : Type 0 where
  pub i : Instr
  pub is_code : slice_get code at ≡ Some i
  pub goes : IsIn next (next_of at i)

-- the instructions that may come right before each one, of the first `n` of the code
pub record AreBefore (code : List Instr) (n : ℕ) (table : List (List ℕ)) : Type 0 where
  pub as_many : length table ≡ length code
  pub sound : (next at : ℕ) → Has table next at → Leads code at next
  pub whole : (next at : ℕ) → at < n → next < length code → Leads code at next → Has table next at

pub record ReadsAt (code : List Instr) (v at : ℕ) : Type 0 where
  pub i : Instr
  pub is_code : slice_get code at ≡ Some i
  pub is_read : IsIn v (reads i)

-- No variable is read, of the first `n` instructions, whose number is not below `end`.
pub record AreReadBelow (code : List Instr) (n end : ℕ) : Type 0 where
  pub below : (v at : ℕ) → at < n → ReadsAt code v at → v < end

-- the instructions that read each variable, of the first `n` of the code
pub record AreReaders (code : List Instr) (n : ℕ) (table : List (List ℕ)) : Type 0 where
  pub sound : (v at : ℕ) → Has table v at → ReadsAt code v at
  pub whole : (v at : ℕ) → at < n → ReadsAt code v at → Has table v at

-- the instructions that read one variable
pub record HaveRead (code : List Instr) (v : ℕ) (readers : List ℕ) : Type 0 where
  pub sound : (at : ℕ) → IsIn at readers → ReadsAt code v at
  pub whole : (at : ℕ) → ReadsAt code v at → IsIn at readers
