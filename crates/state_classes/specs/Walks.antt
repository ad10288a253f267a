-- Where a row of a matrix has elements.
use Rattle.std.specs.Prelude.{◌≡◌, ℕ, ◌<◌, ◌≤◌, ℤ, pos, unsigned_abs, int_lt, int_le, ◌&&◌, Option, Some, None, if◌then◌else◌}
use Rattle.std.specs.Ordering.{int_eq}
use Rattle.state_classes.specs.Entries.{Entries, MatrixKey}
use Rattle.state_classes.specs.Plans.{element}

-- the row's elements from one column on and below another are 0
pub record IsBlank (row : ℤ) (from upto : ℕ) (entries : Entries MatrixKey) : Type 0 where
  pub is : (column : ℕ) → from ≤ column → column < upto → element row (pos column) entries ≡ pos 0

-- from a column on and below the end, a column before which the row is blank, or none where it is blank up to the end
abbrev pub IsNextInRow : ℤ → ℕ → ℕ → Entries MatrixKey → Option ℕ → Type 0
IsNextInRow row from end entries None = IsBlank row from end entries
IsNextInRow row from end entries (Some next) = (from ≤ next) × (next < end) × IsBlank row from next entries

-- the column of a key, where the key is of a row and the column is below the end
abbrev pub column_below : MatrixKey → ℤ → ℕ → Option ℕ
column_below key row end = if int_eq key.0 row && int_le (pos 0) key.1 && int_lt key.1 (pos end) then Some (unsigned_abs key.1) else None
