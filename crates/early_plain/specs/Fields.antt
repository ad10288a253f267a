-- The fields of a class by name.
use Rattle.std.specs.Prelude.{◌≡◌, ℕ, zero, suc, true, false, List, [], ◌∷◌, unwrap_or}
use Rattle.std.specs.Str.{bytes_eq}
use Rattle.early_tables.specs.Entries.{Entries}
use Rattle.early_source.specs.Variables.{Tables, named}

-- the entries of a field
abbrev pub entries_of : List ℕ → Tables → Entries
entries_of field tables = unwrap_or (named field tables) []

-- The name stands at this place, and at none before it.
abbrev pub IsFirst : List (List ℕ) → List ℕ → ℕ → Type 0
IsFirst [] name n = ⊥
IsFirst (x ∷ xs) name zero = bytes_eq x name ≡ true
IsFirst (x ∷ xs) name (suc n) = (bytes_eq x name ≡ false) × IsFirst xs name n
