-- The variables of a call, and the partitioned fields, by name.
use Rattle.std.specs.Prelude.{ℕ, List, [], ◌∷◌, Option, Some, None, if◌then◌else◌}
use Rattle.std.specs.Str.{bytes_eq}
use Rattle.sdg_base.specs.declared.val.Val.{Val}
use Rattle.early_tables.specs.Entries.{Entries}

abbrev pub Variables : Type 0
Variables = List (List ℕ × Val)

-- each partitioned field with its entries, whole
abbrev pub Tables : Type 0
Tables = List (List ℕ × Entries)

abbrev pub named : {A : Type 0} → List ℕ → List (List ℕ × A) → Option A
named name [] = None
named name (x ∷ xs) = if bytes_eq x.0 name then Some x.1 else named name xs

-- another value under a name that is there
abbrev pub renewed : {A : Type 0} → List ℕ → A → List (List ℕ × A) → List (List ℕ × A)
renewed name a [] = []
renewed name a (x ∷ xs) = if bytes_eq x.0 name then (name, a) ∷ xs else x ∷ renewed name a xs
