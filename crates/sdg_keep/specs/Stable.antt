-- What stable storage holds: names with their bytes on numbered stores, and notes by line.
use Rattle.std.specs.Prelude.{ℕ, Bool, true, false, ◌==◌, ◌&&◌, List, [], ◌∷◌, ◌++◌, Option, Some, None}
use Rattle.std.specs.Str.{bytes_eq}
use Rattle.sdg_base.specs.Ports.{same_port}
use Rattle.sdg_base.specs.declared.item.Line.{Line}
use Rattle.sdg_base.specs.declared.item.Line.TheVariants as line
use Rattle.sdg_base.specs.declared.item.Note.{Note}

-- What a store has of a name: the bytes that a read gives, the bytes that are synced, and those that were put since the last sync, in their order. Where there is no such name it has None.
pub record Kept : Type 0 where
  pub read : Option (List ℕ)
  pub synced : Option (List ℕ)
  pub puts : List (List ℕ)

-- by the number of a store and a name what the store has of it, and the notes of each line
pub record Stable : Type 0 where
  pub kept : ℕ → List ℕ → Kept
  pub notes : Line → List Note

-- there is no such name, and nothing was put to it
abbrev pub absent : Kept
absent = record { read = None; synced = None; puts = [] }

-- these bytes were put
abbrev pub put_to : List ℕ → Kept → Kept
put_to bytes kept = record { read = Some bytes; synced = kept.synced; puts = kept.puts ++ bytes ∷ [] }

-- these bytes count as put, and a read gives what it gave
abbrev pub put_in_vain : List ℕ → Kept → Kept
put_in_vain bytes kept = record { read = kept.read; synced = kept.synced; puts = kept.puts ++ bytes ∷ [] }

-- what a read gives is synced
abbrev pub synced_now : Kept → Kept
synced_now kept = record { read = kept.read; synced = kept.read; puts = [] }

-- two names, each on its store, are one
abbrev pub same_name : ℕ → List ℕ → ℕ → List ℕ → Bool
same_name store name at other = store == at && bytes_eq name other

-- two lines are one
unfoldable pub same_line : Line → Line → Bool
same_line (line.Cell left) (line.Cell right) = same_port left right
same_line line.Grow line.Grow = true
same_line line.Commit line.Commit = true
same_line _ _ = false
