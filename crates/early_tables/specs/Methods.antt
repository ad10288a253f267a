-- The methods of the state classes by name: from arguments and contents to a value and new contents.
use Rattle.std.specs.Prelude.{ℕ, List, [], ◌∷◌, Option, Some, None, if◌then◌else◌, codes}
use Rattle.std.specs.Str.{bytes_eq}
use Rattle.sdg_base.specs.declared.val.Val.{Val}
use Rattle.sdg_base.specs.declared.val.Val.TheVariants as val
use Rattle.early_tables.specs.Entries.{Entries}
use Rattle.early_tables.specs.Contents.{value_at, with_value}

abbrev pub Change : Type 0
Change = Option (Val × Entries)

-- `long get(long k)`
abbrev pub get : List Val → Entries → Change
get (val.Long key ∷ []) entries = Some (val.Long (value_at key entries), entries)
get _ entries = None

-- `void put(long k, long v)`
abbrev pub put : List Val → Entries → Change
put (val.Long key ∷ val.Long value ∷ []) entries = Some (val.Unit, with_value key value entries)
put _ entries = None

-- A name that no method has, or arguments of other types, have no meaning.
abbrev pub called : List ℕ → List Val → Entries → Change
called name args entries = if bytes_eq name (codes "get") then get args entries else (if bytes_eq name (codes "put") then put args entries else None)
