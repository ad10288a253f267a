-- The methods of a table on what it holds.
use Rattle.std.specs.Prelude.{ℤ, pos, Option, unwrap_or}
use Rattle.std.specs.Ordering.{int_cmp}
use Rattle.std.specs.Map.{lookup}
use Rattle.std.specs.BTreeMap.{is_at, insert_entry}
use Rattle.early_tables.specs.Entries.{Entries}

-- the entry of a key, where there is one
abbrev pub entry_at : ℤ → Entries → Option ℤ
entry_at key entries = lookup (is_at (int_cmp key)) entries

-- An absent entry reads as 0.
abbrev pub value_at : ℤ → Entries → ℤ
value_at key entries = unwrap_or (entry_at key entries) (pos 0)

-- the entry of the key set, in its place in the order, and each other entry as it is
abbrev pub with_value : ℤ → ℤ → Entries → Entries
with_value key value entries = insert_entry int_cmp entries key value
