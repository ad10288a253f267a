-- What an object that holds state is seen as: its entries in rising key order, no key twice.
use Rattle.std.specs.Prelude.{Bool, true, ℤ, pos, List, Option, Some, None, is_some, unwrap_or}
use Rattle.std.specs.declared.cmp.Ordering.{Ordering}
use Rattle.std.specs.Ordering.{int_cmp, is_lt, ordering_then}
use Rattle.std.specs.Map.{lookup, lookup_key, remove_entry}
use Rattle.std.specs.BTreeMap.{is_at, insert_entry}

abbrev pub Entries : Type 0 → Type 0
Entries K = List (K × ℤ)

-- The key of a matrix's element is its row and its column. Rows come first in the order.
abbrev pub MatrixKey : Type 0
MatrixKey = ℤ × ℤ

abbrev pub by_row_and_column : MatrixKey → MatrixKey → Ordering
by_row_and_column a b = ordering_then (int_cmp a.0 b.0) (int_cmp a.1 b.1)

-- a change of one entry: its key, and its value from then on, None where it is removed
abbrev pub Change : Type 0 → Type 0
Change K = K × Option ℤ

module _ {K : Type 0} (cmp : K → K → Ordering) where
  -- the entry of a key, where there is one
  abbrev pub entry_at : {X : Type 0} → K → List (K × X) → Option X
  entry_at key entries = lookup (is_at (cmp key)) entries

  unfoldable pub has_entry : {X : Type 0} → K → List (K × X) → Bool
  has_entry key entries = is_some (entry_at key entries)

  -- An absent entry reads as 0.
  abbrev pub value_at : K → Entries K → ℤ
  value_at key entries = unwrap_or (entry_at key entries) (pos 0)

  -- above a key, or any key where none is given
  abbrev pub is_above : Option K → K → Bool
  is_above None key = true
  is_above (Some least) key = is_lt (cmp least key)

  -- the least key above the given one, or the least of all where none is given: the first in the order that is above
  abbrev pub key_after : {X : Type 0} → Option K → List (K × X) → Option K
  key_after above entries = lookup_key (is_above above) entries

  -- the entry of a key set or removed, and each other entry as it is
  abbrev pub with_entry : {X : Type 0} → K → Option X → List (K × X) → List (K × X)
  with_entry key None entries = remove_entry (is_at (cmp key)) entries
  with_entry key (Some value) entries = insert_entry cmp entries key value

  abbrev pub changed : {X : Type 0} → Option (K × Option X) → List (K × X) → List (K × X)
  changed None entries = entries
  changed (Some change) entries = with_entry change.0 change.1 entries
