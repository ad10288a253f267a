-- What stands at an index that is a value, and vectors with an element set.
use Rattle.std.specs.Prelude.{ℤ, ℕ, nat_lt, length, List, Option, Some, None, slice_get, slice_set, if◌then◌else◌}
use Rattle.sdg_base.specs.declared.val.Val.{Val}
use Rattle.sdg_base.specs.declared.val.Val.TheVariants as val
use Rattle.flat_code.specs.Machine.{at_index}

abbrev pub item_in : {A : Type 0} → List A → Option ℕ → Option A
item_in items None = None
item_in items (Some i) = slice_get items i

abbrev pub item_of : {A : Type 0} → List A → Val → Option A
item_of items (val.Int i) = item_in items (at_index i)
item_of items _ = None

abbrev pub set_within : List ℤ → Option ℕ → ℤ → Option Val
set_within longs None x = None
set_within longs (Some i) x = if nat_lt i (length longs) then Some (val.Vector (slice_set longs i x)) else None

-- the vector with an element set; None where the index is outside
abbrev pub with_element : Val → Val → Val → Option Val
with_element (val.Vector longs) (val.Int i) (val.Long x) = set_within longs (at_index i) x
with_element _ _ _ = None
