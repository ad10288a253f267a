-- Parts that wait at the join until each instance that their call visits has brought its own.
use Rattle.std.specs.Prelude.{◌≡◌, ◌≢◌, ℕ, zero, suc, Bool, false, ◌&&◌, ◌==◌, ◌<◌, not, max, nat_lt, if◌then◌else◌, List, [], ◌∷◌, Option, Some, None, unwrap_or}
use Rattle.std.specs.Ordering.{nat_cmp}
use Rattle.std.specs.List.{list_all}
use Rattle.std.specs.Map.{lookup}
use Rattle.std.specs.BTreeMap.{is_at}
use Rattle.sdg_base.specs.declared.item.Item.{Item}
use Rattle.sdg_base.specs.declared.item.Item.TheVariants as item
use Rattle.flat_code.specs.Items.{instance_of, with_part}
use Rattle.tagged_agreement.specs.Machine.{Out, Wait, Ignore, Parts}
use Rattle.tagged_agreement.specs.History.{most_wide}

-- calls in their order, each with its parts in the order of their instances
abbrev pub Waiting : Type 0
Waiting = List (ℕ × List Item)

-- the parts of a call that wait
unfoldable pub parts_of : Waiting → ℕ → List Item
parts_of waiting call = unwrap_or (lookup (is_at (nat_cmp call)) waiting) []

-- No call is listed whose parts were used up.
abbrev pub AllHaveParts : Waiting → Type 0
AllHaveParts waiting = (call : ℕ) → lookup (is_at (nat_cmp call)) waiting ≢ Some []

abbrev pub if_any : List Item → Option (List Item)
if_any [] = None
if_any (part ∷ parts) = Some (part ∷ parts)

-- ---- in the order of their instances

abbrev pub in_front : Option Item → List Item → List Item
in_front None parts = parts
in_front (Some part) parts = part ∷ parts

-- those of so many instances from one on
unfoldable pub listed_from : Parts → ℕ → ℕ → List Item
listed_from parts instance zero = []
listed_from parts instance (suc count) = in_front (parts instance) (listed_from parts (suc instance) count)

-- of every instance that there can be
abbrev pub listed : Parts → List Item
listed parts = listed_from parts 0 most_wide

-- the parts that a part finds; no other item looks for any
abbrev pub others_of : Item → Parts → List Item
others_of (item.Part call t width instance turns vs how) parts = listed_from parts 0 (max most_wide width)
others_of _ parts = []

-- the same in the program's list of them
abbrev pub found_by : Item → Waiting → List Item
found_by (item.Part call t width instance turns vs how) waiting = parts_of waiting call
found_by _ waiting = []

-- ---- parts that belong together

-- parts of one call and one join, of different instances of as many
abbrev pub is_beside : Item → Item → Bool
is_beside (item.Part call t width instance turns vs how) (item.Part c u w i left ws h) = c == call && u == t && w == width && not (i == instance)
is_beside _ _ = false

abbrev pub all_beside : Item → List Item → Bool
all_beside x others = list_all (is_beside x) others

-- a part comes before those of greater instances
abbrev pub is_before : Item → Item → Bool
is_before part other = nat_lt (instance_of part) (instance_of other)

-- ---- after an item

-- what waits of a call: a part that waits joins its others, one that does not fit changes nothing, and the last one uses them up
abbrev pub parts_after : Item → Out → ℕ → List Item → List Item
parts_after (item.Part call t width instance turns vs how) Wait c parts = if c == call then with_part (item.Part call t width instance turns vs how) parts else parts
parts_after (item.Part call t width instance turns vs how) Ignore c parts = parts
parts_after (item.Part call t width instance turns vs how) out c parts = if c == call then [] else parts
parts_after x out c parts = parts

abbrev pub IsGathered : Item → Out → Waiting → Waiting → Type 0
IsGathered x out old new = (c : ℕ) → parts_of new c ≡ parts_after x out c (parts_of old c)

-- a part is kept under its own instance
pub record IsKept (instance : ℕ) (part : Item) : Type 0 where
  pub own : instance_of part ≡ instance
  pub below : instance < most_wide
