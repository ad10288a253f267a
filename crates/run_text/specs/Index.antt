-- Entry methods and fields by their names.
use Rattle.std.specs.Prelude.{◌≡◌, ◌≢◌, ℕ, List, take, All, Option, Some, None, slice_get, IsSomeAnd}
use Rattle.std.specs.Borrow.{Bor}
use Rattle.std.specs.BTreeMap.{BTreeMap, get_by}
use Rattle.std.specs.Cmp.Lexicographic.{slice_cmp}
use Rattle.std.specs.Ordering.{nat_cmp}
use Rattle.run_text.specs.declared.entrance.Entrance.{Entrance}

-- a map from names
abbrev pub Index : Type 0
Index = BTreeMap (Bor (List ℕ)) ℕ

-- what the map has for a name
abbrev pub index_at : Index → List ℕ → Option ℕ
index_at index name = get_by (λ key. slice_cmp nat_cmp name key.now) index

-- the number of the first item of the name, or none
abbrev pub IsFirstNamed : {A : Type 0} → (A → List ℕ) → List A → List ℕ → Option ℕ → Type 0
IsFirstNamed name_of items name None = All (λ item. name_of item ≢ name) items
IsFirstNamed name_of items name (Some number) = IsSomeAnd (slice_get items number) (λ item. name_of item ≡ name) × All (λ item. name_of item ≢ name) (take number items)

-- the number of the first entry method of the name, or none
abbrev pub IsFirst : List Entrance → List ℕ → Option ℕ → Type 0
IsFirst entrances name found = IsFirstNamed (λ entrance. entrance.name) entrances name found

-- the number of the first field of the name, or none
abbrev pub IsFirstField : List (List ℕ) → List ℕ → Option ℕ → Type 0
IsFirstField fields name found = IsFirstNamed (λ field. field) fields name found

-- the map has the first entry method of each name
pub record IsIndex (entrances : List Entrance) (index : Index) : Type 0 where
  pub first : (name : List ℕ) → IsFirst entrances name (index_at index name)

-- the map has the first field of each name
pub record IsFieldIndex (fields : List (List ℕ)) (index : Index) : Type 0 where
  pub first : (name : List ℕ) → IsFirstField fields name (index_at index name)
