-- What the passes know of a place in a body, as they go.
use Rattle.std.specs.Prelude.{◌≡◌, ℕ, suc, if◌then◌else◌, List, [], ◌∷◌, Option, Some, None, length}
use Rattle.std.specs.Str.{bytes_eq}
use Rattle.std.specs.Borrow.{Bor}
use Rattle.std.specs.BTreeMap.{BTreeMap, get_by}
use Rattle.std.specs.Cmp.Lexicographic.{slice_cmp}
use Rattle.std.specs.Option.{option_map}
use Rattle.std.specs.Ordering.{nat_cmp}
use Rattle.early_cutter.specs.declared.point.Scope.{Scope}
use Rattle.early_cutter.specs.declared.point.Here.{Here}
use Rattle.early_cutter.specs.Points.{Point}

-- a map from names
abbrev pub Index : Type 0
Index = BTreeMap (Bor (List ℕ)) ℕ

-- what the map has for a name
abbrev pub index_at : Index → List ℕ → Option ℕ
index_at index name = get_by (λ key. slice_cmp nat_cmp name key.now) index

-- the first place of a name in a list
abbrev pub found_in : List (List ℕ) → List ℕ → Option ℕ
found_in [] name = None
found_in (x ∷ xs) name = if bytes_eq x name then Some 0 else option_map (λ n. suc n) (found_in xs name)

pub record Numbers (scope : Scope) (names : List (List ℕ)) : Type 0 where
  pub each : (name : List ℕ) → index_at scope.numbers name ≡ found_in names name
  pub as_many : scope.count ≡ length names

pub record IsAt (here : Here) (p : Point) : Type 0 where
  pub scope : Numbers here.scope p.scope
  pub site : here.site ≡ p.site
  pub task : here.task ≡ p.task
