-- A set of names, as what it says of each name.
use Rattle.std.specs.Prelude.{◌↔◌, ℕ, List, Bool, IsTrue, Contains}
use Rattle.std.specs.Borrow.{Bor}
use Rattle.std.specs.List.{list_any}
use Rattle.std.specs.Ordering.{is_eq, nat_cmp}
use Rattle.std.specs.Cmp.Lexicographic.{slice_cmp}

abbrev pub is_same : List ℕ → List ℕ → Bool
is_same a b = is_eq (slice_cmp nat_cmp a b)

-- whether the name is among the keys of the set
abbrev pub is_held : List (Bor (List ℕ)) → List ℕ → Bool
is_held keys name = list_any (λ key. is_same name key.now) keys

-- the set holds these names and no others
pub record Holds (keys : List (Bor (List ℕ))) (names : List (List ℕ)) : Type 0 where
  pub each : (q : List ℕ) → IsTrue (is_held keys q) ↔ Contains names q
