-- Texts that a byte cuts into parts, as the private functions see them.
use Rattle.std.specs.Prelude.{◌≡◌, ◌≢◌, ℕ, ◌<◌, ◌==◌, List, [], length, take, slice_index, Option, Some, None, All}
use Rattle.std.specs.List.{slice_split}

-- the parts of what stands behind a separator; none where there is no separator
abbrev pub parts_of : ℕ → Option (List ℕ) → List (List ℕ)
parts_of separator None = []
parts_of separator (Some rest) = slice_split (λ b. b == separator) rest

-- the first place of a separator
pub record IsFirstPlace (bytes : List ℕ) (separator at : ℕ) : Type 0 where
  pub within : at < length bytes
  pub here : slice_index bytes at ≡ separator
  pub none_before : All (λ b. b ≢ separator) (take at bytes)
