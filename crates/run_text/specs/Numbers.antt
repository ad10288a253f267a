-- The one decimal form of a number, as a test of its first bytes.
use Rattle.std.specs.Prelude.{ℕ, ◌≤◌, Bool, false, List, [], ◌∷◌, length, drop, nat_le, All, IsTrue, ◌&&◌, ◌==◌, if◌then◌else◌}

-- a digit above zero stands first
abbrev pub begins_above_zero : List ℕ → Bool
begins_above_zero [] = false
begins_above_zero (b ∷ bytes) = nat_le 49 b && nat_le b 57

-- zero alone, or a digit above zero behind one minus at most
abbrev pub begins_as_number : List ℕ → Bool
begins_as_number [] = false
begins_as_number (b ∷ bytes) = if b == 48 then length bytes == 0 else (if b == 45 then begins_above_zero bytes else begins_above_zero (b ∷ bytes))

-- a number of any size
pub record IsNumber (bytes : List ℕ) : Type 0 where
  pub begins : IsTrue (begins_as_number bytes)
  pub digits : All (λ b. (48 ≤ b) × (b ≤ 57)) (drop 1 bytes)
