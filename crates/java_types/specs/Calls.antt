-- Which methods reach which by calls.
use Rattle.std.specs.Prelude.{◌≡◌, ℕ, ◌+◌, ◌*◌, ◌<◌, Bool, true, false, ◌||◌, ◌&&◌, nat_eq, List, length, fold, slice_index_or}
use Rattle.java_types.specs.declared.calls.Call.{Call}

-- one more call: from a method to another as before, or by way of the call
abbrev pub with_call : (ℕ → ℕ → Bool) → Call → ℕ → ℕ → Bool
with_call reached call from to = reached from to || reached from call.caller && reached call.callee to

-- Each method reaches itself.
abbrev pub reaches : List Call → ℕ → ℕ → Bool
reaches = fold with_call nat_eq

-- the relation as a table: a row for each method of the most that there may be
pub record Holds (reached : ℕ → ℕ → Bool) (table : List Bool) : Type 0 where
  pub size : length table ≡ 65536
  pub each : (from to : ℕ) → from < 256 → to < 256 → slice_index_or table (from * 256 + to) false ≡ reached from to

abbrev pub IsTransitive : (ℕ → ℕ → Bool) → Type 0
IsTransitive r = (x y z : ℕ) → r x y ≡ true → r y z ≡ true → r x z ≡ true
