-- what a read of a file gives
use Rattle.std.specs.Prelude.{◌≡◌, ℕ, ◌≤◌, ◌↔◌, List, ◌++◌, length, take, drop, min}

-- the first n bytes of the buffer are the n bytes of the file at a place and on, and there are none
-- exactly where the file has no byte at that place
pub record PutsBytes (file : List ℕ) (from : ℕ) (buffer : List ℕ) (n : ℕ) : Type 0 where
  pub fits : n ≤ length buffer
  pub within : n ≤ length (drop from file)
  pub bytes : take n buffer ≡ take n (drop from file)
  pub at_end : (n ≡ 0) ↔ (length file ≤ from)

-- how many bytes of a file a read puts that moves at most a number of them
abbrev pub count_put : List ℕ → ℕ → List ℕ → ℕ → ℕ
count_put file from buffer most = min most (min (length buffer) (length (drop from file)))

-- the buffer after such a read
abbrev pub with_put : List ℕ → ℕ → List ℕ → ℕ → List ℕ
with_put file from buffer most = let n = count_put file from buffer most in take n (drop from file) ++ drop n buffer
