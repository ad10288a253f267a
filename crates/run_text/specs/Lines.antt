-- The lines of a text are those of std's `lines`: each ends with LF, a CR right before the LF is dropped, and what stands
-- behind the last LF is a line where it isn't empty, and keeps its CR.
use Rattle.std.specs.Prelude.{ℕ, ◌<◌, ◌≤◌, Bool, true, not, ◌==◌, List, [], ◌∷◌, length, All}
use Rattle.std.specs.List.{filter, slice_split}

-- a line that says nothing: an empty one, or a comment
abbrev pub is_skipped : List ℕ → Bool
is_skipped [] = true
is_skipped (b ∷ bytes) = b == 35

-- the lines that say something, in their order
abbrev pub said_lines : List (List ℕ) → List (List ℕ)
said_lines ls = filter (λ l. not (is_skipped l)) ls

-- the words of a line: what stands before, between and behind its spaces
abbrev pub words : List ℕ → List (List ℕ)
words line = slice_split (λ b. b == 32) line

-- Printable ASCII alone, and its words with one space between each two and none at the ends, so that no word is empty.
pub record IsWellSpelled (line : List ℕ) : Type 0 where
  pub bytes : All (λ b. (32 ≤ b) × (b ≤ 126)) line
  pub spaced : All (λ word. 0 < length word) (words line)
