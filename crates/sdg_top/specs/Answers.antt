-- The answers of one line, as bytes.
use Rattle.std.specs.Prelude.{ℕ, List, [], ◌∷◌, ◌++◌, codes, decimal}
use Rattle.sdg_top.specs.declared.lines.InputText.{InputText}
use Rattle.sdg_top.specs.declared.lines.InputText.TheVariants.{Calls, Schedule, History}
use Rattle.sdg_top.specs.Texts.{line}

-- to words that are no command
unfoldable pub usage_line : List ℕ
usage_line = line (codes "usage: java2sdg COMMAND FILES" ∷ [])

-- to a class that a phase refuses at a row and a column
unfoldable pub class_refused_line : List ℕ → ℕ → ℕ → List ℕ
class_refused_line phase row column =
    line (codes "class refused:" ∷ phase ∷ codes "at" ∷ (decimal row ++ (codes ":" ++ decimal column)) ∷ [])

abbrev pub text_name : InputText → List ℕ
text_name Calls = codes "calls"
text_name Schedule = codes "schedule"
text_name History = codes "history"

-- to a text with a line that breaks a rule
unfoldable pub text_refused_line : InputText → ℕ → ℕ → List ℕ
text_refused_line text row rule =
    line (text_name text ∷ codes "refused: line" ∷ decimal row ∷ codes "rule" ∷ decimal rule ∷ [])

-- to a file that cannot be read
unfoldable pub unreadable_line : List ℕ → List ℕ
unreadable_line name = line (codes "cannot read:" ∷ name ∷ [])

-- to a file that is too long
unfoldable pub too_long_line : List ℕ → List ℕ
too_long_line name = line (codes "too long:" ∷ name ∷ [])
