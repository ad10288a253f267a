-- Places in a text: lines end with LF, CR or CR LF (JLS 3.4), and columns count bytes.
use Rattle.std.specs.Prelude.{ℕ, ◌+◌, List, [], ◌∷◌, ◌==◌, if◌then◌else◌}
use Rattle.java_tree.specs.declared.token.Place.{Place}

abbrev pub first_place : Place
first_place = record { line = 1; column = 1 }

abbrev pub next_line : Place → Place
next_line p = record { line = p.line + 1; column = 1 }

abbrev pub next_column : Place → Place
next_column p = record { line = p.line; column = p.column + 1 }

-- the place after these bytes, where it was p before them; a CR in front of a LF ends no line of its own
abbrev pub place_after : Place → List ℕ → Place
place_after p [] = p
place_after p (b ∷ []) = if b == 10 then next_line p else (if b == 13 then next_line p else next_column p)
place_after p (b ∷ c ∷ bytes) =
    if b == 10 then place_after (next_line p) (c ∷ bytes)
    else (if b == 13 then (if c == 10 then place_after p (c ∷ bytes) else place_after (next_line p) (c ∷ bytes)) else place_after (next_column p) (c ∷ bytes))
