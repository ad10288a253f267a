-- Names and what each stands for.
use Rattle.std.specs.Prelude.{ℕ, List, [], ◌∷◌, ◌++◌, Option, Some, None, is_some, if◌then◌else◌}
use Rattle.std.specs.Str.{bytes_eq}

module _ {T : Type 0} where
  -- what the name stands for
  abbrev pub entry_of : List ℕ → List (List ℕ × T) → Option T
  entry_of name [] = None
  entry_of name (e ∷ more) = if bytes_eq name e.0 then Some e.1 else entry_of name more

  -- A name that is declared twice means its first declaration.
  abbrev pub with_entry : List ℕ → T → List (List ℕ × T) → List (List ℕ × T)
  with_entry name item entries = if is_some (entry_of name entries) then entries else entries ++ (name, item) ∷ []
