-- The variables that a sum sees.
use Rattle.std.specs.Prelude.{ℕ, List, [], ◌∷◌, map}
use Rattle.early_source.specs.Variables.{Variables}
use Rattle.early_plain.specs.declared.scope.Local.{Local}

-- These locals are declared one after the other.
abbrev pub with_locals : Variables → List Local → Variables
with_locals variables [] = variables
with_locals variables (local ∷ locals) = with_locals ((local.name.now, local.value) ∷ variables) locals

abbrev pub names_in : {A : Type 0} → List (List ℕ × A) → List (List ℕ)
names_in variables = map (λ variable. variable.0) variables
