-- Code that is put at some place: jumps go to places.
use Rattle.std.specs.Prelude.{ℕ, ◌+◌, List, [], ◌∷◌, ◌++◌, length}
use Rattle.flat_code.specs.declared.graph.Instr.{Instr}

-- how long it is, and the instructions from a place on
pub record Code : Type 0 where
  pub size : ℕ
  pub from : ℕ → List Instr

-- the same at each place
abbrev pub plain : List Instr → Code
plain is = record { size = length is; from = λ at. is }

abbrev pub nothing : Code
nothing = plain []

abbrev pub followed_by : Code → Code → Code
followed_by a b = record { size = a.size + b.size; from = λ at. a.from at ++ b.from (at + a.size) }

abbrev pub all_of : List Code → Code
all_of [] = nothing
all_of (c ∷ cs) = followed_by c (all_of cs)
