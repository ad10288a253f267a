-- The live variables of each instruction: those that some way from it on reads before it writes them.
use Rattle.std.specs.Prelude.{◌≡◌, ℕ, ◌≤◌, suc, List, [], ◌∷◌, length, Some, slice_get}
use Rattle.flat_code.specs.declared.graph.Instr.{Instr}
use Rattle.flat_code.specs.declared.graph.GraphMethod.{GraphMethod}
use Rattle.flat_code.specs.Ways.{IsIn, IsLive}

-- Each number is above the one before it, and the first is at least `least`.
abbrev pub RiseFrom : ℕ → List ℕ → Type 0
RiseFrom least [] = Unit {0}
RiseFrom least (v ∷ vs) = (least ≤ v) × RiseFrom (suc v) vs

-- the variables that are live at an instruction, and no others
pub record AreLive (code : List Instr) (at : ℕ) (vars : List ℕ) : Type 0 where
  pub live : (v : ℕ) → IsIn v vars → IsLive code v at
  pub whole : (v : ℕ) → IsLive code v at → IsIn v vars
  pub upwards : RiseFrom 0 vars

-- a set for each instruction of a method
pub record HasSets (code : List Instr) (sets : List (List ℕ)) : Type 0 where
  pub as_many : length sets ≡ length code
  pub each : (at : ℕ) (vars : List ℕ) → slice_get sets at ≡ Some vars → AreLive code at vars

-- the sets of each method
pub record AreLiveSets (methods : List GraphMethod) (sets : List (List (List ℕ))) : Type 0 where
  pub as_many : length sets ≡ length methods
  pub each : (n : ℕ) (m : GraphMethod) (of : List (List ℕ)) → slice_get methods n ≡ Some m → slice_get sets n ≡ Some of → HasSets m.code of
