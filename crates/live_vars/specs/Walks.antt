-- A walk backward with one variable, from the instructions that read it, while the sets of live variables grow.
use Rattle.std.specs.Prelude.{◌≡◌, ℕ, ◌+◌, ◌<◌, suc, false, if◌then◌else◌, ◌⊎◌, List, [], ◌∷◌, length, Some, slice_get}
use Rattle.flat_code.specs.declared.graph.Instr.{Instr}
use Rattle.flat_code.specs.Ways.{IsIn, IsLive, next_of}
use Rattle.live_vars.specs.Sets.{RiseFrom}
use Rattle.live_vars.specs.Steps.{Has, ReadsAt, is_written, ends_in}

-- all live variables below `v`, and none from `bound` on
pub record IsSet (code : List Instr) (at v bound : ℕ) (vars : List ℕ) : Type 0 where
  pub live : (x : ℕ) → IsIn x vars → IsLive code x at
  pub whole : (x : ℕ) → x < v → IsLive code x at → IsIn x vars
  pub upwards : RiseFrom 0 vars
  pub below : (x : ℕ) → IsIn x vars → x < bound

pub record AreSets (code : List Instr) (v bound : ℕ) (sets : List (List ℕ)) : Type 0 where
  pub as_many : length sets ≡ length code
  pub each : (at : ℕ) (vars : List ℕ) → slice_get sets at ≡ Some vars → IsSet code at v bound vars

-- The instructions still to be looked at are `work`. Each that reads the variable, or leads to one that has it and does not write it, has it or is among these.
pub record IsWalk (code : List Instr) (v : ℕ) (sets : List (List ℕ)) (work : List ℕ) : Type 0 where
  pub so_far : AreSets code v (suc v) sets
  pub within : (at : ℕ) → IsIn at work → at < length code
  pub leads : (at : ℕ) (i : Instr) → IsIn at work → slice_get code at ≡ Some i → is_written i v ≡ false → IsLive code v at
  pub readers : (at : ℕ) → ReadsAt code v at → Has sets at v ⊎ IsIn at work
  pub closed : (at next : ℕ) (i : Instr) → slice_get code at ≡ Some i → is_written i v ≡ false → IsIn next (next_of at i) → Has sets next v → Has sets at v ⊎ IsIn at work

-- how many instructions the walk may still come to
abbrev pub left : ℕ → List (List ℕ) → List (List ℕ) → ℕ
left v [] before = 0
left v (vars ∷ sets) [] = 0
left v (vars ∷ sets) (b ∷ before) = (if ends_in vars v then 0 else length b) + left v sets before
