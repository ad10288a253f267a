-- Code in which the jumps of `break` and `continue` wait for their targets.
use Rattle.std.specs.Prelude.{◌≡◌, ℕ, ◌+◌, ◌≤◌, ◌<◌, List, [], ◌∷◌, ◌++◌, length, map, slice_set}
use Rattle.flat_code.specs.declared.graph.Instr.{Instr}
use Rattle.flat_code.specs.declared.graph.Instr.TheVariants as instr
use Rattle.flat_code.specs.declared.graph.VariableType.TheVariants.{One}
use Rattle.body_code.specs.StatementCode.{Exits, Piece, Place}
use Rattle.task_lower.specs.declared.draft.Draft.{Draft}
use Rattle.task_lower.specs.declared.draft.Hole.{Hole}
use Rattle.task_lower.specs.declared.draft.Exit.{Exit}
use Rattle.task_lower.specs.declared.draft.Exit.TheVariants.{Test, Break, Continue}

abbrev pub jump : Exit → Exits → Instr
jump Test exits = instr.IfFalse exits.break_to
jump Break exits = instr.Jump exits.break_to
jump Continue exits = instr.Jump exits.continue_to

-- the code once it is known where `break` and `continue` go
abbrev pub filled : List Instr → List Hole → Exits → List Instr
filled code [] exits = code
filled code (h ∷ holes) exits = slice_set (filled code holes exits) h.at (jump h.exit exits)

abbrev pub AreWithin : ℕ → ℕ → List Hole → Type 0
AreWithin low high [] = Unit {0}
AreWithin low high (h ∷ holes) = (low ≤ h.at) × (h.at < high) × AreWithin low high holes

-- a jump out of a loop's body
abbrev pub exit_piece : Exit → Piece
exit_piece exit = record { size = 1; tasks = 0; carried = []; from = λ p exits. jump exit exits ∷ [] }

-- where the next piece is put
abbrev pub place_of : Draft → Place
place_of d = record { at = length d.code; task = d.tasks; variable = length d.variables }

-- The new draft is the old one, and behind it the piece, once these holes are filled.
pub record Emits (p : Piece) (old new : Draft) (holes : List Hole) : Type 0 where
  pub is : (exits : Exits) → filled new.code holes exits ≡ old.code ++ p.from (place_of old) exits
  pub long : length new.code ≡ length old.code + p.size
  pub within : AreWithin (length old.code) (length new.code) holes
  pub tasks : new.tasks ≡ old.tasks + p.tasks
  pub variables : new.variables ≡ old.variables ++ map One p.carried
