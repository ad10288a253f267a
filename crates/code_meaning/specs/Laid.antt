-- Instructions that stand in code, and runs of code from one frame to another.
use Rattle.std.specs.Prelude.{◌≡◌, ◌≤◌, ◌+◌, ◌*◌, ℕ, suc, List, [], ◌∷◌, length, Some, slice_get}
use Rattle.sdg_base.specs.declared.val.Val.{Val}
use Rattle.sdg_base.specs.declared.val.Outcome.{Outcome}
use Rattle.state_classes.specs.States.{State}
use Rattle.flat_code.specs.declared.graph.Instr.{Instr}
use Rattle.flat_code.specs.Machine.{Setting, Frame, Ending, Stopped, Ran, run_within}
use Rattle.body_code.specs.Codes.{Code}
use Rattle.body_code.specs.StatementCode.{Place, Exits, Piece}

-- as long as its size says, wherever it is put
abbrev pub IsSized : Code → Type 0
IsSized k = (at : ℕ) → length (k.from at) ≡ k.size

abbrev pub IsSizedPiece : Piece → Type 0
IsSizedPiece piece = (p : Place) (exits : Exits) → length (piece.from p exits) ≡ piece.size

-- the instructions stand in the code from a place on
abbrev pub IsLaid : List Instr → ℕ → List Instr → Type 0
IsLaid code at [] = Unit {0}
IsLaid code at (i ∷ is) = (slice_get code at ≡ Some i) × IsLaid code (suc at) is

abbrev pub frame : ℕ → List Val → List Val → ℕ → Frame
frame at stack variables turns = record { at = at; stack = stack; variables = variables; turns = turns }

-- A run leads from one frame and state to another, through code of so many instructions. Each turn lets it pass them once more.
pub record Leads (s : Setting) (code : List Instr) (size : ℕ) (f : Frame) (state : State) (g : Frame) (next : State) : Type 0 where
  pub steps : ℕ
  pub same : (n : ℕ) → run_within (steps + n) s code f state ≡ run_within n s code g next
  pub falls : g.turns ≤ f.turns
  pub few : steps + size * g.turns ≤ size * suc f.turns

-- A run ends, with a frame and a state.
pub record EndsSo (s : Setting) (code : List Instr) (size : ℕ) (f : Frame) (state : State) (ending : Ending) (g : Frame) (next : State) : Type 0 where
  pub steps : ℕ
  pub same : (n : ℕ) → run_within (steps + n) s code f state ≡ Some (record { ending = ending; frame = g; state = next })
  pub few : steps ≤ size * suc f.turns

-- A run ends the call, whatever its frame then is.
pub record Stops (s : Setting) (code : List Instr) (size : ℕ) (f : Frame) (state : State) (how : Outcome) (next : State) : Type 0 where
  pub last : Frame
  pub ends : EndsSo s code size f state (Stopped how) last next

-- A run that has ended ends so with more fuel.
abbrev pub MoreFuelIsTheSame : Type 0
MoreFuelIsTheSame =
    (s : Setting) (code : List Instr) (n m : ℕ) → n ≤ m → (f : Frame) (state : State) (r : Ran) → run_within n s code f state ≡ Some r → run_within m s code f state ≡ Some r
