-- Live variables are enough: two frames at one instruction that agree on what is live there have runs that end alike.
use Rattle.std.specs.Prelude.{◌≡◌, ℕ, suc, List, length, Option, Some, None, slice_get}
use Rattle.sdg_base.specs.declared.val.Val.{Val}
use Rattle.state_classes.specs.States.{State}
use Rattle.flat_code.specs.declared.graph.Instr.{Instr}
use Rattle.flat_code.specs.declared.graph.Instr.TheVariants as instr
use Rattle.flat_code.specs.Machine.{Setting, Frame, Ending, CutTo, PartFor, Ran, run}
use Rattle.flat_code.specs.Ways.{IsLive}

-- Two lists of values agree on a variable.
abbrev pub Agree : List Val → List Val → ℕ → Type 0
Agree here there v = slice_get there v ≡ slice_get here v

-- at one instruction, with the same stack and turns and as many variables, of which those that are live there are the same
pub record AreAlike (code : List Instr) (f g : Frame) : Type 0 where
  pub at : g.at ≡ f.at
  pub stack : g.stack ≡ f.stack
  pub turns : g.turns ≡ f.turns
  pub as_many : length g.variables ≡ length f.variables
  pub live : (v : ℕ) → IsLive code v f.at → Agree f.variables g.variables v

-- what an end hands on: a cut and a part stand where the run ended, and the frames agree on what is live behind
abbrev pub AgreeBehind : List Instr → Ending → Frame → Frame → Type 0
AgreeBehind code (CutTo t) f g = (slice_get code f.at ≡ Some (instr.Cut t)) × ((v : ℕ) → IsLive code v (suc f.at) → Agree f.variables g.variables v)
AgreeBehind code (PartFor t v) f g = (slice_get code f.at ≡ Some (instr.Part t)) × ((v : ℕ) → IsLive code v (suc f.at) → Agree f.variables g.variables v)
AgreeBehind code _ f g = Unit {0}

-- Two runs, whose first frames had these variables, ended alike.
pub record EndedAlike (code : List Instr) (here there : List Val) (r s : Ran) : Type 0 where
  pub ending : s.ending ≡ r.ending
  pub state : s.state ≡ r.state
  pub frames : AreAlike code r.frame s.frame
  pub behind : AgreeBehind code r.ending r.frame s.frame
  pub kept : (v : ℕ) → Agree here there v → Agree (r.frame).variables (s.frame).variables v

-- Both go wrong, or both end alike.
abbrev pub EndAlike : List Instr → List Val → List Val → Option Ran → Option Ran → Type 0
EndAlike code here there None None = Unit {0}
EndAlike code here there (Some r) (Some s) = EndedAlike code here there r s
EndAlike code here there _ _ = ⊥

abbrev pub LiveVariablesAreEnough : Type 0
LiveVariablesAreEnough =
    (s : Setting) (code : List Instr) (f g : Frame) (state : State) → AreAlike code f g → EndAlike code f.variables g.variables (run s code f state) (run s code g state)
