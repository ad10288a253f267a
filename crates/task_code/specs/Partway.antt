-- The states that a run of code passes: its accesses leave one after the other.
use Rattle.std.specs.Prelude.{◌≡◌, ℕ, zero, suc, List, Option, Some, None, slice_get}
use Rattle.sdg_base.specs.declared.val.Outcome.{Outcome}
use Rattle.sdg_base.specs.declared.val.Outcome.TheVariants as outcome
use Rattle.state_classes.specs.States.{State, called}
use Rattle.flat_code.specs.declared.graph.Instr.{Instr}
use Rattle.flat_code.specs.Machine.{Setting, Frame, Performed, Goes, Accesses, Ends, perform, pushed_result}

-- the state that is left from a frame and a state on
abbrev pub Leaving : Type 0
Leaving = Frame → State → State

-- An access that gives a value lets the run go on.
abbrev pub left_by_access : Leaving → Frame → Outcome × State → State
left_by_access next f (outcome.Value v, state) =
    next (record { at = f.at; stack = pushed_result v f.stack; variables = f.variables; turns = f.turns }) state
left_by_access next f (how, state) = state

-- Nothing but an access changes the state.
abbrev pub left_by : Leaving → State → Option Performed → State
left_by next state None = state
left_by next state (Some (Goes f)) = next f state
left_by next state (Some (Accesses m args f)) = left_by_access next f (called m args state)
left_by next state (Some (Ends ending f)) = state

-- the state after so many steps, or after all where a run has fewer
unfoldable pub state_after : ℕ → Setting → List Instr → Leaving
state_after zero s code f state = state
state_after (suc n) s code f state = left_by (state_after n s code) state (perform s (slice_get code f.at) f)

-- code that is run from a frame on
pub record Begun : Type 0 where
  pub setting : Setting
  pub code : List Instr
  pub frame : Frame

-- a state as some of the accesses of a run left it, the first ones; where nothing is run, as it was
abbrev pub IsLeftBy : Option Begun → State → State → Type 0
IsLeftBy None old new = new ≡ old
IsLeftBy (Some b) old new = (steps : ℕ) × (new ≡ state_after steps b.setting b.code b.frame old)
