-- What legal steps give: how calls ended, in the order in which they ended.
use Rattle.std.specs.Prelude.{◌≡◌, ℕ, List, [], ◌∷◌, ◌++◌, take, slice_get, Option, Some, None}
use Rattle.sdg_base.specs.declared.val.Outcome.{Outcome}
use Rattle.sdg_base.specs.declared.call.Call.{Call}
use Rattle.sdg_base.specs.declared.call.Step.{Step}
use Rattle.sdg_base.specs.declared.call.Step.TheVariants.{Begin, Block, Visit, Join, Grow}
use Rattle.access_blocks.specs.declared.body.Program.{Program}
use Rattle.access_blocks.specs.Source.{Source, Refusal, refusal, Steps, outcome_of_call}

-- a growth is of no call
abbrev pub call_of : Step → Option ℕ
call_of (Begin c) = Some c
call_of (Block c i) = Some c
call_of (Visit c i) = Some c
call_of (Join c) = Some c
call_of (Grow field) = None

-- the number of a call and how it ended, where it has
abbrev pub result_of : ℕ → Option Outcome → List (ℕ × Outcome)
result_of c None = []
result_of c (Some o) = (c, o) ∷ []

abbrev pub result_in : Option ℕ → Source → List (ℕ × Outcome)
result_in None next = []
result_in (Some c) next = result_of c (outcome_of_call next c)

-- The call that ended by a step which leads here: no legal step is of a call that had ended before.
abbrev pub ended_by : Step → Source → List (ℕ × Outcome)
ended_by step next = result_in (call_of step) next

-- Steps one after the other, all legal, give these results and lead here.
pub data Gives (program : Program) (calls : List Call) : Source → List Step → List (ℕ × Outcome) → Source → Type 0 where
  Done : (now : Source) → Gives program calls now [] [] now
  Next : (now between end : Source) (step : Step) (steps : List Step) (results : List (ℕ × Outcome))
      → Steps program calls now step between
      → Gives program calls between steps results end
      → Gives program calls now (step ∷ steps) (ended_by step between ++ results) end

-- The steps before this place, from 0, are legal, and the step there is not.
pub record IsFirstIllegal (program : Program) (calls : List Call) (start : Source) (steps : List Step) (place : ℕ) : Type 0 where
  pub results : List (ℕ × Outcome)
  pub now : Source
  pub legal : Gives program calls start (take place steps) results now
  pub step : Step
  pub here : slice_get steps place ≡ Some step
  pub reason : Refusal
  pub refused : refusal now step ≡ Some reason
