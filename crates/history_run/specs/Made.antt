-- What the private functions make of steps.
use Rattle.std.specs.Prelude.{◌≡◌, ℕ, List, ◌++◌, length, slice_get, Option, Some}
use Rattle.sdg_base.specs.declared.val.Outcome.{Outcome}
use Rattle.sdg_base.specs.declared.call.Call.{Call}
use Rattle.sdg_base.specs.declared.call.Step.{Step}
use Rattle.access_blocks.specs.declared.body.Program.{Program}
use Rattle.access_blocks.specs.Source.{Source, Refusal, refusal, Steps, source_at_start}
use Rattle.run_text.specs.declared.told.History.{History}
use Rattle.run_text.specs.declared.error.TextError.{TextError}
use Rattle.run_text.specs.declared.error.TextError.TheVariants.{Bad, Memory}
use Rattle.source_run.specs.declared.step_error.StepError.{StepError}
use Rattle.source_run.specs.declared.step_error.StepError.TheVariants as error
use Rattle.history_run.specs.declared.replayed.Replayed.{Replayed}
use Rattle.history_run.specs.Stepping.{Gives, IsFirstIllegal, ended_by}
use Rattle.history_run.specs.Replays.{illegal_rule}

-- a step was made, and the results told so far have grown by what it gave
pub record IsMade (program : Program) (calls : List Call) (now : Source) (step : Step) (old : List (ℕ × Outcome)) (left : Option Source) (new : List (ℕ × Outcome)) : Type 0 where
  pub next : Source
  pub legal : Steps program calls now step next
  pub leads : left ≡ Some next
  pub told : new ≡ old ++ ended_by step next

-- the step is not legal, or memory was short
abbrev pub IsNotMade : Source → Step → StepError → Type 0
IsNotMade now step error.Memory = Unit {0}
IsNotMade now step e = (reason : Refusal) × (refusal now step ≡ Some reason)

-- the error of a step on this line that was not made
abbrev pub error_of : StepError → ℕ → TextError
error_of error.Memory line = Memory
error_of e line = Bad line illegal_rule

-- each step of a history is legal, and this is what it gives
pub record IsStepped (program : Program) (calls : List Call) (history : History) (replayed : Replayed) : Type 0 where
  pub end : Source
  pub legal : Gives program calls (source_at_start program calls history.width) history.steps replayed.results end
  pub counted : replayed.steps ≡ length history.steps

-- the step of this line is the first of a history that is not legal
pub record IsIllegalAt (program : Program) (calls : List Call) (history : History) (line rule : ℕ) : Type 0 where
  pub place : ℕ
  pub illegal : IsFirstIllegal program calls (source_at_start program calls history.width) history.steps place
  pub number : slice_get history.lines place ≡ Some line
  pub rule_is : rule ≡ illegal_rule

abbrev pub IsIllegal : Program → List Call → History → TextError → Type 0
IsIllegal program calls history (Bad line rule) = IsIllegalAt program calls history line rule
IsIllegal program calls history Memory = Unit {0}
