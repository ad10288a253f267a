-- What a text of a history gives, or which of its lines is refused.
use Rattle.std.specs.Prelude.{◌≡◌, ℕ, ◌-◌, List, length, take, slice_get, Some, Result, Ok, Err}
use Rattle.sdg_base.specs.declared.val.Outcome.{Outcome}
use Rattle.sdg_base.specs.declared.call.Call.{Call}
use Rattle.access_blocks.specs.declared.body.Program.{Program}
use Rattle.access_blocks.specs.Source.{Source, source_at_start}
use Rattle.run_text.specs.declared.field.Field.{Field}
use Rattle.run_text.specs.declared.told.History.{History}
use Rattle.run_text.specs.declared.error.TextError.{TextError}
use Rattle.run_text.specs.declared.error.TextError.TheVariants.{Bad, Memory}
use Rattle.run_text.specs.Schedules.{Words}
use Rattle.run_text.specs.Histories.{IsHistory, IsFirstHistoryBreak}
use Rattle.history_run.specs.declared.replayed.Replayed.{Replayed}
use Rattle.history_run.specs.Stepping.{Gives, IsFirstIllegal}

-- ---- the three causes

-- The lines have a history, of which each step is legal.
pub record IsReplayed (program : Program) (calls : List Call) (fields : List Field) (ls : Words) (replayed : Replayed) : Type 0 where
  pub history : History
  pub is : IsHistory fields (length calls) ls history
  pub end : Source
  pub legal : Gives program calls (source_at_start program calls history.width) history.steps replayed.results end
  pub counted : replayed.steps ≡ length history.steps

-- The lines are read to this history: all of them, or those before the first that breaks a rule of texts.
pub data IsRead (fields : List Field) (calls : ℕ) (ls : Words) (history : History) : Type 0 where
  Whole : IsHistory fields calls ls history → IsRead fields calls ls history
  Front : (line rule : ℕ) → IsFirstHistoryBreak fields calls ls line rule → IsHistory fields calls (take (line - 1) ls) history → IsRead fields calls ls history

-- The line of this number, from 1, has the first step that is not legal.
pub record IsIllegalLine (program : Program) (calls : List Call) (fields : List Field) (ls : Words) (line : ℕ) : Type 0 where
  pub history : History
  pub is : IsRead fields (length calls) ls history
  pub place : ℕ
  pub illegal : IsFirstIllegal program calls (source_at_start program calls history.width) history.steps place
  pub number : slice_get history.lines place ≡ Some line

-- The line of this number is the first that breaks a rule of texts, this one, and each step before it is legal.
pub record IsBrokenLine (program : Program) (calls : List Call) (fields : List Field) (ls : Words) (line rule : ℕ) : Type 0 where
  pub first : IsFirstHistoryBreak fields (length calls) ls line rule
  pub history : History
  pub before : IsHistory fields (length calls) (take (line - 1) ls) history
  pub results : List (ℕ × Outcome)
  pub end : Source
  pub legal : Gives program calls (source_at_start program calls history.width) history.steps results end

-- ---- the answer

-- the rule that each step is its call's next
abbrev pub illegal_rule : ℕ
illegal_rule = 6

-- why a line is refused
pub data IsRefusedLine (program : Program) (calls : List Call) (fields : List Field) (ls : Words) (line rule : ℕ) : Type 0 where
  Illegal : rule ≡ illegal_rule → IsIllegalLine program calls fields ls line → IsRefusedLine program calls fields ls line rule
  Broken : IsBrokenLine program calls fields ls line rule → IsRefusedLine program calls fields ls line rule

-- the answer to a text has its cause; memory can be short at any text
abbrev pub Replays : Program → List Call → List Field → Words → Result Replayed TextError → Type 0
Replays program calls fields ls (Ok replayed) = IsReplayed program calls fields ls replayed
Replays program calls fields ls (Err (Bad line rule)) = IsRefusedLine program calls fields ls line rule
Replays program calls fields ls (Err Memory) = Unit {0}
