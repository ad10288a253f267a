-- A text is read, and its history stepped.
use Rattle.std.proofs.Common.{◌≡◌, ℕ, ◌-◌, List, length, take, Result, Ok, Err, subst, sym}
use Rattle.std.specs.Prelude.{IfOk, IfErr}
use Rattle.sdg_base.specs.declared.call.Call.{Call}
use Rattle.access_blocks.specs.declared.body.Program.{Program}
use Rattle.run_text.specs.declared.field.Field.{Field}
use Rattle.run_text.specs.declared.told.History.{History}
use Rattle.run_text.specs.declared.error.TextError.{TextError}
use Rattle.run_text.specs.declared.error.TextError.TheVariants.{Bad, Memory}
use Rattle.run_text.specs.Schedules.{Words}
use Rattle.run_text.specs.Histories.{IsHistory, IsFirstHistoryBreak}
use Rattle.history_run.specs.declared.replayed.Replayed.{Replayed}
use Rattle.history_run.specs.Made.{IsStepped, IsIllegal}
use Rattle.history_run.specs.Replays.{Whole, Front, Illegal, Broken, Replays}

module _ (program : Program) (calls : List Call) (fields : List Field) (ls : Words) where
  pub whole : (history : History) (r : Result Replayed TextError) → IsHistory fields (length calls) ls history
      → IfOk r (IsStepped program calls history) → IfErr r (IsIllegal program calls history) → Replays program calls fields ls r
  whole history (Ok replayed) is legal illegal = record { history = history; is = is; end = legal.end; legal = legal.legal; counted = legal.counted }
  whole history (Err Memory) is legal illegal = tt
  whole history (Err (Bad line rule)) is legal illegal =
      Illegal illegal.rule_is (record { history = history; is = Whole is; place = illegal.place; illegal = illegal.illegal; number = illegal.number })

  -- an illegal step stands before the first line that breaks a rule
  pub front_illegal : (history : History) (line rule : ℕ) (e : TextError) → IsFirstHistoryBreak fields (length calls) ls line rule → IsHistory fields (length calls) (take (line - 1) ls) history
      → IsIllegal program calls history e → Replays program calls fields ls (Err e)
  front_illegal history line rule Memory first before illegal = tt
  front_illegal history line rule (Bad n r) first before illegal =
      Illegal illegal.rule_is (record { history = history; is = Front line rule first before; place = illegal.place; illegal = illegal.illegal; number = illegal.number })

  -- none does
  pub front_legal : (history : History) (line rule : ℕ) (replayed : Replayed) → IsFirstHistoryBreak fields (length calls) ls line rule → IsHistory fields (length calls) (take (line - 1) ls) history
      → IsStepped program calls history replayed → Replays program calls fields ls (Err (Bad line rule))
  front_legal history line rule replayed first before legal =
      Broken (record { first = first; history = history; before = before; results = replayed.results; end = legal.end; legal = legal.legal })

  pub memory : (e : TextError) → e ≡ Memory → Replays program calls fields ls (Err e)
  memory e is = let P : TextError → Type 0 = λ x. Replays program calls fields ls (Err x) in subst P (sym is) tt
