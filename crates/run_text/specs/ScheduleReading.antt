-- What the private functions read of a schedule, and why they could not.
use Rattle.std.specs.Prelude.{◌≡◌, ℕ, ◌<◌, false, List, [], ◌∷◌, length, take, drop, Option}
use Rattle.std.specs.Borrow.{Bor}
use Rattle.std.specs.Option.{option_copied}
use Rattle.sdg_base.specs.declared.port.Port.{Port as PortOf}
use Rattle.placement.specs.declared.event.Event.{Event as EventOf}
use Rattle.run_text.specs.declared.event.EventWords.{EventWords}
use Rattle.run_text.specs.declared.event.EventWords.TheVariants as w
use Rattle.run_text.specs.declared.error.ScheduleRule.{ScheduleRule}
use Rattle.run_text.specs.declared.error.ScheduleRule.TheVariants.{Port, Number}
use Rattle.run_text.specs.declared.error.TextError.{TextError}
use Rattle.run_text.specs.declared.error.TextError.TheVariants as t
use Rattle.run_text.specs.Lines.{is_skipped, said_lines}
use Rattle.run_text.specs.Parts.{parts_of}
use Rattle.placement.specs.Ports.{IsCellAmong, IsSenderAmong}
use Rattle.run_text.specs.Schedules.{Words, Fits, HasFirstField, HasFirstFields, port_text, take_words, sink_words, event_words, HasStrangePort, HasNoPick, rule_number}

-- the words behind a space; none where there is no space
abbrev pub coming : Option (Bor (List ℕ)) → Words
coming later = parts_of 32 (option_copied later)

-- the rule is the least of those that are broken
pub record IsLeast (breaks : ScheduleRule → Type 0) (rule : ScheduleRule) : Type 0 where
  pub broken : breaks rule
  pub least : (other : ScheduleRule) → rule_number other < rule_number rule → ¬ breaks other

-- the words of an event's form
abbrev pub words_of : EventWords → Words
words_of (w.Take to from pick) = take_words to.now from.now pick.now
words_of (w.Sink from) = sink_words from.now

-- the cell that is written so
pub record IsCellText (fields : Words) (slots : ℕ) (word : List ℕ) (p : PortOf) : Type 0 where
  pub cell : IsCellAmong (length fields) slots p
  pub first : HasFirstField fields p
  pub text : port_text fields p ≡ word

-- the sender that is written so
pub record IsSenderText (fields : Words) (slots : ℕ) (word : List ℕ) (p : PortOf) : Type 0 where
  pub sender : IsSenderAmong (length fields) slots p
  pub first : HasFirstField fields p
  pub text : port_text fields p ≡ word

-- the event that has these words
pub record IsEventOf (fields : Words) (slots : ℕ) (ws : Words) (e : EventOf) : Type 0 where
  pub fits : Fits (length fields) slots e
  pub first : HasFirstFields fields e
  pub words : ws ≡ event_words fields e

-- the words of an event's form are no event because of a port, or else of a pick
abbrev pub IsMisfit : Words → ℕ → Words → ScheduleRule → Type 0
IsMisfit fields slots ws Port = HasStrangePort fields slots ws
IsMisfit fields slots ws Number = HasNoPick ws × ¬ HasStrangePort fields slots ws
IsMisfit fields slots ws _ = ⊥

-- so many lines are skipped, and this one is said, with these behind it
pub record IsNextSaid (ls : Words) (skipped : ℕ) (line : List ℕ) (more : Words) : Type 0 where
  pub silent : said_lines (take skipped ls) ≡ []
  pub said : is_skipped line ≡ false
  pub coming : drop skipped ls ≡ line ∷ more

-- the error of a text whose line of this number breaks a rule
abbrev pub bad_line : ℕ → ScheduleRule → TextError
bad_line line rule = t.Bad line (rule_number rule)
