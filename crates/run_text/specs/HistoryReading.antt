-- What the private functions read of a history, and why they could not.
use Rattle.std.specs.Prelude.{◌≡◌, ◌≢◌, ℕ, ◌<◌, ◌≤◌, ◌⊎◌, false, List, [], ◌∷◌, length, take, drop, decimal}
use Rattle.sdg_base.specs.declared.call.Step.{Step as StepOf}
use Rattle.placement.specs.declared.event.Header.{Header as HeaderOf}
use Rattle.run_text.specs.declared.field.Field.{Field}
use Rattle.run_text.specs.declared.room.Room.{Room}
use Rattle.run_text.specs.declared.step.StepWords.{StepWords}
use Rattle.run_text.specs.declared.step.StepWords.TheVariants as w
use Rattle.run_text.specs.declared.error.HistoryRule.{HistoryRule}
use Rattle.run_text.specs.declared.error.HistoryRule.TheVariants.{Reference, Width}
use Rattle.run_text.specs.declared.error.TextError.{TextError}
use Rattle.run_text.specs.declared.error.TextError.TheVariants as t
use Rattle.run_text.specs.Index.{Index, index_at, IsFirstNamed}
use Rattle.run_text.specs.Lines.{words}
use Rattle.run_text.specs.Schedules.{Words, IsHeaderForm}
use Rattle.run_text.specs.Histories.{is_untold, told_lines, one_words, two_words, step_words, width_of, Fits, IsPartial, IsCallNumber, IsCount, IsFront, IsOpening, IsStrayHeader, HasStranger, HasNoRoom, Breaks, history_rule_number}
use Rattle.std.specs.Prelude.{codes}

-- the rule is the least of those that are broken
pub record IsLeastRule (breaks : HistoryRule → Type 0) (rule : HistoryRule) : Type 0 where
  pub broken : breaks rule
  pub least : (other : HistoryRule) → history_rule_number other < history_rule_number rule → ¬ breaks other

-- the map has the first field of each name
pub record IsIndexOfFields (fields : List Field) (index : Index) : Type 0 where
  pub first : (name : List ℕ) → IsFirstNamed (λ field. field.name) fields name (index_at index name)

-- the widths are those of the fields, and the greatest is that of a partial field; 0 where no field is partial
pub record IsRoom (fields : List Field) (room : Room) : Type 0 where
  pub long : length room.widths ≡ length fields
  pub few : room.greatest ≤ 64
  pub most : (field : ℕ) → IsPartial fields field → width_of room.widths field ≤ room.greatest
  pub reached : 0 < room.greatest → (field : ℕ) × IsPartial fields field × (room.greatest ≤ width_of room.widths field)

-- the words of a step's form
abbrev pub words_of : StepWords → Words
words_of (w.Begin call) = one_words (codes "begin") call.now
words_of (w.Block call) = one_words (codes "block") call.now
words_of (w.BlockAt call instance) = two_words (codes "block") call.now instance.now
words_of (w.Visit call instance) = two_words (codes "visit") call.now instance.now
words_of (w.Join call) = one_words (codes "join") call.now
words_of (w.Grow field) = one_words (codes "grow") field.now

-- the step that has these words
pub record IsStepOf (fields : List Field) (calls : ℕ) (ws : Words) (s : StepOf) : Type 0 where
  pub fits : Fits fields calls s
  pub words : ws ≡ step_words fields s

-- a call and an instance that are written so
pub record IsPlaced (calls greatest : ℕ) (call_text instance_text : List ℕ) (call instance : ℕ) : Type 0 where
  pub called : IsCallNumber calls call
  pub call_is : decimal call ≡ call_text
  pub below : instance < greatest
  pub instance_is : decimal instance ≡ instance_text

abbrev pub IsNoCall : ℕ → List ℕ → Type 0
IsNoCall calls word = (n : ℕ) → IsCallNumber calls n → decimal n ≢ word

-- why no call and instance are written so
abbrev pub IsMisplaced : ℕ → ℕ → List ℕ → List ℕ → HistoryRule → Type 0
IsMisplaced calls greatest call instance Reference = IsNoCall calls call ⊎ (¬ IsCount instance)
IsMisplaced calls greatest call instance Width = ((n : ℕ) → n < greatest → decimal n ≢ instance) × (¬ IsNoCall calls call) × IsCount instance
IsMisplaced calls greatest call instance _ = ⊥

-- the words of a step's form are no step because of what they name, or else for want of room
abbrev pub IsHistoryMisfit : List Field → ℕ → List ℕ → Words → HistoryRule → Type 0
IsHistoryMisfit fields calls widths ws Reference = HasStranger fields calls ws
IsHistoryMisfit fields calls widths ws Width = HasNoRoom fields widths ws × (¬ HasStranger fields calls ws)
IsHistoryMisfit fields calls widths ws _ = ⊥

-- The line was refused by the least of the rules that it breaks, behind whatever told lines where a header would be a stray one.
pub record IsLineRefusal (fields : List Field) (calls : ℕ) (widths line : List ℕ) (rule : HistoryRule) : Type 0 where
  pub behind : (before : Words) → (IsHeaderForm (words line) → IsStrayHeader before line) → IsLeastRule (Breaks fields calls before widths line) rule

-- so many lines tell nothing, and this one tells something, with these behind it
pub record IsNextTold (ls : Words) (passed : ℕ) (line : List ℕ) (more : Words) : Type 0 where
  pub silent : told_lines (take passed ls) ≡ []
  pub told : is_untold line ≡ false
  pub coming : drop passed ls ≡ line ∷ more

-- Behind so many lines, among which only a header may tell something, the steps begin with this width. Where there was no header, none comes first.
pub record IsBeginning (ls : Words) (width number : ℕ) (more : Words) : Type 0 where
  pub begun : IsFront (told_lines (take number ls)) width
  pub coming : drop number ls ≡ more
  pub headless : told_lines (take number ls) ≡ [] → (line : List ℕ) (others : Words) → told_lines ls ≡ line ∷ others → (h : HeaderOf) → ¬ IsOpening line h

-- the error of a text whose line of this number breaks a rule
abbrev pub bad_history_line : ℕ → HistoryRule → TextError
bad_history_line line rule = t.Bad line (history_rule_number rule)
