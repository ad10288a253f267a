-- A text of a history: its header where it has one, its steps, and which rules a line can break.
use Rattle.std.specs.Prelude.{◌≡◌, ◌≢◌, ℕ, zero, suc, ◌+◌, ◌-◌, ◌<◌, ◌≤◌, ◌⊎◌, Bool, false, not, ◌||◌, List, [], ◌∷◌, ◌++◌, length, take, drop, replicate, Some, None, slice_get, slice_set, slice_index, codes, decimal, nat_eq, All, IsTrue, IsSomeAnd, if◌then◌else◌}
use Rattle.std.specs.List.{AllZip, filter, fold, starts_with}
use Rattle.sdg_base.specs.declared.call.Step.{Step as StepOf}
use Rattle.sdg_base.specs.declared.call.Step.TheVariants as step
use Rattle.placement.specs.declared.event.Header.{Header as HeaderOf}
use Rattle.run_text.specs.declared.told.History.{History}
use Rattle.run_text.specs.declared.field.Field.{Field}
use Rattle.run_text.specs.declared.error.TextError.{TextError}
use Rattle.run_text.specs.declared.error.TextError.TheVariants as t
use Rattle.run_text.specs.declared.error.HistoryRule.{HistoryRule}
use Rattle.run_text.specs.declared.error.HistoryRule.TheVariants.{Spelling, Header, Step, Reference, Width}
use Rattle.run_text.specs.Lines.{is_skipped, words, IsWellSpelled}
use Rattle.run_text.specs.Numbers.{IsNumber}
use Rattle.run_text.specs.Schedules.{Words, header_words, IsHeaderForm}

-- ---- lines

abbrev pub begins_with : List ℕ → List ℕ → Bool
begins_with front line = starts_with nat_eq line front

-- a line of a report that is neither its header nor a step
abbrev pub is_report_line : List ℕ → Bool
is_report_line line = begins_with (codes "event ") line || begins_with (codes "drain ") line || begins_with (codes "result ") line || begins_with (codes "unfinished ") line || begins_with (codes "end ") line

-- a line that tells no step: an empty one, a comment, or another line of a report
abbrev pub is_untold : List ℕ → Bool
is_untold line = is_skipped line || is_report_line line

-- the other lines, in their order
abbrev pub told_lines : Words → Words
told_lines ls = filter (λ l. not (is_untold l)) ls

-- the numbers of those lines, where the first of all lines has this number
abbrev pub told_numbers : ℕ → Words → List ℕ
told_numbers number [] = []
told_numbers number (line ∷ ls) = if is_untold line then told_numbers (suc number) ls else number ∷ told_numbers (suc number) ls

-- ---- the header

-- 1 to 32 nodes, 1 to 64 slots of each field, 1 to 8 stores, a width from 1 to 64
pub record IsRanged (h : HeaderOf) : Type 0 where
  pub some_nodes : 1 ≤ h.nodes
  pub most_nodes : h.nodes ≤ 32
  pub some_slots : 1 ≤ h.slots
  pub most_slots : h.slots ≤ 64
  pub some_stores : 1 ≤ h.stores
  pub most_stores : h.stores ≤ 8
  pub some_width : 1 ≤ h.width
  pub most_width : h.width ≤ 64

-- the line is this header
pub record IsOpening (line : List ℕ) (h : HeaderOf) : Type 0 where
  pub spelled : IsWellSpelled line
  pub range : IsRanged h
  pub words : words line ≡ header_words h

-- in front of the steps stands nothing, and then the width is 1, or a header of this width
abbrev pub IsFront : Words → ℕ → Type 0
IsFront [] width = width ≡ 1
IsFront (line ∷ []) width = (h : HeaderOf) × IsOpening line h × (h.width ≡ width)
IsFront _ width = ⊥

-- ---- widths, by the number of the field

abbrev pub width_of : List ℕ → ℕ → ℕ
width_of widths field = slice_index widths field

-- a growth gives its field one instance more
abbrev pub grown : List ℕ → StepOf → List ℕ
grown widths (step.Grow field) = slice_set widths field (width_of widths field + 1)
grown widths _ = widths

-- the widths behind these steps, where at the start each of so many fields has this width
abbrev pub widths_behind : ℕ → ℕ → List StepOf → List ℕ
widths_behind fields width steps = fold grown (replicate fields width) steps

-- ---- steps

-- a step's words: its kind, and one word or two
abbrev pub one_words : List ℕ → List ℕ → Words
one_words kind word = codes "step" ∷ kind ∷ word ∷ []

abbrev pub two_words : List ℕ → List ℕ → List ℕ → Words
two_words kind call instance = codes "step" ∷ kind ∷ call ∷ instance ∷ []

abbrev pub field_name : List Field → ℕ → List ℕ
field_name [] field = []
field_name (d ∷ fields) zero = d.name
field_name (d ∷ fields) (suc field) = field_name fields field

abbrev pub step_words : List Field → StepOf → Words
step_words fields (step.Begin call) = one_words (codes "begin") (decimal call)
step_words fields (step.Block call None) = one_words (codes "block") (decimal call)
step_words fields (step.Block call (Some instance)) = two_words (codes "block") (decimal call) (decimal instance)
step_words fields (step.Visit call instance) = two_words (codes "visit") (decimal call) (decimal instance)
step_words fields (step.Join call) = one_words (codes "join") (decimal call)
step_words fields (step.Grow field) = one_words (codes "grow") (field_name fields field)

-- calls count from 1
abbrev pub IsCallNumber : ℕ → ℕ → Type 0
IsCallNumber calls call = (1 ≤ call) × (call ≤ calls)

abbrev pub IsPartial : List Field → ℕ → Type 0
IsPartial fields field = IsSomeAnd (slice_get fields field) (λ d. IsTrue d.partial)

-- The partial field has this name, and is the first field of it: in a class no two have one name, and where two had, the first would count.
pub record IsNamedPartial (fields : List Field) (name : List ℕ) (field : ℕ) : Type 0 where
  pub partial : IsPartial fields field
  pub named : field_name fields field ≡ name
  pub first : All (λ other. other.name ≢ name) (take field fields)

-- a partial field has more instances than this number
abbrev pub IsBelowSome : List Field → List ℕ → ℕ → Type 0
IsBelowSome fields widths number = (field : ℕ) × IsPartial fields field × (number < width_of widths field)

-- the call of a step exists, its instance is one of 64 at most, and the field of a growth is partial
abbrev pub Fits : List Field → ℕ → StepOf → Type 0
Fits fields calls (step.Begin call) = IsCallNumber calls call
Fits fields calls (step.Block call None) = IsCallNumber calls call
Fits fields calls (step.Block call (Some instance)) = IsCallNumber calls call × (instance < 64)
Fits fields calls (step.Visit call instance) = IsCallNumber calls call × (instance < 64)
Fits fields calls (step.Join call) = IsCallNumber calls call
Fits fields calls (step.Grow field) = IsNamedPartial fields (field_name fields field) field

-- where the fields have these widths, an instance is below one of a partial field, and a growth ends at most at 64
abbrev pub HasRoom : List Field → List ℕ → StepOf → Type 0
HasRoom fields widths (step.Block call (Some instance)) = IsBelowSome fields widths instance
HasRoom fields widths (step.Visit call instance) = IsBelowSome fields widths instance
HasRoom fields widths (step.Grow field) = width_of widths field < 64
HasRoom fields widths _ = Unit {0}

-- each step has room where the steps before it lead
pub record HaveRoom (fields : List Field) (width : ℕ) (steps : List StepOf) : Type 0 where
  pub each : (place : ℕ) (s : StepOf) → slice_get steps place ≡ Some s → HasRoom fields (widths_behind (length fields) width (take place steps)) s

-- the line is this step
pub record IsStepLine (fields : List Field) (calls : ℕ) (line : List ℕ) (s : StepOf) : Type 0 where
  pub spelled : IsWellSpelled line
  pub fits : Fits fields calls s
  pub words : words line ≡ step_words fields s

-- ---- a history

-- The history of the lines: those that tell something are a header, where there is one, and the steps with their lines' numbers.
pub record IsHistory (fields : List Field) (calls : ℕ) (ls : Words) (history : History) : Type 0 where
  pub front : Words
  pub others : Words
  pub told : told_lines ls ≡ front ++ others
  pub begun : IsFront front history.width
  pub each : AllZip (IsStepLine fields calls) others history.steps
  pub room : HaveRoom fields history.width history.steps
  pub numbers : history.lines ≡ drop (length front) (told_numbers 1 ls)

-- ---- rules

-- the number of a rule in a report
abbrev pub history_rule_number : HistoryRule → ℕ
history_rule_number Spelling = 1
history_rule_number Header = 2
history_rule_number Step = 3
history_rule_number Reference = 4
history_rule_number Width = 5

-- a kind of step that has one word behind it, and one that has two
abbrev pub TakesOne : List ℕ → Type 0
TakesOne kind = (kind ≡ codes "begin") ⊎ (kind ≡ codes "block") ⊎ (kind ≡ codes "join") ⊎ (kind ≡ codes "grow")

abbrev pub TakesTwo : List ℕ → Type 0
TakesTwo kind = (kind ≡ codes "block") ⊎ (kind ≡ codes "visit")

-- a known step's word and as many words as it has
pub data IsStepForm (ws : Words) : Type 0 where
  OneForm : (kind word : List ℕ) → ws ≡ one_words kind word → TakesOne kind → IsStepForm ws
  TwoForm : (kind call instance : List ℕ) → ws ≡ two_words kind call instance → TakesTwo kind → IsStepForm ws

-- a number of any size that isn't negative
pub record IsCount (word : List ℕ) : Type 0 where
  pub number : IsNumber word
  pub plain : slice_index word 0 ≢ 45

-- no such call or partial field, or an instance that is no number
pub data HasStranger (fields : List Field) (calls : ℕ) (ws : Words) : Type 0 where
  StrangeCall : (kind call : List ℕ) (more : Words) → ws ≡ codes "step" ∷ kind ∷ call ∷ more → kind ≢ codes "grow" → ((n : ℕ) → IsCallNumber calls n → decimal n ≢ call) → HasStranger fields calls ws
  StrangeInstance : (kind call instance : List ℕ) → ws ≡ two_words kind call instance → ¬ IsCount instance → HasStranger fields calls ws
  StrangeField : (name : List ℕ) → ws ≡ one_words (codes "grow") name → ((field : ℕ) → ¬ IsNamedPartial fields name field) → HasStranger fields calls ws

-- an instance that no partial field has, or a growth past 64
pub data HasNoRoom (fields : List Field) (widths : List ℕ) (ws : Words) : Type 0 where
  NoInstance : (kind call instance : List ℕ) → ws ≡ two_words kind call instance → ((n : ℕ) → IsBelowSome fields widths n → decimal n ≢ instance) → HasNoRoom fields widths ws
  NoGrowth : (name : List ℕ) (field : ℕ) → ws ≡ one_words (codes "grow") name → IsNamedPartial fields name field → 64 ≤ width_of widths field → HasNoRoom fields widths ws

-- the nine words of a header, behind other lines or in no line of a header, as where a number is out of range
abbrev pub IsStrayHeader : Words → List ℕ → Type 0
IsStrayHeader [] line = IsHeaderForm (words line) × ((h : HeaderOf) → ¬ IsOpening line h)
IsStrayHeader (first ∷ others) line = IsHeaderForm (words line)

-- a line behind these told lines breaks a rule, where the fields have these widths
abbrev pub Breaks : List Field → ℕ → Words → List ℕ → List ℕ → HistoryRule → Type 0
Breaks fields calls before widths line Spelling = ¬ IsWellSpelled line
Breaks fields calls before widths line Header = IsStrayHeader before line
Breaks fields calls before widths line Step = (¬ IsHeaderForm (words line)) × (¬ IsStepForm (words line))
Breaks fields calls before widths line Reference = HasStranger fields calls (words line)
Breaks fields calls before widths line Width = HasNoRoom fields widths (words line)

-- The line at this place, from 0, breaks a rule, behind lines that have a history. Lines that tell nothing break none.
pub record BreaksAt (fields : List Field) (calls : ℕ) (ls : Words) (place : ℕ) (rule : HistoryRule) : Type 0 where
  pub line : List ℕ
  pub here : slice_get ls place ≡ Some line
  pub told : is_untold line ≡ false
  pub before : History
  pub is : IsHistory fields calls (take place ls) before
  pub broken : Breaks fields calls (told_lines (take place ls)) (widths_behind (length fields) before.width before.steps) line rule

-- The first line that breaks a rule has this number, from 1, and the least rule that it breaks has this number.
pub record IsFirstHistoryBreak (fields : List Field) (calls : ℕ) (ls : Words) (number rule : ℕ) : Type 0 where
  pub place : ℕ
  pub which : HistoryRule
  pub number_is : number ≡ place + 1
  pub rule_is : rule ≡ history_rule_number which
  pub broken : BreaksAt fields calls ls place which
  pub least : (other : HistoryRule) → history_rule_number other < rule → ¬ BreaksAt fields calls ls place other
  pub first : (earlier : ℕ) (other : HistoryRule) → earlier < place → ¬ BreaksAt fields calls ls earlier other

-- a text was refused by the first line that breaks a rule
abbrev pub IsHistoryRefusal : List Field → ℕ → Words → TextError → Type 0
IsHistoryRefusal fields calls ls t.Memory = Unit {0}
IsHistoryRefusal fields calls ls (t.Bad line rule) = IsFirstHistoryBreak fields calls ls line rule

-- the lines before a refused one have a history
abbrev pub HasHistoryBefore : List Field → ℕ → Words → TextError → Type 0
HasHistoryBefore fields calls ls t.Memory = Unit {0}
HasHistoryBefore fields calls ls (t.Bad line rule) = (before : History) × IsHistory fields calls (take (line - 1) ls) before
