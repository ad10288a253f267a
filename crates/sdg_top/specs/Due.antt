-- Which answer is due: a status, and the text that goes with it.
use Rattle.std.specs.Prelude.{◌≡◌, ◌≢◌, ℕ, ◌-◌, ◌^◌, ◌<◌, ◌≤◌, ◌⊎◌, List, [], ◌∷◌, ◌++◌, length, codes, Option, Some, None}
use Rattle.std.specs.Str.Lines.{lines}
use Rattle.sdg_base.specs.declared.call.Call.{Call}
use Rattle.java_tree.specs.declared.token.Place.{Place}
use Rattle.java_tree.specs.declared.tree.Class.{Class}
use Rattle.java_lexer.specs.Places.{first_place}
use Rattle.annotations.specs.Check.{first_partial}
use Rattle.access_blocks.specs.declared.body.Program.{Program}
use Rattle.plain_java.specs.Plain.{plain}
use Rattle.history_run.specs.declared.replayed.Replayed.{Replayed}
use Rattle.history_run.specs.Replays.{IsReplayed, IsRefusedLine}
use Rattle.early_forms.specs.declared.straight.StraightClass.{StraightClass}
use Rattle.early_forms.specs.Forms.{IsStraightForm}
use Rattle.early_forms.specs.Names.{IsProper}
use Rattle.early_forms.specs.Trees.{class_tree}
use Rattle.placement.specs.declared.event.Schedule.{Schedule as Events}
use Rattle.placement.specs.Defaults.{default_schedule}
use Rattle.run_text.specs.declared.field.Field.{Field}
use Rattle.run_text.specs.Calls.{AreCalls, IsFirstBreak}
use Rattle.run_text.specs.Schedules.{IsSchedule, IsFirstScheduleBreak}
use Rattle.sdg_keep.specs.Writes.{Appends}
use Rattle.sdg_keep.specs.Endings.{Ending, AllRead, Unreadable, TooLong, Told, Reads}
use Rattle.sdg_top.specs.declared.lines.InputText.TheVariants.{Calls, Schedule, History}
use Rattle.sdg_top.specs.declared.status.Status.{Status}
use Rattle.sdg_top.specs.declared.status.Status.TheVariants as status
use Rattle.sdg_top.specs.Commands.{Text, Request, Run, Plain, Replay, Graph, Ask, AskForNothing, AreAlike, files_of, texts_of, other_limit}
use Rattle.sdg_top.specs.Entrances.{entrances_of, fields_of}
use Rattle.sdg_top.specs.Answers.{usage_line, class_refused_line, text_refused_line, unreadable_line, too_long_line}
use Rattle.sdg_top.specs.Accepted.{IsClassText, IsAccepted, Accepts, IsRefused, typed_of, program_of, IsReport}
use Rattle.sdg_top.specs.Replies.{plain_text, replay_text}
use Rattle.sdg_top.specs.Graphs.{IsGraphText}

-- a third file's text within the limit, if there is one
abbrev pub IsShort : Option Text → Type 0
IsShort None = Unit {0}
IsShort (Some text) = length text ≤ other_limit

-- ---- `run`: what the texts of a class of the form, of calls and of a schedule are due

-- no schedule is the default one
pub data DueForSchedule (class : StraightClass) (calls : List Call) : Option Text → Status → Text → Type 0 where
  -- the first line of the schedule that breaks a rule, with the least rule that it breaks
  RefusesSchedule : (text : Text) (line rule : ℕ) → IsFirstScheduleBreak class.fields (lines text) line rule → DueForSchedule class calls (Some text) status.Text (text_refused_line Schedule line rule)
  ReportedSchedule : (text : Text) (schedule : Events) (report : Text) → IsSchedule class.fields (lines text) schedule → IsReport class calls schedule report → DueForSchedule class calls (Some text) status.Done report
  ReportedDefault : (report : Text) → IsReport class calls default_schedule report → DueForSchedule class calls None status.Done report

pub data DueForRun (class : StraightClass) (calls_text : Text) (schedule_text : Option Text) : Status → Text → Type 0 where
  -- the first line of the calls that breaks a rule, with the least rule that it breaks
  RefusesCalls : (line rule : ℕ) → IsFirstBreak (entrances_of (class_tree class)) (lines calls_text) line rule → DueForRun class calls_text schedule_text status.Text (text_refused_line Calls line rule)
  TakesCalls : (calls : List Call) (answer : Status) (text : Text) → AreCalls (entrances_of (class_tree class)) (lines calls_text) calls → DueForSchedule class calls schedule_text answer text
      → DueForRun class calls_text schedule_text answer text

-- ---- `plain`: what the texts of an accepted class without partial fields and of calls are due

pub data DueForPlain (class : Class) (calls_text : Text) : Status → Text → Type 0 where
  RefusesPlainCalls : (line rule : ℕ) → IsFirstBreak (entrances_of class) (lines calls_text) line rule → DueForPlain class calls_text status.Text (text_refused_line Calls line rule)
  -- each call ends as plain Java has it
  RunsPlain : (calls : List Call) → AreCalls (entrances_of class) (lines calls_text) calls → DueForPlain class calls_text status.Done (plain_text (plain (program_of class) calls))

-- ---- `replay`: what the texts of an accepted class, of calls and of a history are due

pub data DueForHistory (program : Program) (calls : List Call) (fields : List Field) (history_text : Text) : Status → Text → Type 0 where
  -- the first line that breaks a rule of its text, or whose step is not its call's next
  RefusesHistory : (line rule : ℕ) → IsRefusedLine program calls fields (lines history_text) line rule → DueForHistory program calls fields history_text status.Text (text_refused_line History line rule)
  -- each call that ends does so as the annotated source has it, stepped along the history
  RunsHistory : (replayed : Replayed) → IsReplayed program calls fields (lines history_text) replayed → DueForHistory program calls fields history_text status.Done (replay_text replayed.results replayed.steps)

pub data DueForReplay (class : Class) (calls_text history_text : Text) : Status → Text → Type 0 where
  RefusesReplayCalls : (line rule : ℕ) → IsFirstBreak (entrances_of class) (lines calls_text) line rule → DueForReplay class calls_text history_text status.Text (text_refused_line Calls line rule)
  TakesReplayCalls : (calls : List Call) (answer : Status) (text : Text) → AreCalls (entrances_of class) (lines calls_text) calls → DueForHistory (program_of class) calls (fields_of class) history_text answer text
      → DueForReplay class calls_text history_text answer text

-- ---- what the texts are due

-- the text of the class
abbrev pub class_text_of : Request → Text
class_text_of (Run class_text calls_text schedule_text) = class_text
class_text_of (Plain class_text calls_text) = class_text
class_text_of (Replay class_text calls_text history_text) = class_text
class_text_of (Graph class_text) = class_text

pub data DueForTexts : Request → Status → Text → Type 0 where
  -- the class is refused by this phase at this place
  RefusesClass : (texts : Request) (phase : Text) (at : Place) → IsRefused (class_text_of texts) phase at
      → DueForTexts texts status.Class (class_refused_line phase at.line at.column)
  -- it is accepted, but not of the form that runs
  RefusesForm : (class_text calls_text : Text) (schedule_text : Option Text) (class : Class) → Accepts class_text class → (IsStraightForm class → ⊥)
      → DueForTexts (Run class_text calls_text schedule_text) status.Class (class_refused_line (codes "form") first_place.line first_place.column)
  RunsForm : (class_text calls_text : Text) (schedule_text : Option Text) (class : StraightClass) (answer : Status) (text : Text) → Accepts class_text (class_tree class) → IsProper class → DueForRun class calls_text schedule_text answer text
      → DueForTexts (Run class_text calls_text schedule_text) answer text
  -- it is accepted, and the first partial field begins at this place
  RefusesPartial : (class_text calls_text : Text) (class : Class) (at : Place) → Accepts class_text class → first_partial (typed_of class) ≡ Some at
      → DueForTexts (Plain class_text calls_text) status.Class (class_refused_line (codes "plain") at.line at.column)
  RunsWhole : (class_text calls_text : Text) (class : Class) (answer : Status) (text : Text) → Accepts class_text class → first_partial (typed_of class) ≡ None → DueForPlain class calls_text answer text
      → DueForTexts (Plain class_text calls_text) answer text
  RunsAlong : (class_text calls_text history_text : Text) (class : Class) (answer : Status) (text : Text) → Accepts class_text class → DueForReplay class calls_text history_text answer text
      → DueForTexts (Replay class_text calls_text history_text) answer text
  ShowsGraph : (class_text : Text) (class : Class) (text : Text) → Accepts class_text class → IsGraphText class text → DueForTexts (Graph class_text) status.Done text

-- ---- which files words name

-- the files for which the words ask, none where they are of no command
pub data AskFor (words : List Text) : List (Text × ℕ) → Type 0 where
  RequestAsks : (names : Request) → Ask words names → AskFor words (files_of names)
  NoneAsks : AskForNothing words → AskFor words []

-- the files for which the words ask were read in their order up to some end, and no others
abbrev pub ReadsAsked : List Text → Told → Type 0
ReadsAsked words files = (asked : List (Text × ℕ)) × (ending : Ending) × AskFor words asked × Reads files asked ending

-- ---- what words are due, over files that may fail

pub data Due (words : List Text) (files : Told) : Status → Text → Type 0 where
  -- the words are of no command
  NoCommand : AskForNothing words → Reads files [] (AllRead []) → Due words files status.Words usage_line
  -- a read of a file failed, once those before it were read
  UnreadableFile : (asked : List (Text × ℕ)) (name : Text) → AskFor words asked → Reads files asked (Unreadable name) → Due words files status.Read (unreadable_line name)
  -- a file gave more bytes than its limit, once those before it were read
  LongFile : (asked : List (Text × ℕ)) (name : Text) → AskFor words asked → Reads files asked (TooLong name) → Due words files status.TooLong (too_long_line name)
  -- every file was read to its end
  RequestAnswers : (names texts : Request) (text : Text) (answer : Status) → Ask words names → AreAlike names texts → Reads files (files_of names) (AllRead (texts_of texts)) → DueForTexts texts answer text
      → Due words files answer text

-- ---- what is written

-- an answer other than a fault of the sink or want of memory
abbrev pub IsAnswer : Status → Type 0
IsAnswer s = (s ≢ status.Write) × (s ≢ status.Memory)

-- what a fault of the sink or want of memory cuts short: nothing was written, or a prefix of a text that was due
abbrev pub WritesPrefix : List Text → Told → Option Text → Option Text → Type 0
WritesPrefix words files before after =
    Appends before after []
    ⊎ ((answer : Status) × (text front rest : Text) × Due words files answer text × (text ≡ front ++ rest) × Appends before after front)

-- ---- valid input

-- no schedule, or one of this class
abbrev pub IsValidSchedule : StraightClass → Option Text → Type 0
IsValidSchedule class None = Unit {0}
IsValidSchedule class (Some text) = (schedule : Events) × IsSchedule class.fields (lines text) schedule

-- the text of an accepted class of the form, of calls of it, and of a schedule, if there is one
pub record AreValidForRun (class_text calls_text : Text) (schedule_text : Option Text) : Type 0 where
  pub class : StraightClass
  pub is_class : IsClassText class_text (class_tree class)
  pub proper : IsProper class
  pub accepted : IsAccepted (class_tree class)
  pub calls : List Call
  pub are_calls : AreCalls (entrances_of (class_tree class)) (lines calls_text) calls
  pub schedule : IsValidSchedule class schedule_text

-- the text of an accepted class without partial fields, and of calls of it
pub record AreValidForPlain (class_text calls_text : Text) : Type 0 where
  pub class : Class
  pub is_class : IsClassText class_text class
  pub accepted : IsAccepted class
  pub whole : first_partial (typed_of class) ≡ None
  pub calls : List Call
  pub are_calls : AreCalls (entrances_of class) (lines calls_text) calls

-- the text of an accepted class, of calls of it, and of a history in which each step is its call's next
pub record AreValidForReplay (class_text calls_text history_text : Text) : Type 0 where
  pub class : Class
  pub is_class : IsClassText class_text class
  pub accepted : IsAccepted class
  pub calls : List Call
  pub are_calls : AreCalls (entrances_of class) (lines calls_text) calls
  pub replayed : Replayed
  pub is_replayed : IsReplayed (program_of class) calls (fields_of class) (lines history_text) replayed

-- the text of an accepted class
pub record AreValidForGraph (class_text : Text) : Type 0 where
  pub class : Class
  pub is_class : IsClassText class_text class
  pub accepted : IsAccepted class

abbrev pub AreValid : Request → Type 0
AreValid (Run class_text calls_text schedule_text) = AreValidForRun class_text calls_text schedule_text
AreValid (Plain class_text calls_text) = AreValidForPlain class_text calls_text
AreValid (Replay class_text calls_text history_text) = AreValidForReplay class_text calls_text history_text
AreValid (Graph class_text) = AreValidForGraph class_text

-- the contents of the files are told, within their limits
abbrev pub AreTold : (Text → Option Text) → List (Text × ℕ) → List Text → Type 0
AreTold content [] [] = Unit {0}
AreTold content (file ∷ files) (text ∷ texts) = (content file.0 ≡ Some text) × (length text ≤ file.1) × AreTold content files texts
AreTold content _ _ = ⊥

-- the words are a command whose texts are in order, and the files tell their contents
pub record IsValid (words : List Text) (content : Text → Option Text) : Type 0 where
  pub names : Request
  pub texts : Request
  pub asked : Ask words names
  pub alike : AreAlike names texts
  pub told : AreTold content (files_of names) (texts_of texts)
  pub in_order : AreValid texts

-- no fault rose: the count stands where it stood, below its end
pub record NoFault (before after : ℕ) : Type 0 where
  pub stays : after ≡ before
  pub below_end : before < 2 ^ 64 - 1
