-- The words of the commands, and the files that they name.
use Rattle.std.specs.Prelude.{◌≡◌, ℕ, List, [], ◌∷◌, codes, Option, Some, None}
use Rattle.std.specs.Option.{option_copied, option_map}
use Rattle.std.specs.String.{string_bytes}
use Rattle.sdg_top.specs.declared.command.Command.{Command}
use Rattle.sdg_top.specs.declared.command.Command.TheVariants as command

abbrev pub Text : Type 0
Text = List ℕ

-- A command with a text for each of its files: the file's name, where the words are spoken of, or its content.
pub data Request : Type 0 where
  -- calls run on the graph of their class, under this schedule or the default one
  Run : (class calls : Text) (schedule : Option Text) → Request
  -- calls run one after the other, as plain Java
  Plain : (class calls : Text) → Request
  -- calls run along a history
  Replay : (class calls history : Text) → Request
  -- the graph of a class
  Graph : (class : Text) → Request

abbrev pub command_name : Request → Text
command_name (Run class calls schedule) = codes "run"
command_name (Plain class calls) = codes "plain"
command_name (Replay class calls history) = codes "replay"
command_name (Graph class) = codes "graph"

-- its texts, in the order of the words
abbrev pub texts_of : Request → List Text
texts_of (Run class calls None) = class ∷ calls ∷ []
texts_of (Run class calls (Some schedule)) = class ∷ calls ∷ schedule ∷ []
texts_of (Plain class calls) = class ∷ calls ∷ []
texts_of (Replay class calls history) = class ∷ calls ∷ history ∷ []
texts_of (Graph class) = class ∷ []

-- ---- words

-- the name of the command, and those of its files
abbrev pub words_of : Request → List Text
words_of names = command_name names ∷ texts_of names

-- the words ask for it
abbrev pub Ask : List Text → Request → Type 0
Ask words names = words ≡ words_of names

-- they are of no command
abbrev pub AskForNothing : List Text → Type 0
AskForNothing words = (names : Request) → Ask words names → ⊥

-- the names of a command's files
abbrev pub request_of : Command → Request
request_of (command.Run class calls schedule) = Run (string_bytes class.now) (string_bytes calls.now) (option_map string_bytes (option_copied schedule))
request_of (command.Plain class calls) = Plain (string_bytes class.now) (string_bytes calls.now)
request_of (command.Replay class calls history) = Replay (string_bytes class.now) (string_bytes calls.now) (string_bytes history.now)
request_of (command.Graph class) = Graph (string_bytes class.now)

-- ---- files

-- the most bytes of a class file
abbrev pub class_limit : ℕ
class_limit = 1048576

-- of each other file
abbrev pub other_limit : ℕ
other_limit = 16777216

-- the files in the order of the words, each with the most bytes that it may have
abbrev pub files_of : Request → List (Text × ℕ)
files_of (Run class calls None) = (class, class_limit) ∷ (calls, other_limit) ∷ []
files_of (Run class calls (Some schedule)) = (class, class_limit) ∷ (calls, other_limit) ∷ (schedule, other_limit) ∷ []
files_of (Plain class calls) = (class, class_limit) ∷ (calls, other_limit) ∷ []
files_of (Replay class calls history) = (class, class_limit) ∷ (calls, other_limit) ∷ (history, other_limit) ∷ []
files_of (Graph class) = (class, class_limit) ∷ []

-- The same command with as many files: one has their names, and the other what they hold.
pub data AreAlike : Request → Request → Type 0 where
  BothRun : (class calls class' calls' : Text) → AreAlike (Run class calls None) (Run class' calls' None)
  BothRunScheduled : (class calls schedule class' calls' schedule' : Text) → AreAlike (Run class calls (Some schedule)) (Run class' calls' (Some schedule'))
  BothPlain : (class calls class' calls' : Text) → AreAlike (Plain class calls) (Plain class' calls')
  BothReplay : (class calls history class' calls' history' : Text) → AreAlike (Replay class calls history) (Replay class' calls' history')
  BothGraph : (class class' : Text) → AreAlike (Graph class) (Graph class')
