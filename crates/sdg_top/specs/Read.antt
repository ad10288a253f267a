-- What reading the files of a command gives: their texts, or the answer that says why there are none.
use Rattle.std.specs.Prelude.{◌≡◌, ◌≤◌, List, length}
use Rattle.std.specs.List.{AllByRecursion}
use Rattle.sdg_keep.specs.Endings.{Ending, Unreadable, TooLong}
use Rattle.sdg_top.specs.declared.status.Status.TheVariants as status
use Rattle.sdg_top.specs.declared.answer.Answer.{Answer}
use Rattle.sdg_top.specs.Answers.{unreadable_line, too_long_line}
use Rattle.sdg_top.specs.Commands.{Text, Request, AreAlike, files_of, texts_of}

-- the answer that says why files were not all read
pub data SaysWhy (a : Answer) : Ending → Type 0 where
  NoRead : (name : Text) → a.status ≡ status.Read → a.text ≡ unreadable_line name → SaysWhy a (Unreadable name)
  NoRoom : (name : Text) → a.status ≡ status.TooLong → a.text ≡ too_long_line name → SaysWhy a (TooLong name)

-- each text of a command is within the limit of its file
abbrev pub AreSmall : Request → Type 0
AreSmall texts = AllByRecursion (λ file. length file.0 ≤ file.1) (files_of texts)

-- the texts of the files of a command, each within its limit
pub record AreTexts (names : Request) (texts : List Text) : Type 0 where
  pub of : Request
  pub alike : AreAlike names of
  pub are : texts ≡ texts_of of
  pub small : AreSmall of
