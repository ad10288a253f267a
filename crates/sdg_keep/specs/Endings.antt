-- How files are read one after the other.
use Rattle.std.specs.Prelude.{◌≡◌, ℕ, ◌+◌, ◌<◌, ◌≤◌, List, [], ◌∷◌, ◌++◌, length, Option, Some, None, Result, Ok, Err, IfSome}
use Rattle.std.specs.String.{string_bytes}
use Rattle.sdg_keep.specs.declared.read_call.ReadCall.{ReadCall}
use Rattle.sdg_keep.specs.declared.asked.Asked.{Asked}
use Rattle.sdg_keep.specs.declared.asked.FilesError.{FilesError}
use Rattle.sdg_keep.specs.declared.asked.FilesError.TheVariants as files_error
use Rattle.sdg_keep.specs.declared.whole.ReadError.{ReadError}
use Rattle.sdg_keep.specs.declared.whole.ReadError.TheVariants as read_error
use Rattle.sdg_keep.specs.Faults.{Rises}
use Rattle.sdg_keep.specs.Writes.{Appends}
use Rattle.sdg_keep.specs.Readings.{GoesOn, EndsAt}

abbrev pub Text : Type 0
Text = List ℕ

-- How it ended: each file was read to its end, and these are the texts; a read of this file failed; this file is too long; or there was no memory to go on.
pub data Ending : Type 0 where
  AllRead : List Text → Ending
  Unreadable : Text → Ending
  TooLong : Text → Ending
  CutShort : Ending

abbrev pub ending_of : Result (List Text) FilesError → Ending
ending_of (Ok texts) = AllRead texts
ending_of (Err (files_error.Failed name)) = Unreadable (string_bytes name)
ending_of (Err (files_error.TooLong name)) = TooLong (string_bytes name)
ending_of (Err files_error.Memory) = CutShort

-- how it ended at a file of this name that was not read
abbrev pub ending_at : ReadError → Text → Ending
ending_at read_error.Failed name = Unreadable name
ending_at read_error.TooLong name = TooLong name
ending_at read_error.Memory name = CutShort

-- a file by its name, and the most bytes that it may have
abbrev pub file_asked : Asked → Text × ℕ
file_asked asked = (string_bytes asked.name, asked.limit)

-- This text was read of a file: it is within the limit, and it is the content, where that is told.
pub record WasRead (content : Option Text) (limit : ℕ) (text : Text) : Type 0 where
  pub within : length text ≤ limit
  pub whole : IfSome content (λ file. text ≡ file)

-- the file has more bytes than the limit, where its content is told
abbrev pub IsLong : Option Text → ℕ → Type 0
IsLong content limit = IfSome content (λ file. limit < length file)

-- By these reads the files were read in their order, each from its start to its end, and these are their texts.
pub data AreRead (content : Text → Option Text) : List (Text × ℕ) → List ReadCall → List Text → Type 0 where
  Nothing : AreRead content [] [] []
  First : (name : Text) (limit : ℕ) (text : Text) (mine rest calls : List ReadCall) (files : List (Text × ℕ)) (texts : List Text) → calls ≡ mine ++ rest → EndsAt name limit mine (length text) (Some 0) → WasRead (content name) limit text → AreRead content files rest texts
      → AreRead content ((name, limit) ∷ files) calls (text ∷ texts)

-- By these reads the files before this one were read to their ends, and then this one was read.
pub record ComesTo (content : Text → Option Text) (files : List (Text × ℕ)) (calls : List ReadCall) (name : Text) (limit : ℕ) (mine : List ReadCall) : Type 0 where
  pub before : List (Text × ℕ)
  pub after : List (Text × ℕ)
  pub are : files ≡ before ++ (name, limit) ∷ after
  pub earlier : List ReadCall
  pub calls_are : calls ≡ earlier ++ mine
  pub texts : List Text
  pub read : AreRead content before earlier texts

-- What the reads are by which files were read, each with at most so many bytes and one above: in the order of the files, the next one once the one before it was read to its end.
pub data ReadsOf (content : Text → Option Text) (files : List (Text × ℕ)) (calls : List ReadCall) : Ending → Type 0 where
  Whole : (texts : List Text) → AreRead content files calls texts → ReadsOf content files calls (AllRead texts)
  -- the last read is the one that failed
  Fails : (name : Text) (limit at : ℕ) (mine : List ReadCall) → ComesTo content files calls name limit mine → EndsAt name limit mine at None → ReadsOf content files calls (Unreadable name)
  -- one byte above the limit was given
  Exceeds : (name : Text) (limit : ℕ) (mine : List ReadCall) → ComesTo content files calls name limit mine → GoesOn name limit 0 mine (limit + 1) → IsLong (content name) limit → ReadsOf content files calls (TooLong name)
  -- in the midst of a file, or between two
  Within : (name : Text) (limit at : ℕ) (mine : List ReadCall) → ComesTo content files calls name limit mine → GoesOn name limit 0 mine at → ReadsOf content files calls CutShort
  Between : (before after : List (Text × ℕ)) (texts : List Text) → files ≡ before ++ after → AreRead content before calls texts → ReadsOf content files calls CutShort

-- What files told from one moment to another: each content, where it is told, the counts of faults, and the reads, where they are told.
pub record Told : Type 0 where
  pub content : Text → Option Text
  pub faults_before : ℕ
  pub faults_after : ℕ
  pub reads_before : Option (List ReadCall)
  pub reads_after : Option (List ReadCall)

abbrev pub told : {F : Type 0} → (F → Text → Option Text) → (F → ℕ) → (F → Option (List ReadCall)) → F → F → Told
told content faults reads old new = record { content = content old; faults_before = faults old; faults_after = faults new; reads_before = reads old; reads_after = reads new }

-- the faults rose where a file could not be read, and else there was none
abbrev pub HasFaults : ℕ → ℕ → Ending → Type 0
HasFaults before after (Unreadable name) = Rises before after
HasFaults before after (AllRead texts) = after ≡ before
HasFaults before after (TooLong name) = after ≡ before
HasFaults before after CutShort = after ≡ before

-- These files, and no others, were read from one moment to another, in their order.
pub record Reads (files : Told) (asked : List (Text × ℕ)) (ending : Ending) : Type 0 where
  pub calls : List ReadCall
  pub made : Appends files.reads_before files.reads_after calls
  pub are : ReadsOf files.content asked calls ending
  pub faults : HasFaults files.faults_before files.faults_after ending
