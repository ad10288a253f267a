-- Which reads of files were made, in their order, and what they amount to.
use Rattle.std.specs.Prelude.{◌≡◌, ℕ, ◌+◌, ◌<◌, ◌≤◌, List, [], ◌∷◌, ◌++◌, length, Option, Some, None, Result, Ok, Err}
use Rattle.sdg_base.specs.declared.store.KeepError.{KeepError}
use Rattle.sdg_base.specs.declared.store.KeepError.TheVariants as keep
use Rattle.sdg_keep.specs.declared.read_call.ReadCall.{ReadCall}
use Rattle.sdg_keep.specs.declared.whole.ReadError.{ReadError}
use Rattle.sdg_keep.specs.declared.whole.ReadError.TheVariants.{Failed, TooLong, Memory}
use Rattle.sdg_keep.specs.Writes.{Appends}

-- a read is noted with what it gave, but for want of memory
abbrev pub NotesRead : Option (List ReadCall) → Option (List ReadCall) → List ℕ → ℕ → ℕ → Result ℕ KeepError → Type 0
NotesRead before now name from room (Ok n) = Appends before now (record { name = name; from = from; room = room; gave = Some n } ∷ [])
NotesRead before now name from room (Err keep.Failed) = Appends before now (record { name = name; from = from; room = room; gave = None } ∷ [])
NotesRead before now name from room (Err keep.Memory) = now ≡ before

-- a read of the file from a byte on, which asks for at most one byte above the limit
pub record BeginsAt (name : List ℕ) (limit at : ℕ) (call : ReadCall) : Type 0 where
  pub of_file : call.name ≡ name
  pub from : call.from ≡ at
  pub within : call.from + call.room ≤ limit + 1

-- Reads of the file from one byte up to another. Each begins where the one before it ended, and gave some bytes.
pub data GoesOn (name : List ℕ) (limit : ℕ) : ℕ → List ReadCall → ℕ → Type 0 where
  Stands : (at : ℕ) → GoesOn name limit at [] at
  Gives : (at n upto : ℕ) (call : ReadCall) (calls : List ReadCall) → BeginsAt name limit at call → call.gave ≡ Some n → 0 < n → n ≤ call.room → GoesOn name limit (at + n) calls upto → GoesOn name limit at (call ∷ calls) upto

-- Reads of the file from its start, of which the last one began at this byte and gave so many, None where it failed.
pub record EndsAt (name : List ℕ) (limit : ℕ) (calls : List ReadCall) (at : ℕ) (count : Option ℕ) : Type 0 where
  pub before : List ReadCall
  pub last : ReadCall
  pub are : calls ≡ before ++ last ∷ []
  pub goes_on : GoesOn name limit 0 before at
  pub begins : BeginsAt name limit at last
  pub gave : last.gave ≡ count

-- The reads of a file that was read whole: its last one gave no byte, behind all of its bytes. Where a read failed it is the last one. A file that is too long gave one byte above the limit.
abbrev pub ReadsFile : List ℕ → ℕ → List ReadCall → Result (List ℕ) ReadError → Type 0
ReadsFile name limit calls (Ok text) = EndsAt name limit calls (length text) (Some 0)
ReadsFile name limit calls (Err Failed) = (at : ℕ) × EndsAt name limit calls at None
ReadsFile name limit calls (Err TooLong) = GoesOn name limit 0 calls (limit + 1)
ReadsFile name limit calls (Err Memory) = (at : ℕ) × GoesOn name limit 0 calls at

-- the same of the reads from one moment to another
abbrev pub ReadsWhole : Option (List ReadCall) → Option (List ReadCall) → List ℕ → ℕ → Result (List ℕ) ReadError → Type 0
ReadsWhole before now name limit result = (calls : List ReadCall) × Appends before now calls × ReadsFile name limit calls result

-- the reads from one moment to another bring a file from its start up to this byte
abbrev pub ReadsUpTo : Option (List ReadCall) → Option (List ReadCall) → List ℕ → ℕ → ℕ → Type 0
ReadsUpTo before now name limit at = (calls : List ReadCall) × Appends before now calls × GoesOn name limit 0 calls at

-- One read from this byte on, if there was memory for it; where there was none for its bytes it gave some.
abbrev pub ReadsOn : Option (List ReadCall) → Option (List ReadCall) → List ℕ → ℕ → ℕ → Result ℕ KeepError → Type 0
ReadsOn before now name limit at (Ok n) = (call : ReadCall) × Appends before now (call ∷ []) × BeginsAt name limit at call × (call.gave ≡ Some n) × (n ≤ call.room)
ReadsOn before now name limit at (Err keep.Failed) = (call : ReadCall) × Appends before now (call ∷ []) × BeginsAt name limit at call × (call.gave ≡ None)
ReadsOn before now name limit at (Err keep.Memory) = (calls : List ReadCall) × (upto : ℕ) × Appends before now calls × GoesOn name limit at calls upto
