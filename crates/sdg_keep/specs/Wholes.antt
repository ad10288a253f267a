-- what a file read whole gives
use Rattle.std.specs.Prelude.{◌≡◌, ℕ, ◌≤◌, List, length, take, Option, None, Some, Result, Ok, Err}
use Rattle.sdg_base.specs.declared.store.KeepError.{KeepError}
use Rattle.sdg_base.specs.declared.store.KeepError.TheVariants as keep
use Rattle.sdg_keep.specs.declared.whole.ReadError.{ReadError}
use Rattle.sdg_keep.specs.declared.whole.ReadError.TheVariants.{Failed, TooLong, Memory}

-- an answer as that of one read: a file that is too long is no fault
abbrev pub fault_of : {T : Type 0} → Result T ReadError → Result (Unit {0}) KeepError
fault_of (Ok _) = Ok tt
fault_of (Err Failed) = Err keep.Failed
fault_of (Err TooLong) = Ok tt
fault_of (Err Memory) = Err keep.Memory

-- the bytes are the first ones of the file, where it is told
abbrev pub IsPrefixOf : Option (List ℕ) → List ℕ → Type 0
IsPrefixOf None bytes = Unit {0}
IsPrefixOf (Some file) bytes = (length bytes ≤ length file) × (bytes ≡ take (length bytes) file)

-- why a file was not read whole where a read of it gave this fault
abbrev pub read_error_of : KeepError → ReadError
read_error_of keep.Failed = Failed
read_error_of keep.Memory = Memory
