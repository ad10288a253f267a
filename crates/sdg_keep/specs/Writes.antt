-- what a write adds to the bytes written
use Rattle.std.specs.Prelude.{◌≡◌, ℕ, ◌≤◌, List, ◌++◌, length, take, Option, Some, None, Result, Ok, Err}
use Rattle.sdg_base.specs.declared.store.KeepError.{KeepError}
use Rattle.sdg_base.specs.declared.store.KeepError.TheVariants.{Failed, Memory}

-- the items are added at the end of a list, where that is told; else it stays untold
abbrev pub Appends : {T : Type 0} → Option (List T) → Option (List T) → List T → Type 0
Appends None now items = now ≡ None
Appends (Some before) now items = now ≡ Some (before ++ items)

-- some first bytes of the piece are added
abbrev pub AppendsPrefix : Option (List ℕ) → Option (List ℕ) → List ℕ → Type 0
AppendsPrefix before now piece = (n : ℕ) × (n ≤ length piece) × Appends before now (take n piece)

-- a write that failed may have taken some first bytes, one without memory took none
abbrev pub TakesOnFault : {T : Type 0} → Option (List ℕ) → Option (List ℕ) → List ℕ → Result T KeepError → Type 0
TakesOnFault before now piece (Ok _) = Unit {0}
TakesOnFault before now piece (Err Failed) = AppendsPrefix before now piece
TakesOnFault before now piece (Err Memory) = now ≡ before

-- what a write of a whole leaves: all its bytes, and after an error some first bytes of them
abbrev pub WritesWhole : Option (List ℕ) → Option (List ℕ) → List ℕ → Result (Unit {0}) KeepError → Type 0
WritesWhole before now bytes (Ok _) = Appends before now bytes
WritesWhole before now bytes (Err _) = AppendsPrefix before now bytes
