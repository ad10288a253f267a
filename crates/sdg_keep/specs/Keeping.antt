-- What each call makes of stable storage.
use Rattle.std.specs.Prelude.{◌≡◌, ℕ, ◌==◌, List, [], ◌∷◌, ◌++◌, Option, Some, None, Result, Ok, Err, drop, if◌then◌else◌}
use Rattle.sdg_base.specs.declared.item.Line.{Line}
use Rattle.sdg_base.specs.declared.item.Note.{Note}
use Rattle.sdg_base.specs.declared.store.KeepError.{KeepError}
use Rattle.sdg_base.specs.declared.store.KeepError.TheVariants.{Failed, Memory}
use Rattle.sdg_keep.specs.Stable.{Kept, Stable, absent, put_to, put_in_vain, synced_now, same_name, same_line}
use Rattle.sdg_keep.specs.Writes.{Appends}

-- nothing changed
pub record Same (before now : Stable) : Type 0 where
  pub kept : (at : ℕ) (other : List ℕ) → now.kept at other ≡ before.kept at other
  pub notes : (other : Line) → now.notes other ≡ before.notes other

-- no store has a name, and every line is empty
pub record IsClear (now : Stable) : Type 0 where
  pub kept : (at : ℕ) (other : List ℕ) → now.kept at other ≡ absent
  pub notes : (other : Line) → now.notes other ≡ []

-- these bytes were put to the name, and nothing else changed
pub record Puts (store : ℕ) (name bytes : List ℕ) (before now : Stable) : Type 0 where
  pub kept : (at : ℕ) (other : List ℕ) → now.kept at other ≡ (if same_name store name at other then put_to bytes (before.kept at other) else before.kept at other)
  pub notes : (other : Line) → now.notes other ≡ before.notes other

-- these bytes count as put to the name, and nothing else changed
pub record PutsInVain (store : ℕ) (name bytes : List ℕ) (before now : Stable) : Type 0 where
  pub kept : (at : ℕ) (other : List ℕ) → now.kept at other ≡ (if same_name store name at other then put_in_vain bytes (before.kept at other) else before.kept at other)
  pub notes : (other : Line) → now.notes other ≡ before.notes other

-- A put that failed: a read gives the bytes that it gave, or the new ones.
pub data FailsPut (store : ℕ) (name bytes : List ℕ) (before now : Stable) : Type 0 where
  New : Puts store name bytes before now → FailsPut store name bytes before now
  Old : PutsInVain store name bytes before now → FailsPut store name bytes before now

-- a name is left as it was, or changed to this
pub data MayChange (before changed now : Kept) : Type 0 where
  Left : now ≡ before → MayChange before changed now
  Changed : now ≡ changed → MayChange before changed now

-- every name of the store is synced, and nothing else changed
pub record Syncs (store : ℕ) (before now : Stable) : Type 0 where
  pub kept : (at : ℕ) (other : List ℕ) → now.kept at other ≡ (if store == at then synced_now (before.kept at other) else before.kept at other)
  pub notes : (other : Line) → now.notes other ≡ before.notes other

-- A sync that failed: each name of the store is as it was or synced, and nothing else changed.
pub record FailsSync (store : ℕ) (before now : Stable) : Type 0 where
  pub kept : (at : ℕ) (other : List ℕ) → MayChange (before.kept at other) (if store == at then synced_now (before.kept at other) else before.kept at other) (now.kept at other)
  pub notes : (other : Line) → now.notes other ≡ before.notes other

-- the line has one more note at its end, and nothing else changed
pub record AddsNote (line : Line) (note : Note) (before now : Stable) : Type 0 where
  pub kept : (at : ℕ) (other : List ℕ) → now.kept at other ≡ before.kept at other
  pub notes : (other : Line) → now.notes other ≡ (if same_line line other then before.notes other ++ note ∷ [] else before.notes other)

-- an append that failed: the line is as it was, or with the note
pub data FailsAppend (line : Line) (note : Note) (before now : Stable) : Type 0 where
  Without : Same before now → FailsAppend line note before now
  With : AddsNote line note before now → FailsAppend line note before now

-- What each call makes of the storage, by its answer. Without memory nothing changed.

abbrev pub Clears : {T : Type 0} → Stable → Stable → Result T KeepError → Type 0
Clears before now (Ok _) = IsClear now
Clears before now (Err Failed) = Unit {0}
Clears before now (Err Memory) = Same before now

abbrev pub PutsName : {T : Type 0} → ℕ → List ℕ → List ℕ → Stable → Stable → Result T KeepError → Type 0
PutsName store name bytes before now (Ok _) = Puts store name bytes before now
PutsName store name bytes before now (Err Failed) = FailsPut store name bytes before now
PutsName store name bytes before now (Err Memory) = Same before now

abbrev pub SyncsStore : {T : Type 0} → ℕ → Stable → Stable → Result T KeepError → Type 0
SyncsStore store before now (Ok _) = Syncs store before now
SyncsStore store before now (Err Failed) = FailsSync store before now
SyncsStore store before now (Err Memory) = Same before now

abbrev pub AppendsNote : {T : Type 0} → Line → Note → Stable → Stable → Result T KeepError → Type 0
AppendsNote line note before now (Ok _) = AddsNote line note before now
AppendsNote line note before now (Err Failed) = FailsAppend line note before now
AppendsNote line note before now (Err Memory) = Same before now

abbrev pub GetsName : ℕ → List ℕ → Stable → Stable → Result (Option (List ℕ)) KeepError → Type 0
GetsName store name before now (Ok bytes) = Same before now × (bytes ≡ (before.kept store name).read)
GetsName store name before now (Err _) = Same before now

abbrev pub GetsNotes : Line → ℕ → Stable → Stable → Result (List Note) KeepError → Type 0
GetsNotes line from before now (Ok notes) = Same before now × (notes ≡ drop from (before.notes line))
GetsNotes line from before now (Err _) = Same before now

-- The storage went from one state to the other by this step, where it is told. Else it stays untold.
abbrev pub Turns : (Stable → Stable → Type 0) → Option Stable → Option Stable → Type 0
Turns step None now = now ≡ None
Turns step (Some before) None = ⊥
Turns step (Some before) (Some now) = step before now

-- a call is noted, where the calls are told, but for want of memory
abbrev pub NotesTold : {C T : Type 0} → Option (List C) → Option (List C) → C → Result T KeepError → Type 0
NotesTold before now call (Ok _) = Appends before now (call ∷ [])
NotesTold before now call (Err Failed) = Appends before now (call ∷ [])
NotesTold before now call (Err Memory) = now ≡ before

-- what a call gave, None where it failed
abbrev pub given : {T : Type 0} → Result T KeepError → Option T
given (Ok value) = Some value
given (Err _) = None
