-- What a keep in memory holds: the changes of its stores and lines so far, in their order.
use Rattle.std.specs.Prelude.{◌≡◌, ℕ, Bool, true, ◌==◌, List, [], ◌∷◌, ◌++◌, Option, Some, None, Result, Ok, Err, if◌then◌else◌, unwrap_or}
use Rattle.sdg_base.specs.declared.item.Line.{Line}
use Rattle.sdg_base.specs.declared.item.Note.{Note}
use Rattle.sdg_base.specs.declared.store.KeepError.{KeepError}
use Rattle.sdg_base.specs.declared.store.KeepError.TheVariants.{Failed, Memory}
use Rattle.sdg_keep.specs.declared.change.Change.{Change}
use Rattle.sdg_keep.specs.declared.change.Change.TheVariants as change
use Rattle.sdg_keep.specs.Stable.{Kept, Stable, absent, put_to, put_in_vain, synced_now, same_name, same_line}

-- what a store has of a name after a change
abbrev pub kept_by : Change → ℕ → List ℕ → Kept → Kept
kept_by change.Clear at other kept = absent
kept_by (change.Put store name bytes took) at other kept = if same_name store name at other then (if took then put_to bytes kept else put_in_vain bytes kept) else kept
kept_by (change.Sync store) at other kept = if store == at then synced_now kept else kept
kept_by (change.Append line note) at other kept = kept

-- the same after changes, the earliest first
abbrev pub kept_after : Kept → List Change → ℕ → List ℕ → Kept
kept_after kept [] at other = kept
kept_after kept (change ∷ changes) at other = kept_after (kept_by change at other kept) changes at other

-- what a read of a name gives after a change
abbrev pub read_by : Change → ℕ → List ℕ → Option (List ℕ) → Option (List ℕ)
read_by change.Clear at other read = None
read_by (change.Put store name bytes took) at other read = if same_name store name at other then (if took then Some bytes else read) else read
read_by (change.Sync store) at other read = read
read_by (change.Append line note) at other read = read

-- the same after changes
abbrev pub read_after : Option (List ℕ) → List Change → ℕ → List ℕ → Option (List ℕ)
read_after read [] at other = read
read_after read (change ∷ changes) at other = read_after (read_by change at other read) changes at other

-- the notes of a line after a change
abbrev pub notes_by : Change → Line → List Note → List Note
notes_by change.Clear other notes = []
notes_by (change.Put store name bytes took) other notes = notes
notes_by (change.Sync store) other notes = notes
notes_by (change.Append line note) other notes = if same_line line other then notes ++ note ∷ [] else notes

-- the same after changes
abbrev pub notes_after : List Note → List Change → Line → List Note
notes_after notes [] other = notes
notes_after notes (change ∷ changes) other = notes_after (notes_by change other notes) changes other

-- what stores and lines hold that were empty before these changes
abbrev pub stored : List Change → Stable
stored changes = record { kept = λ at other. kept_after absent changes at other; notes = λ other. notes_after [] changes other }

-- a call takes effect where it is not to fail, or to fail with effect
abbrev pub takes_effect : Option Bool → Bool
takes_effect fail = unwrap_or fail true

-- the change is made where it takes effect, but for want of memory
abbrev pub Makes : {T : Type 0} → List Change → List Change → Bool → Change → Result T KeepError → Type 0
Makes before now took change (Ok _) = now ≡ (if took then before ++ change ∷ [] else before)
Makes before now took change (Err Failed) = now ≡ (if took then before ++ change ∷ [] else before)
Makes before now took change (Err Memory) = now ≡ before
