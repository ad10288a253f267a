-- laws on what a keep in memory holds after its changes
use Rattle.std.proofs.Common.{◌≡◌, ℕ, Bool, true, false, ◌==◌, List, [], ◌∷◌, ◌++◌, Option, Some, None, Result, Ok, Err, is_some, IfOk, refl, sym, ap, ◌∙◌, if◌then◌else◌}
use Rattle.sdg_base.specs.declared.item.Line.{Line}
use Rattle.sdg_base.specs.declared.item.Note.{Note}
use Rattle.sdg_base.specs.declared.store.KeepError.{KeepError}
use Rattle.sdg_base.specs.declared.store.KeepError.TheVariants.{Failed, Memory}
use Rattle.sdg_keep.specs.declared.change.Change.{Change}
use Rattle.sdg_keep.specs.declared.change.Change.TheVariants as change
use Rattle.sdg_keep.specs.Failing.{FailsExactly}
use Rattle.sdg_keep.specs.Stable.{Kept, absent, put_to, put_in_vain, synced_now, same_name}
use Rattle.sdg_keep.specs.Keeping.{Same, New, Old, Left, Changed, Without, With, Clears, PutsName, SyncsStore, AppendsNote, GetsName}
use Rattle.sdg_keep.specs.Stored.{kept_by, kept_after, read_by, read_after, notes_by, notes_after, stored, takes_effect, Makes}

-- one more change at the end
pub kept_after-snoc : (kept : Kept) (changes : List Change) (last : Change) (at : ℕ) (other : List ℕ) → kept_after kept (changes ++ last ∷ []) at other ≡ kept_by last at other (kept_after kept changes at other)
kept_after-snoc kept [] last at other = refl
kept_after-snoc kept (first ∷ rest) last at other = kept_after-snoc (kept_by first at other kept) rest last at other

pub notes_after-snoc : (notes : List Note) (changes : List Change) (last : Change) (other : Line) → notes_after notes (changes ++ last ∷ []) other ≡ notes_by last other (notes_after notes changes other)
notes_after-snoc notes [] last other = refl
notes_after-snoc notes (first ∷ rest) last other = notes_after-snoc (notes_by first other notes) rest last other

-- what a read gives is a part of what a store has of the name
read_by-put : (mine took : Bool) (bytes : List ℕ) (kept : Kept) → (if mine then (if took then put_to bytes kept else put_in_vain bytes kept) else kept).read ≡ (if mine then (if took then Some bytes else kept.read) else kept.read)
read_by-put true true bytes kept = refl
read_by-put true false bytes kept = refl
read_by-put false took bytes kept = refl

read_by-sync : (mine : Bool) (kept : Kept) → (if mine then synced_now kept else kept).read ≡ kept.read
read_by-sync true kept = refl
read_by-sync false kept = refl

read_by-kept : (last : Change) (at : ℕ) (other : List ℕ) (kept : Kept) → (kept_by last at other kept).read ≡ read_by last at other kept.read
read_by-kept change.Clear at other kept = refl
read_by-kept (change.Put store name bytes took) at other kept = read_by-put (same_name store name at other) took bytes kept
read_by-kept (change.Sync store) at other kept = read_by-sync (store == at) kept
read_by-kept (change.Append line note) at other kept = refl

pub read_after-kept : (kept : Kept) (changes : List Change) (at : ℕ) (other : List ℕ) → (kept_after kept changes at other).read ≡ read_after kept.read changes at other
read_after-kept kept [] at other = refl
read_after-kept kept (first ∷ rest) at other =
    read_after-kept (kept_by first at other kept) rest at other ∙ ap (λ (w : Option (List ℕ)). read_after w rest at other) (read_by-kept first at other kept)

-- nothing changed
pub stored-same : (before now : List Change) → now ≡ before → Same (stored before) (stored now)
stored-same before now e = record {
  kept = λ at other. ap (λ (w : List Change). kept_after absent w at other) e;
  notes = λ other. ap (λ (w : List Change). notes_after [] w other) e;
}

-- one more change
kept_is : (before now : List Change) (last : Change) → now ≡ before ++ last ∷ [] → (at : ℕ) (other : List ℕ) → kept_after absent now at other ≡ kept_by last at other (kept_after absent before at other)
kept_is before now last e at other = ap (λ (w : List Change). kept_after absent w at other) e ∙ kept_after-snoc absent before last at other

notes_are : (before now : List Change) (last : Change) → now ≡ before ++ last ∷ [] → (other : Line) → notes_after [] now other ≡ notes_by last other (notes_after [] before other)
notes_are before now last e other = ap (λ (w : List Change). notes_after [] w other) e ∙ notes_after-snoc [] before last other

-- what each call makes, where its number is to fail or not
pub clear-model : (before now : List Change) (fail : Option Bool) (result : Result (Unit {0}) KeepError) → FailsExactly (is_some fail) result → Makes before now (takes_effect fail) change.Clear result → Clears (stored before) (stored now) result
clear-model before now None (Ok done) fails made = record { kept = kept_is before now change.Clear made; notes = notes_are before now change.Clear made }
clear-model before now (Some effect) (Ok done) fails made = cc
clear-model before now fail (Err Failed) fails made = tt
clear-model before now fail (Err Memory) fails made = stored-same before now made

pub put-model : (before now : List Change) (fail : Option Bool) (store : ℕ) (name bytes : List ℕ) (result : Result (Unit {0}) KeepError) → FailsExactly (is_some fail) result → Makes before now true (change.Put store name bytes (takes_effect fail)) result → PutsName store name bytes (stored before) (stored now) result
put-model before now None store name bytes (Ok done) fails made = record { kept = kept_is before now _ made; notes = notes_are before now _ made }
put-model before now (Some effect) store name bytes (Ok done) fails made = cc
put-model before now None store name bytes (Err Failed) fails made = cc
put-model before now (Some true) store name bytes (Err Failed) fails made = New (record { kept = kept_is before now _ made; notes = notes_are before now _ made })
put-model before now (Some false) store name bytes (Err Failed) fails made = Old (record { kept = kept_is before now _ made; notes = notes_are before now _ made })
put-model before now fail store name bytes (Err Memory) fails made = stored-same before now made

pub sync-model : (before now : List Change) (fail : Option Bool) (store : ℕ) (result : Result (Unit {0}) KeepError) → FailsExactly (is_some fail) result → Makes before now (takes_effect fail) (change.Sync store) result → SyncsStore store (stored before) (stored now) result
sync-model before now None store (Ok done) fails made = record { kept = kept_is before now _ made; notes = notes_are before now _ made }
sync-model before now (Some effect) store (Ok done) fails made = cc
sync-model before now None store (Err Failed) fails made = cc
sync-model before now (Some true) store (Err Failed) fails made = record { kept = λ at other. Changed (kept_is before now _ made at other); notes = notes_are before now _ made }
sync-model before now (Some false) store (Err Failed) fails made = let same = stored-same before now made in record { kept = λ at other. Left (same.kept at other); notes = same.notes }
sync-model before now fail store (Err Memory) fails made = stored-same before now made

pub append-model : (before now : List Change) (fail : Option Bool) (line : Line) (note : Note) (result : Result (Unit {0}) KeepError) → FailsExactly (is_some fail) result → Makes before now (takes_effect fail) (change.Append line note) result → AppendsNote line note (stored before) (stored now) result
append-model before now None line note (Ok done) fails made = record { kept = kept_is before now _ made; notes = notes_are before now _ made }
append-model before now (Some effect) line note (Ok done) fails made = cc
append-model before now None line note (Err Failed) fails made = cc
append-model before now (Some true) line note (Err Failed) fails made = With (record { kept = kept_is before now _ made; notes = notes_are before now _ made })
append-model before now (Some false) line note (Err Failed) fails made = Without (stored-same before now made)
append-model before now fail line note (Err Memory) fails made = stored-same before now made

-- a read of a name gives what its store has of it, and changes nothing
pub get-model : (changes : List Change) (store : ℕ) (name : List ℕ) (read : Option (List ℕ)) (result : Result (Option (List ℕ)) KeepError) → read ≡ read_after None changes store name → IfOk result (λ copy. copy ≡ read) → GetsName store name (stored changes) (stored changes) result
get-model changes store name read (Ok value) gives same = (stored-same changes changes refl, same ∙ gives ∙ sym (read_after-kept absent changes store name))
get-model changes store name read (Err e) gives same = stored-same changes changes refl
