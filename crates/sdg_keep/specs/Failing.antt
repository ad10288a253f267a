-- calls that are to fail, by their number
use Rattle.std.specs.Prelude.{◌≡◌, ℕ, Bool, true, false, ◌==◌, List, [], ◌∷◌, ◌++◌, Option, Some, None, Result, Ok, Err, if◌then◌else◌, unwrap_or}
use Rattle.sdg_base.specs.declared.store.KeepError.{KeepError}
use Rattle.sdg_base.specs.declared.store.KeepError.TheVariants.{Failed, Memory}

-- whether the call of a number takes effect though it fails, where it is to fail
abbrev pub fail_of : List (ℕ × Bool) → ℕ → Option Bool
fail_of [] number = None
fail_of (fail ∷ fails) number = if fail.0 == number then Some fail.1 else fail_of fails number

-- a call that is to fail has an effect
abbrev pub has_effect : Option Bool → Bool
has_effect fail = unwrap_or fail false

-- the call answers Failed exactly where it is to fail, but for want of memory
abbrev pub FailsExactly : {T : Type 0} → Bool → Result T KeepError → Type 0
FailsExactly fails (Ok _) = fails ≡ false
FailsExactly fails (Err Failed) = fails ≡ true
FailsExactly fails (Err Memory) = Unit {0}

-- the call is noted, but for want of memory
abbrev pub NotesCall : {C T : Type 0} → List C → List C → C → Result T KeepError → Type 0
NotesCall before now call (Ok _) = now ≡ before ++ call ∷ []
NotesCall before now call (Err Failed) = now ≡ before ++ call ∷ []
NotesCall before now call (Err Memory) = now ≡ before
