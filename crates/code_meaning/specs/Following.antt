-- Wherever the steps of the annotated source lead, each call stands at its code, and the fields are as the class says.
use Rattle.std.specs.Prelude.{◌≡◌, ℕ, List, length, map, Some}
use Rattle.sdg_base.specs.declared.call.Call.{Call}
use Rattle.sdg_base.specs.declared.call.Step.{Step}
use Rattle.sdg_base.specs.Types as values
use Rattle.access_blocks.specs.declared.body.Program.{Program}
use Rattle.access_blocks.specs.Source.{CallState, Source, nth, Steps, source_at_start, Follows}
use Rattle.body_code.specs.ClassCode.{taken_types}
use Rattle.code_meaning.specs.Standing.{Entered, IsEntered, Stands, FieldsFit}

-- The call is one of an entry method of the program, with arguments of its parameters' types.
pub record IsCallOf (program : Program) (call : Call) (e : Entered) : Type 0 where
  pub entered : IsEntered e
  pub same_program : e.program ≡ program
  pub same_number : e.number ≡ call.method
  pub typed : map values.type_of call.args ≡ taken_types (e.body).arity (e.body).variables

-- the entry method of each call
abbrev pub AreCallsOf : Program → List Call → (ℕ → Entered) → Type 0
AreCallsOf program calls entries = (c : ℕ) (call : Call) → nth calls c ≡ Some call → IsCallOf program call (entries c)

pub record SourceStands (program : Program) (calls : List Call) (entries : ℕ → Entered) (now : Source) : Type 0 where
  pub as_many : length now.calls ≡ length calls
  pub fit : FieldsFit program now.fields
  pub stand : (c : ℕ) (state : CallState) → nth now.calls c ≡ Some state → Stands (entries c) state

abbrev pub StepsKeepStanding : Type 0
StepsKeepStanding =
    (program : Program) (calls : List Call) (entries : ℕ → Entered) → AreCallsOf program calls entries → (now next : Source) (step : Step) → SourceStands program calls entries now → Steps program calls now step next
    → SourceStands program calls entries next

abbrev pub SourcesStand : Type 0
SourcesStand =
    (program : Program) (calls : List Call) (entries : ℕ → Entered) → AreCallsOf program calls entries → (width : ℕ) (steps : List Step) (end : Source) → Follows program calls (source_at_start program calls width) steps end
    → SourceStands program calls entries end
