-- Where the run of a call comes to.
use Rattle.std.specs.Prelude.{◌≡◌, List}
use Rattle.access_blocks.specs.declared.body.Program.{Program}
use Rattle.access_blocks.specs.Calls.{calls_of}
use Rattle.access_blocks.specs.Expressions.{Calls}
use Rattle.access_blocks.specs.Statements.{Field, Machine}
use Rattle.access_blocks.specs.Source.{Frame, CallState, Runs}

-- The run rests somewhere.
pub record Rested (calls : Calls) (frames : List Frame) (m : Machine) : Type 0 where
  pub state : CallState
  pub fields : List Field
  pub runs : Runs calls frames m state fields

abbrev pub EveryRunRests : Type 0
EveryRunRests = (program : Program) (frames : List Frame) (m : Machine) → Rested (calls_of program.methods) frames m

-- It rests nowhere else.
abbrev pub RunsRestOnce : Type 0
RunsRestOnce =
    (calls : Calls) (frames : List Frame) (m : Machine) (a b : CallState) (fs gs : List Field) → Runs calls frames m a fs → Runs calls frames m b gs → (a ≡ b) × (fs ≡ gs)
