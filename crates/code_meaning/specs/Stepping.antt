-- From one rest of a call to the next: where the code of what is left to run is laid, and agrees with the source, its run ends
-- where the source rests.
use Rattle.std.specs.Prelude.{◌≡◌, ◌≤◌, ◌+◌, ◌*◌, ℕ, true, List, [], Some, slice_get}
use Rattle.sdg_base.specs.declared.val.Val.{Val}
use Rattle.state_classes.specs.States.{State}
use Rattle.access_blocks.specs.declared.body.Holder.{Holder}
use Rattle.access_blocks.specs.Statements.{Field, Machine}
use Rattle.access_blocks.specs.Source.{Frame, CallState, Runs}
use Rattle.body_code.specs.Checking.{Standing}
use Rattle.code_meaning.specs.Laid.{frame}
use Rattle.code_meaning.specs.Running.{Ground, IsGround, FieldAgrees, Agrees}
use Rattle.code_meaning.specs.Frames.{Coded, Level, AreLaid}
use Rattle.code_meaning.specs.Resting.{EndsIn, RestsAt}

-- Each field of the class is in the graph, of the same class.
abbrev pub AreNamed : Ground → Type 0
AreNamed g = (field : ℕ) (h : Holder) → slice_get g.around.fields field ≡ Some h → FieldAgrees g.graph field h

abbrev pub coded : Ground → ℕ → Coded
coded g whole = record { around = g.around; graph = g.graph; code = g.code; many = g.many; whole = whole }

-- A turn is spent in each round, so that the run ends in a number of steps that the code tells.
abbrev pub RunsRestWhereTheSourceRests : Type 0
RunsRestWhereTheSourceRests =
    (g : Ground) → IsGround g → AreNamed g → (whole left at : ℕ) → left ≤ whole
    → (frames : List Frame) (level : Level) (st : Standing) → AreLaid (coded g whole) frames level true at st left
    → (variables : List Val) (state : State) (m : Machine) → Agrees g st variables state m
    → (call : CallState) (fields : List Field) → Runs g.calls frames m call fields
    → RestsAt (coded g whole) g m.turns (EndsIn g.setting g.code (left + whole * m.turns) (frame at [] variables m.turns) state) call fields
