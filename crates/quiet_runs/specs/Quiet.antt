-- What is run of a call outside of its blocks knows nothing of the fields.
use Rattle.std.specs.Prelude.{◌≡◌, Bool, true, false, ◌&&◌, ◌||◌, List, [], ◌∷◌, map, replicate, Option, Some, None}
use Rattle.access_blocks.specs.declared.body.Statement.{Statement}
use Rattle.access_blocks.specs.declared.body.Statement.TheOpen.{Statement-F}
use Rattle.access_blocks.specs.declared.body.Statement.TheOpen as s
use Rattle.access_blocks.specs.declared.body.Statement.TheFolds.{fold-Statement}
use Rattle.access_blocks.specs.Expressions.{Calls}
use Rattle.access_blocks.specs.Source.{Frame, Then, Test, Again, CallState, Visiting, Runs, width_of}
use Rattle.access_blocks.specs.Statements.{Field, Machine, Completed, completed, meaning}

-- ---- statements

-- whether no access stands in a statement; whether none is run before the next mark, where the statement stands in a list that is run
-- statement by statement; the same where it is opened; and whether it is a mark
pub record Quieted : Type 0 where
  pub bare : Bool
  pub quiet : Bool
  pub opened : Bool
  pub marks : Bool

abbrev pub all_bare : List Quieted → Bool
all_bare [] = true
all_bare (a ∷ others) = a.bare && all_bare others

-- Behind a mark, accesses may go on with its block.
abbrev pub all_quiet : List Quieted → Bool
all_quiet [] = true
all_quiet (a ∷ others) = a.quiet && (a.marks || all_quiet others)

abbrev pub second_bare : Option Quieted → Bool
second_bare None = true
second_bare (Some a) = a.bare

abbrev pub second_quiet : Option Quieted → Bool
second_quiet None = true
second_quiet (Some a) = a.quiet

abbrev pub bare_in : Statement-F Quieted → Bool
bare_in (s.Access a) = false
bare_in (s.Marked mark body) = body.bare
bare_in (s.Opened body) = body.bare
bare_in (s.Block items) = all_bare items
bare_in (s.If test first second) = first.bare && second_bare second
bare_in (s.Loop start test update body) = all_bare start && (all_bare update && body.bare)
bare_in _ = true

-- The start and the update of a loop are run whole.
abbrev pub opened_in : Statement-F Quieted → Bool
opened_in (s.Block items) = all_quiet items
opened_in (s.If test first second) = first.quiet && second_quiet second
opened_in (s.Loop start test update body) = all_bare start && (all_bare update && body.quiet)
opened_in layer = bare_in layer

abbrev pub quiet_in : Statement-F Quieted → Bool
quiet_in (s.Gather g) = true
quiet_in (s.Marked mark body) = true
quiet_in (s.Opened body) = body.opened
quiet_in layer = bare_in layer

abbrev pub marks_in : Statement-F Quieted → Bool
marks_in (s.Marked mark body) = true
marks_in _ = false

abbrev pub quieting : Statement-F Quieted → Quieted
quieting layer = record { bare = bare_in layer; quiet = quiet_in layer; opened = opened_in layer; marks = marks_in layer }

abbrev pub quieted : Statement → Quieted
quieted = fold-Statement Quieted quieting

abbrev pub are_quiet : List Statement → Bool
are_quiet ss = all_quiet (map quieted ss)

abbrev pub are_bare : List Statement → Bool
are_bare ss = all_bare (map quieted ss)

-- ---- frames

abbrev pub frame_is_quiet : Frame → Bool
frame_is_quiet (Then ss) = are_quiet ss
frame_is_quiet (Test test update body) = are_bare update && (quieted body).quiet
frame_is_quiet (Again test update body) = are_bare update && (quieted body).quiet

abbrev pub frames_are_quiet : List Frame → Bool
frames_are_quiet [] = true
frames_are_quiet (f ∷ frames) = frame_is_quiet f && frames_are_quiet frames

-- what is left to run behind visits
abbrev pub state_is_quiet : CallState → Bool
state_is_quiet (Visiting field method args parts now) = frames_are_quiet now.frames
state_is_quiet _ = true

-- ---- other fields

abbrev pub on_fields : List Field → Machine → Machine
on_fields fields m = record m { fields = fields }

abbrev pub left_on : List Field → Completed → Completed
left_on fields c = completed c.completion (on_fields fields c.machine)

-- where a call rests on other fields: as many instances are to be visited as these have
abbrev pub rest_on : List Field → CallState → CallState
rest_on fields (Visiting field method args parts now) = Visiting field method args (replicate (width_of field fields) None) now
rest_on fields state = state

abbrev pub BareStatementsKnowNoFields : Type 0
BareStatementsKnowNoFields =
    (calls : Calls) (st : Statement) → (quieted st).bare ≡ true → (m : Machine) (fields : List Field) → meaning calls st (on_fields fields m) ≡ left_on fields (meaning calls st m)

-- On its own fields it leaves these, and behind visits no access is run before the next mark either.
pub record KnowsNoFields (calls : Calls) (frames : List Frame) (m : Machine) (state : CallState) (left : List Field) : Type 0 where
  pub same : left ≡ m.fields
  pub quiet : state_is_quiet state ≡ true
  pub others : (fields : List Field) → Runs calls frames (on_fields fields m) (rest_on fields state) fields

abbrev pub QuietRunsKnowNoFields : Type 0
QuietRunsKnowNoFields =
    (calls : Calls) (frames : List Frame) (m : Machine) (state : CallState) (left : List Field) → frames_are_quiet frames ≡ true → Runs calls frames m state left → KnowsNoFields calls frames m state left
