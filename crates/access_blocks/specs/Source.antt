-- The annotated source, step by step: where each call stands, which steps are legal, and what each does. Calls interleave
-- between blocks alone.
use Rattle.std.specs.Prelude.{◌≡◌, ℕ, zero, suc, Bool, true, false, not, ◌&&◌, ◌||◌, nat_eq, nat_lt, nat_le, List, [], ◌∷◌, ◌++◌, length, map, replicate, slice_get, slice_set, unwrap_or, is_some, Option, Some, None, if◌then◌else◌}
use Rattle.std.specs.List.{list_any, list_all, filter_map}
use Rattle.sdg_base.specs.declared.val.Val.{Val}
use Rattle.sdg_base.specs.declared.val.Val.TheVariants as val
use Rattle.sdg_base.specs.declared.val.Outcome.{Outcome}
use Rattle.sdg_base.specs.declared.val.Outcome.TheVariants as outcome
use Rattle.sdg_base.specs.declared.call.Call.{Call}
use Rattle.sdg_base.specs.declared.call.Step.{Step}
use Rattle.sdg_base.specs.declared.call.Step.TheVariants.{Begin, Block, Visit, Join, Grow}
use Rattle.sdg_base.specs.Limits.{turns_at_start}
use Rattle.sdg_base.specs.declared.store.ClassName.{ClassName}
use Rattle.sdg_base.specs.declared.store.ClassName.TheVariants.{Counter}
use Rattle.state_classes.specs.declared.method.Method.{Method}
use Rattle.state_classes.specs.States.{State, empty_state, called}
use Rattle.access_blocks.specs.declared.body.Body.{Body}
use Rattle.access_blocks.specs.declared.body.Expression.{Expression}
use Rattle.access_blocks.specs.declared.body.Gather.{Gather}
use Rattle.access_blocks.specs.declared.body.Holder.{Holder}
use Rattle.access_blocks.specs.declared.body.Mark.{Mark}
use Rattle.access_blocks.specs.declared.body.Program.{Program}
use Rattle.access_blocks.specs.declared.body.Statement.{Statement, out-Statement}
use Rattle.access_blocks.specs.declared.body.Statement.TheOpen.{Statement-F}
use Rattle.access_blocks.specs.declared.body.Statement.TheOpen as s
use Rattle.access_blocks.specs.Expressions.{Calls, Ended as Evaluated, Gives, Ends, outcome_of, is_true, value_of, values_of}
use Rattle.access_blocks.specs.Statements.{Field, Whole, Instances, Machine, Completion, Normal, Breaks, Continues, Returns, Halts, Completed, seen_by, with_turns, part_of, changed_field, meaning, meanings}
use Rattle.access_blocks.specs.Calls.{machine_at_start, calls_of}

-- ---- where a call stands

-- what is left to run of a body: statements, and the loops round them, of which the condition or the update comes next
pub data Frame : Type 0 where
  Then : List Statement → Frame
  Test : Option Expression → List Statement → Statement → Frame
  Again : Option Expression → List Statement → Statement → Frame

pub record Standing : Type 0 where
  -- the innermost first
  pub frames : List Frame
  pub variables : List Val
  pub turns : ℕ

pub data CallState : Type 0 where
  Fresh : CallState
  -- at the mark of a block on a field, with its key where it has one
  At : (field : ℕ) → (key : Option Val) → (block : Statement) → Standing → CallState
  -- at an access to each instance of a field that was there as the call came, with the outcomes so far
  Visiting : (field : ℕ) → Method → (args : List Val) → (parts : List (Option Outcome)) → Standing → CallState
  Ended : Outcome → CallState

pub record Source : Type 0 where
  pub fields : List Field
  pub calls : List CallState

-- ---- running from one step to the next

pub data Move : Type 0 where
  Moves : List Frame → Machine → Move
  Rests : CallState → List Field → Move

abbrev pub ends : Outcome → Machine → Move
ends o m = Rests (Ended o) m.fields

abbrev pub having : {A : Type 0} → Evaluated A → Machine → (A → ℕ → Move) → Move
having (Gives a turns) m f = f a turns
having (Ends h) m f = ends (outcome_of h) m

abbrev pub spending : ℕ → Machine → (ℕ → Move) → Move
spending zero m f = ends outcome.Limit m
spending (suc left) m f = f left

abbrev pub standing : List Frame → Machine → ℕ → Standing
standing frames m turns = record { frames = frames; variables = m.variables; turns = turns }

-- `break` leaves the innermost loop, and `continue` goes on with its update.
abbrev pub left_loop : List Frame → List Frame
left_loop [] = []
left_loop (Then ss ∷ frames) = left_loop frames
left_loop (Test test update body ∷ frames) = frames
left_loop (Again test update body ∷ frames) = frames

abbrev pub next_pass : List Frame → List Frame
next_pass [] = []
next_pass (Then ss ∷ frames) = next_pass frames
next_pass (Test test update body ∷ frames) = Test test update body ∷ frames
next_pass (Again test update body ∷ frames) = Again test update body ∷ frames

abbrev pub completing : Completion → Machine → List Frame → Move
completing Normal m frames = Moves frames m
completing Breaks m frames = Moves (left_loop frames) m
completing Continues m frames = Moves (next_pass frames) m
completing (Returns v) m frames = ends (outcome.Value v) m
completing (Halts h) m frames = ends (outcome_of h) m

abbrev pub after : Completed → List Frame → Move
after c frames = completing c.completion c.machine frames

-- The start and the update of a loop are no part of its body: a loop's frame is entered where they complete normally, and else the
-- loop completes as they do.
abbrev pub entering : Completion → Machine → Frame → List Frame → Move
entering Normal m loop frames = Moves (loop ∷ frames) m
entering c m loop frames = completing c m frames

abbrev pub entered : Completed → Frame → List Frame → Move
entered c loop frames = entering c.completion c.machine loop frames

-- At a mark the key is evaluated, and then the turn is spent.
abbrev pub at_mark : Calls → Mark → Option Expression → Statement → List Frame → Machine → Move
at_mark calls mark None block frames m = spending m.turns m (λ left. Rests (At mark.field None block (standing frames m left)) m.fields)
at_mark calls mark (Some key) block frames m =
    having (value_of calls key (seen_by m) m.turns) m (λ k turns. spending turns m (λ left. Rests (At mark.field (Some k) block (standing frames m left)) m.fields))

abbrev pub width_in : Option Field → ℕ
width_in None = 0
width_in (Some (Whole state)) = 0
width_in (Some (Instances states)) = length states

abbrev pub width_of : ℕ → List Field → ℕ
width_of field fields = width_in (slice_get fields field)

-- So are the arguments of an access to each instance. Instances that grow later are not visited.
abbrev pub at_gather : Calls → Gather → List Frame → Machine → Move
at_gather calls g frames m =
    having (values_of calls g.args (seen_by m) m.turns) m (λ args turns. spending turns m (λ left.
    Rests (Visiting g.field g.method args (replicate (width_of g.field m.fields) None) (standing frames m left)) m.fields))

abbrev pub branch : Bool → Statement → Option Statement → List Statement
branch true first second = first ∷ []
branch false first None = []
branch false first (Some second) = second ∷ []

-- a statement with a mark inside is opened; behind it come these frames
abbrev pub opening : Calls → Statement → Statement-F Statement → List Frame → Machine → Move
opening calls st (s.Block items) frames m = Moves (Then items ∷ frames) m
opening calls st (s.If test first second) frames m =
    having (value_of calls test (seen_by m) m.turns) m (λ holds turns. Moves (Then (branch (is_true holds) first second) ∷ frames) (with_turns turns m))
opening calls st (s.Loop start test update body) frames m = entered (meanings calls start m) (Test test update body) frames
opening calls st layer frames m = after (meaning calls st m) frames

-- A statement without a mark is run whole.
abbrev pub move_statement : Calls → Statement → Statement-F Statement → List Frame → Machine → Move
move_statement calls st (s.Marked mark block) frames m = at_mark calls mark mark.key block frames m
move_statement calls st (s.Gather g) frames m = at_gather calls g frames m
move_statement calls st (s.Opened body) frames m = opening calls body (out-Statement body) frames m
move_statement calls st layer frames m = after (meaning calls st m) frames

-- a pass of a loop begins, or the loop ends
abbrev pub pass : Bool → Option Expression → List Statement → Statement → List Frame → ℕ → Machine → Move
pass true test update body frames turns m = spending turns m (λ left. Moves (Then (body ∷ []) ∷ Again test update body ∷ frames) (with_turns left m))
pass false test update body frames turns m = Moves frames (with_turns turns m)

abbrev pub move_test : Calls → Option Expression → List Statement → Statement → List Frame → Machine → Move
move_test calls None update body frames m = pass true None update body frames m.turns m
move_test calls (Some test) update body frames m =
    having (value_of calls test (seen_by m) m.turns) m (λ holds turns. pass (is_true holds) (Some test) update body frames turns m)

abbrev pub move : Calls → List Frame → Machine → Move
-- the end of a void body
move calls [] m = ends (outcome.Value val.Unit) m
move calls (Then [] ∷ frames) m = Moves frames m
move calls (Then (st ∷ ss) ∷ frames) m = move_statement calls st (out-Statement st) (Then ss ∷ frames) m
move calls (Test test update body ∷ frames) m = move_test calls test update body frames m
move calls (Again test update body ∷ frames) m = entered (meanings calls update m) (Test test update body) frames

-- from here on a call runs until it rests, and leaves the fields
pub data Runs (calls : Calls) : List Frame → Machine → CallState → List Field → Type 0 where
  Rest : (frames : List Frame) (m : Machine) (state : CallState) (fields : List Field)
      → move calls frames m ≡ Rests state fields
      → Runs calls frames m state fields
  Go : (frames next : List Frame) (m n : Machine) (state : CallState) (fields : List Field)
      → move calls frames m ≡ Moves next n
      → Runs calls next n state fields
      → Runs calls frames m state fields

-- ---- which steps are legal

-- why a step is not: there is no such call or partial field, no partial field has the instance, or it is not the call's next
pub data Refusal : Type 0 where
  Unknown : Refusal
  NoInstance : Refusal
  NotNext : ℕ → Refusal

-- calls count from 1
abbrev pub nth : {A : Type 0} → List A → ℕ → Option A
nth xs zero = None
nth xs (suc n) = slice_get xs n

abbrev pub has_instance : ℕ → Field → Bool
has_instance i (Whole state) = false
has_instance i (Instances states) = nat_lt i (length states)

-- whether some partial field has the instance; none is asked for where a block has a key
abbrev pub is_there : Option ℕ → List Field → Bool
is_there None fields = true
is_there (Some i) fields = list_any (has_instance i) fields

-- A block with a key is run whole, and another on an instance of its field.
abbrev pub fits_block : Option Val → Option ℕ → ℕ → Bool
fits_block (Some key) None width = true
fits_block None (Some i) width = nat_lt i width
fits_block _ _ width = false

abbrev pub is_next_block : Source → Option ℕ → CallState → Bool
is_next_block now i (At field key block standing) = fits_block key i (width_of field now.fields)
is_next_block now i _ = false

-- Each instance is visited once.
abbrev pub is_unmade : Option (Option Outcome) → Bool
is_unmade (Some None) = true
is_unmade _ = false

abbrev pub is_next_visit : ℕ → CallState → Bool
is_next_visit i (Visiting field method args parts standing) = is_unmade (slice_get parts i)
is_next_visit i _ = false

abbrev pub is_next_join : CallState → Bool
is_next_join (Visiting field method args parts standing) = list_all is_some parts
is_next_join _ = false

abbrev pub is_fresh : CallState → Bool
is_fresh Fresh = true
is_fresh _ = false

-- the refusal of a step of a call, where the instance is there or not
abbrev pub refused : ℕ → Bool → (CallState → Bool) → Option CallState → Option Refusal
refused c there is_next None = Some Unknown
refused c false is_next (Some state) = Some NoInstance
refused c true is_next (Some state) = if is_next state then None else Some (NotNext c)

abbrev pub growth_refused : Option Field → Option Refusal
growth_refused None = Some Unknown
growth_refused (Some (Whole state)) = Some Unknown
growth_refused (Some (Instances states)) = if nat_lt (length states) 64 then None else Some NoInstance

abbrev pub refusal : Source → Step → Option Refusal
refusal now (Begin c) = refused c true is_fresh (nth now.calls c)
refusal now (Block c i) = refused c (is_there i now.fields) (is_next_block now i) (nth now.calls c)
refusal now (Visit c i) = refused c (is_there (Some i) now.fields) (is_next_visit i) (nth now.calls c)
refusal now (Join c) = refused c true is_next_join (nth now.calls c)
refusal now (Grow field) = growth_refused (slice_get now.fields field)

-- ---- what a legal step does

-- A step lets its call run, or it makes a part of an access, or it ends the call at a join.
pub data Started : Type 0 where
  Goes : List Frame → Machine → Started
  Stays : CallState → List Field → Started

abbrev pub begun_in : Source → List Val → Option Body → Started
begun_in now args None = Stays Fresh now.fields
begun_in now args (Some body) = Goes (Then body.statements ∷ []) (machine_at_start body args [] turns_at_start now.fields)

abbrev pub begun : Program → Source → Option Call → Started
begun program now None = Stays Fresh now.fields
begun program now (Some call) = begun_in now call.args (slice_get program.methods call.method)

abbrev pub machine_of : Standing → Val → List Val → List Field → ℕ → Machine
machine_of at key gathered fields instance = record {
  variables = at.variables;
  key = key;
  gathered = gathered;
  turns = at.turns;
  fields = fields;
  instance = instance;
}

-- A block is run with the key of its mark, or on an instance.
abbrev pub block_run : Source → Option ℕ → CallState → Started
block_run now i (At field key block at) =
    Goes (Then (block ∷ []) ∷ at.frames) (machine_of at (unwrap_or key val.Unit) [] now.fields (unwrap_or i 0))
block_run now i state = Stays state now.fields

-- One instance answers, and changes by itself.
abbrev pub visited : ℕ → Method → List Val → List (Option Outcome) → Standing → ℕ → Option Field → List Field → Outcome × State → Started
visited field method args parts at i old fields answer =
    Stays (Visiting field method args (slice_set parts i (Some answer.0)) at) (changed_field old field answer.1 fields i)

abbrev pub visited_part : ℕ → Method → List Val → List (Option Outcome) → Standing → ℕ → Option Field → List Field → Option State → Started
visited_part field method args parts at i old fields None = Stays (Visiting field method args parts at) fields
visited_part field method args parts at i old fields (Some state) = visited field method args parts at i old fields (called method args state)

abbrev pub visit_run : Source → ℕ → CallState → Started
visit_run now i (Visiting field method args parts at) =
    visited_part field method args parts at i (slice_get now.fields field) now.fields (part_of (slice_get now.fields field) i)
visit_run now i state = Stays state now.fields

-- the first outcome by instance that isn't a value
abbrev pub first_failure : List (Option Outcome) → Option Outcome
first_failure [] = None
first_failure (Some (outcome.Throws e) ∷ parts) = Some (outcome.Throws e)
first_failure (Some outcome.Limit ∷ parts) = Some outcome.Limit
first_failure (_ ∷ parts) = first_failure parts

abbrev pub value_in : Option Outcome → Option Val
value_in (Some (outcome.Value v)) = Some v
value_in _ = None

abbrev pub joined : Option Outcome → List (Option Outcome) → Standing → List Field → Started
joined (Some failure) parts at fields = Stays (Ended failure) fields
joined None parts at fields = Goes at.frames (machine_of at val.Unit (filter_map value_in parts) fields 0)

-- Where each part is a value the call goes on with them by instance.
abbrev pub join_run : Source → CallState → Started
join_run now (Visiting field method args parts at) = joined (first_failure parts) parts at now.fields
join_run now state = Stays state now.fields

abbrev pub with_call : ℕ → CallState → List CallState → List CallState
with_call zero state calls = calls
with_call (suc n) state calls = slice_set calls n state

-- a call rests in a state, and the fields are as it left them
abbrev pub left : ℕ → CallState → List Field → Source → Source
left c state fields now = record { fields = fields; calls = with_call c state now.calls }

pub data Leads (program : Program) (now : Source) (c : ℕ) : Started → Source → Type 0 where
  ByRunning : (frames : List Frame) (m : Machine) (state : CallState) (fields : List Field)
      → Runs (calls_of program.methods) frames m state fields
      → Leads program now c (Goes frames m) (left c state fields now)
  AtOnce : (state : CallState) (fields : List Field) → Leads program now c (Stays state fields) (left c state fields now)

abbrev pub state_of : Source → ℕ → CallState
state_of now c = unwrap_or (nth now.calls c) Fresh

-- an empty instance more
abbrev pub class_in : Option Holder → ClassName
class_in None = Counter
class_in (Some h) = h.class

abbrev pub class_of : Program → ℕ → ClassName
class_of program field = class_in (slice_get program.fields field)

abbrev pub grown_field : State → Field → Field
grown_field empty (Whole state) = Whole state
grown_field empty (Instances states) = Instances (states ++ empty ∷ [])

abbrev pub grown : Program → ℕ → Option Field → List Field → List Field
grown program field None fields = fields
grown program field (Some old) fields = slice_set fields field (grown_field (empty_state (class_of program field)) old)

abbrev pub grown_source : Program → ℕ → Source → Source
grown_source program field now = record now { fields = grown program field (slice_get now.fields field) now.fields }

-- the effect of a step that is legal
abbrev pub Does : Program → List Call → Source → Step → Source → Type 0
Does program calls now (Begin c) next = Leads program now c (begun program now (nth calls c)) next
Does program calls now (Block c i) next = Leads program now c (block_run now i (state_of now c)) next
Does program calls now (Visit c i) next = Leads program now c (visit_run now i (state_of now c)) next
Does program calls now (Join c) next = Leads program now c (join_run now (state_of now c)) next
Does program calls now (Grow field) next = next ≡ grown_source program field now

pub record Steps (program : Program) (calls : List Call) (now : Source) (step : Step) (next : Source) : Type 0 where
  pub legal : refusal now step ≡ None
  pub does : Does program calls now step next

-- ---- a list of steps

-- each partial field has so many empty instances
abbrev pub field_at_start : ℕ → Holder → Field
field_at_start width h = if h.is_partial then Instances (replicate width (empty_state h.class)) else Whole (empty_state h.class)

abbrev pub source_at_start : Program → List Call → ℕ → Source
source_at_start program calls width = record { fields = map (field_at_start width) program.fields; calls = map (λ c. Fresh) calls }

-- the steps one after the other, all legal
pub data Follows (program : Program) (calls : List Call) : Source → List Step → Source → Type 0 where
  Done : (now : Source) → Follows program calls now [] now
  Next : (now between end : Source) (step : Step) (steps : List Step)
      → Steps program calls now step between
      → Follows program calls between steps end
      → Follows program calls now (step ∷ steps) end

abbrev pub outcome_in : Option CallState → Option Outcome
outcome_in (Some (Ended o)) = Some o
outcome_in _ = None

-- how a call ended, if it has
abbrev pub outcome_of_call : Source → ℕ → Option Outcome
outcome_of_call now c = outcome_in (nth now.calls c)
