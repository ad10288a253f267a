-- A call that goes on, and at last rests.
use Rattle.std.proofs.Common.{◌≡◌, List, Some, None, Result, Ok, Err, IfOk}
use Rattle.std.specs.declared.alloc.AllocError.{AllocError}
use Rattle.sdg_base.specs.declared.val.Outcome.{Outcome}
use Rattle.access_blocks.specs.declared.halt.Halt.{Halt}
use Rattle.access_blocks.specs.Expressions.{Calls, outcome_of}
use Rattle.access_blocks.specs.Statements.{Machine, Field}
use Rattle.access_blocks.specs.Source as source
use Rattle.body_run.specs.declared.stop.Stop.TheVariants as stop
use Rattle.source_run.specs.declared.call_state.Pause.{Pause}
use Rattle.source_run.specs.declared.runs.Rest.{Rest}
use Rattle.source_run.specs.Makes.{Makes}
use Rattle.source_run.specs.Seen.{paused, state_of}

-- whatever is run from here, is run from the start
abbrev pub Continues : Calls → List source.Frame → Machine → List source.Frame → Machine → Type 0
Continues calls frames m first start = (state : source.CallState) (fields : List Field) → source.Runs calls frames m state fields → source.Runs calls first start state fields

pub goes_on : (calls : Calls) (frames next first : List source.Frame) (m n start : Machine) → Makes (Ok None) next n (source.move calls frames m)
    → Continues calls frames m first start → Continues calls next n first start
goes_on calls frames next first m n start moves before state fields runs = before state fields (source.Go frames next m n state fields moves runs)

pub halts : (calls : Calls) (frames next first : List source.Frame) (m n start : Machine) (h : Halt) (o : Outcome) → Makes (Err (stop.Halt h)) next n (source.move calls frames m)
    → Continues calls frames m first start → o ≡ outcome_of h → source.Runs calls first start (source.Ended o) n.fields
halts calls frames next first m n start h o moves before is = before (source.Ended o) n.fields (source.Rest frames m (source.Ended o) n.fields (rw is moves))

pub rests : (calls : Calls) (frames next first : List source.Frame) (m n start : Machine) (pause : Pause) (r : Result Rest AllocError) → Makes (Ok (Some pause)) next n (source.move calls frames m)
    → Continues calls frames m first start → IfOk r (λ rest. state_of rest.state ≡ paused pause (source.standing next n n.turns)) → IfOk r (λ rest. rest.fields.items ≡ n.fields)
    → IfOk r (λ rest. source.Runs calls first start (state_of rest.state) rest.fields.items)
rests calls frames next first m n start pause (Ok rest) moves before state fields =
    before (state_of rest.state) rest.fields.items (source.Rest frames m (state_of rest.state) rest.fields.items (rw (state, fields) moves))
rests calls frames next first m n start pause (Err e) moves before state fields = tt
