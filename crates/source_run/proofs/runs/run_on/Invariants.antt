use Rattle.std.proofs.Common.{List}
use Rattle.access_blocks.specs.Calls.{calls_of}
use Rattle.access_blocks.specs.Source.{CallState, Runs}
use Rattle.access_blocks.specs.Statements.{Field}
use Rattle.body_run.specs.Seen.{machine_of}
use Rattle.source_run.specs.Seen.{frames_of}
use Rattle.source_run.proofs.runs.run_on.Given as goal

-- whatever is run from here, is run from the start
abbrev pub invariant-loop-step : goal.invariant-loop-step
invariant-loop-step l =
    (state : CallState) (fields : List Field) → Runs (calls_of l.methods) (frames_of l.frames) (machine_of l.machine) state fields
    → Runs (calls_of l.methods) (frames_of l.initial.frames) (machine_of l.initial.machine) state fields
