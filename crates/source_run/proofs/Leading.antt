-- What steps lead to.
use Rattle.std.proofs.Common.{◌≡◌, ℕ, List, Result, Ok, Err, IfOk}
use Rattle.std.specs.declared.alloc.AllocError.{AllocError}
use Rattle.access_blocks.specs.declared.body.Body.{Body}
use Rattle.access_blocks.specs.declared.body.Program.{Program}
use Rattle.access_blocks.specs.Calls.{calls_of}
use Rattle.access_blocks.specs.Source as source
use Rattle.access_blocks.specs.Statements.{Field, Machine}
use Rattle.source_run.specs.declared.runs.Rest.{Rest}
use Rattle.source_run.specs.Seen.{state_of}

pub by_running : (program : Program) (now : source.Source) (call : ℕ) (methods : List Body) (frames : List source.Frame) (m : Machine) (r : Result Rest AllocError) → methods ≡ program.methods
    → IfOk r (λ rest. source.Runs (calls_of methods) frames m (state_of rest.state) rest.fields.items)
    → IfOk r (λ rest. source.Leads program now call (source.Goes frames m) (source.left call (state_of rest.state) rest.fields.items now))
by_running program now call methods frames m (Ok rest) is runs = source.ByRunning frames m (state_of rest.state) rest.fields.items (rw is at runs)
by_running program now call methods frames m (Err e) is runs = tt

pub at_once : (program : Program) (now : source.Source) (call : ℕ) (started : source.Started) (state : source.CallState) (fields : List Field) → started ≡ source.Stays state fields
    → source.Leads program now call started (source.left call state fields now)
at_once program now call started state fields is = rw is (source.AtOnce state fields)

pub leads : (program : Program) (now : source.Source) (call : ℕ) (state : source.CallState) (fields : List Field) (started does : source.Started) (calls : List source.CallState)
    → source.Leads program now call started (source.left call state fields now) → started ≡ does → calls ≡ source.with_call call state now.calls
    → source.Leads program now call does (record { fields = fields; calls = calls })
leads program now call state fields started does calls led is set = rw (← is, set) led
