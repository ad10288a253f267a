-- What a source of the program stands for.
use Rattle.std.specs.Prelude.{ℕ, List, map, Option, Some, None, if◌then◌else◌}
use Rattle.sdg_base.specs.declared.call.Call.{Call}
use Rattle.sdg_base.specs.declared.val.Outcome.{Outcome}
use Rattle.access_blocks.specs.declared.body.Program.{Program}
use Rattle.access_blocks.specs.Source as source
use Rattle.source_run.specs.declared.source.Source.{Source}
use Rattle.source_run.specs.Seen.{state_of}

abbrev pub program_of : Source → Program
program_of s = s.program.now

-- the calls that it was given
abbrev pub given_to : Source → List Call
given_to s = s.given.now

abbrev pub held_by : Source → source.Source
held_by s = record { fields = s.fields.items; calls = map state_of s.calls.items }

-- A spent one stands for none.
abbrev pub source_of : Source → Option source.Source
source_of s = if s.is_spent then None else Some (held_by s)

abbrev pub shown : Option source.Source → ℕ → Option Outcome
shown None call = None
shown (Some now) call = source.outcome_of_call now call
