use Rattle.std.proofs.Common.{◌≡◌, map, take}
use Rattle.access_blocks.specs.Source as source
use Rattle.source_run.specs.Seen.{state_of}
use Rattle.source_run.proofs.source.calls_at_start.Given as goal

abbrev pub invariant-loop-call : goal.invariant-loop-call
invariant-loop-call l = map state_of l.fresh.items ≡ map (λ c. source.Fresh) (take l._call-index l._call-items)
