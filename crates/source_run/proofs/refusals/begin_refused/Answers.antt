use Rattle.std.proofs.Common.{sym}
use Rattle.access_blocks.specs.Source as source
use Rattle.source_run.specs.Seen.{state_of}
use Rattle.source_run.proofs.refusals.begin_refused.Goals as goal

pub returns-in-Some : goal.returns-in-Some
returns-in-Some c = rw c.in-Some.ensures (c.refused.ensures source.is_fresh (state_of c.in-Some.state.now) (sym c.is_fresh-is_next.ensures))
