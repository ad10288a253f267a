use Rattle.std.proofs.Common.{◌≡◌, drop}
use Rattle.access_blocks.specs.Source as source
use Rattle.source_run.proofs.joins.first_failure.Given as goal

abbrev pub invariant-loop-part : goal.invariant-loop-part
invariant-loop-part l = source.first_failure (drop l.part-index l.parts) ≡ source.first_failure l.parts
