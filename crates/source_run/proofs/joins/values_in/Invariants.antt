use Rattle.std.proofs.Common.{◌≡◌}
use Rattle.std.specs.List.{filter_map}
use Rattle.access_blocks.specs.Source as source
use Rattle.source_run.proofs.joins.values_in.Given as goal

abbrev pub invariant-loop-part : goal.invariant-loop-part
invariant-loop-part l = l.values ≡ filter_map source.value_in l.yielded
