use Rattle.std.proofs.Common.{◌≡◌, map, take}
use Rattle.access_blocks.specs.Source as source
use Rattle.source_run.proofs.source.fields_at_start.Given as goal

abbrev pub invariant-loop-holder : goal.invariant-loop-holder
invariant-loop-holder l = l.fields.items ≡ map (source.field_at_start l.width) (take l.holder-index l.holders)
