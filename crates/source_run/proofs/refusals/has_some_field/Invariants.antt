use Rattle.std.proofs.Common.{◌≡◌, drop}
use Rattle.std.specs.List.{list_any}
use Rattle.access_blocks.specs.Source as source
use Rattle.source_run.proofs.refusals.has_some_field.Given as goal

abbrev pub invariant-loop-field : goal.invariant-loop-field
invariant-loop-field l = list_any (source.has_instance l.instance) (drop l.field-index l.fields) ≡ list_any (source.has_instance l.instance) l.fields
