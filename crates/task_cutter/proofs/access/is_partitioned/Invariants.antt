use Rattle.std.proofs.Common.{◌≡◌, drop}
use Rattle.flat_code.specs.Types.{field_named}
use Rattle.task_cutter.proofs.access.is_partitioned.Given as goal

abbrev pub invariant-loop-field : goal.invariant-loop-field
invariant-loop-field l = field_named l.name (drop l.field-index l.fields) ≡ field_named l.name l.fields
