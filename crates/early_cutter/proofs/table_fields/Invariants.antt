use Rattle.std.proofs.Common.{◌≡◌, map, take}
use Rattle.early_cutter.specs.Lowering.{table_field}
use Rattle.early_cutter.proofs.table_fields.Given as goal

abbrev pub invariant-loop-name : goal.invariant-loop-name
invariant-loop-name l = l.fields ≡ map table_field (take l.name-index l.names)
