use Rattle.std.proofs.Common.{◌≡◌, map, take}
use Rattle.access_blocks.specs.Source.{field_at_start}
use Rattle.plain_java.proofs.run.fields_of.Given as goal

-- the fields so far
abbrev pub invariant-loop-holder : goal.invariant-loop-holder
invariant-loop-holder l = l.fields.items ≡ map (field_at_start 0) (take l.holder-index l.holders)
