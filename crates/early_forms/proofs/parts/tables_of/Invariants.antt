use Rattle.std.proofs.Common.{◌≡◌, map, take}
use Rattle.early_forms.specs.Trees.{table_member}
use Rattle.early_forms.proofs.parts.tables_of.Given as goal

abbrev pub invariant-loop-member : goal.invariant-loop-member
invariant-loop-member l = take l.member-index l.members ≡ map table_member l.fields
