use Rattle.std.proofs.Common.{◌≡◌, ◌++◌, drop}
use Rattle.access_blocks.specs.Programs.{fields_in}
use Rattle.body_code.specs.ClassCode as spec
use Rattle.task_lower.proofs.classes.graph_fields.Given as goal

abbrev pub invariant-loop-member : goal.invariant-loop-member
invariant-loop-member l = l.all ++ spec.graph_fields (fields_in (drop l.member-index l.members)) l.rest ≡ spec.graph_fields (fields_in l.members) l.holders
