use Rattle.std.proofs.Common.{◌≡◌, ◌++◌, drop, map}
use Rattle.access_blocks.specs.Programs as spec
use Rattle.access_blocks.proofs.programs.classes_of.Given as goal

abbrev pub invariant-loop-member : goal.invariant-loop-member
invariant-loop-member l = l.all ++ map spec.class_of (spec.fields_in (drop l.member-index l.members)) ≡ map spec.class_of (spec.fields_in l.members)
