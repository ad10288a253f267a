use Rattle.std.proofs.Common.{◌≡◌, ◌++◌, drop}
use Rattle.access_blocks.specs.Programs.{methods_in}
use Rattle.body_code.specs.ClassCode as spec
use Rattle.task_lower.proofs.classes.callees.Given as goal

abbrev pub invariant-loop-member : goal.invariant-loop-member
invariant-loop-member l = l.all ++ spec.callees (methods_in (drop l.member-index l.members)) l.rest ≡ spec.callees (methods_in l.members) l.bodies
