use Rattle.std.proofs.Common.{◌≡◌, drop}
use Rattle.std.specs.List.{list_any}
use Rattle.body_code.specs.ClassCode.{is_jump_to}
use Rattle.task_lower.proofs.bodies.has_jump_to.Given as goal

abbrev pub invariant-loop-instr : goal.invariant-loop-instr
invariant-loop-instr l = list_any (is_jump_to l.at) (drop l.instr-index l.code) ≡ list_any (is_jump_to l.at) l.code
