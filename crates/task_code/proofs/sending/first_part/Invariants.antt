use Rattle.std.proofs.Common.{◌≡◌, drop}
use Rattle.flat_code.specs.Items.{first_part}
use Rattle.task_code.proofs.sending.first_part.Given as goal

-- the first part is further on
abbrev pub invariant-loop-at : goal.invariant-loop-at
invariant-loop-at l = first_part (drop l.at l.code) ≡ first_part (drop l.start l.code)
