use Rattle.std.proofs.Common.{◌≡◌, drop}
use Rattle.flat_code.specs.Items.{gathered_of, with_part}
use Rattle.task_code.specs.Gathering.{after}
use Rattle.task_code.proofs.joins.gather.Given as goal

-- the part among what is left is gathered behind the values so far
abbrev pub invariant-loop-at : goal.invariant-loop-at
invariant-loop-at l = after l.values (gathered_of (with_part l.part (drop l.at l.others))) ≡ after l.fn.values (gathered_of (with_part l.part l.others))
