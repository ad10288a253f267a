use Rattle.std.proofs.Common.{◌≡◌, drop}
use Rattle.flat_code.specs.Items.{gathered_of}
use Rattle.task_code.specs.Gathering.{after}
use Rattle.task_code.proofs.joins.gather_all.Given as goal

-- what is left is gathered behind the values so far
abbrev pub invariant-loop-part : goal.invariant-loop-part
invariant-loop-part l = after l.values (gathered_of (drop l.part-index l.parts)) ≡ after l.fn.values (gathered_of l.parts)
