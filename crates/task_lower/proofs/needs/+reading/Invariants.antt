use Rattle.std.proofs.Common.{◌≡◌, drop}
use Rattle.body_code.specs.Typing.{needs_of_all}
use Rattle.body_code.specs.Early.{is_in}
use Rattle.task_lower.proofs.needs.+reading.Given as goal

abbrev pub invariant-is_read_in-loop-e : goal.invariant-is_read_in-loop-e
invariant-is_read_in-loop-e l = is_in l.variable (needs_of_all (drop l.e-index l.all)).variables ≡ is_in l.variable (needs_of_all l.all).variables
