use Rattle.std.proofs.Common.{◌≡◌, drop}
use Rattle.flat_code.specs.Items.{carried}
use Rattle.task_code.proofs.Carried.{after}
use Rattle.task_code.proofs.variables.carried.Given as goal

-- the values so far and those of the numbers that are left are all
abbrev pub invariant-loop-number : goal.invariant-loop-number
invariant-loop-number l = after l.values (carried (drop l.number-index l.numbers) l.variables) ≡ carried l.numbers l.variables
