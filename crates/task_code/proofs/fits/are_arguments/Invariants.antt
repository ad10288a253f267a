use Rattle.std.proofs.Common.{◌≡◌, ◌-◌, drop}
use Rattle.std.specs.List.{range_with_len}
use Rattle.flat_code.specs.Fits.{has_types}
use Rattle.task_code.proofs.fits.are_arguments.Given as goal

-- what is left has its types where all has
abbrev pub invariant-loop-number : goal.invariant-loop-number
invariant-loop-number l = has_types l.method (range_with_len l.number (l.method.params - l.number)) (drop l.number l.values) ≡ has_types l.method (range_with_len 0 l.method.params) l.values
