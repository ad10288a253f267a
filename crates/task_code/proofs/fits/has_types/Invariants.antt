use Rattle.std.proofs.Common.{◌≡◌, drop}
use Rattle.flat_code.specs.Fits.{has_types}
use Rattle.task_code.proofs.fits.has_types.Given as goal

-- what is left has its types where all has
abbrev pub invariant-loop-index : goal.invariant-loop-index
invariant-loop-index l = has_types l.method (drop l.index l.numbers) (drop l.index l.values) ≡ has_types l.method l.numbers l.values
