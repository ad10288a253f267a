use Rattle.std.proofs.Common.{◌≡◌, take}
use Rattle.access_blocks.proofs.copies.+copied_expressions.Given as goal

abbrev pub invariant-copy_expressions-loop-e : goal.invariant-copy_expressions-loop-e
invariant-copy_expressions-loop-e l = l.copy ≡ take l.e-index l.all
