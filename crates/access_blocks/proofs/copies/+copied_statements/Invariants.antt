use Rattle.std.proofs.Common.{◌≡◌, take}
use Rattle.access_blocks.proofs.copies.+copied_statements.Given as goal

abbrev pub invariant-copy_statements-loop-st : goal.invariant-copy_statements-loop-st
invariant-copy_statements-loop-st l = l.copy ≡ take l.st-index l.all
