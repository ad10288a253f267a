use Rattle.std.proofs.Common.{◌≡◌, ◌++◌, None, drop, map}
use Rattle.access_blocks.specs.Marks as spec
use Rattle.access_blocks.proofs.marking.+marks.Given as goal

abbrev pub invariant-listed-loop-st : goal.invariant-listed-loop-st
invariant-listed-loop-st l =
    l.made ++ spec.list_placed l.current (map spec.marking_of (drop l.st-index l.all)) ≡ spec.list_placed None (map spec.marking_of l.all)
