use Rattle.std.proofs.Common.{◌≡◌, drop, map}
use Rattle.access_blocks.specs.Marks as spec
use Rattle.access_blocks.proofs.marking.+keys.Given as goal

abbrev pub invariant-first_key-loop-st : goal.invariant-first_key-loop-st
invariant-first_key-loop-st l = spec.first_in (map spec.key_of (drop l.st-index l.all)) ≡ spec.first_in (map spec.key_of l.all)
