use Rattle.std.proofs.Common.{◌≡◌, ◌++◌, drop}
use Rattle.access_blocks.specs.Programs as spec
use Rattle.access_blocks.proofs.programs.holders.Given as goal

abbrev pub invariant-loop-number : goal.invariant-loop-number
invariant-loop-number l = l.all ++ spec.holders (drop l.number l.classes) (drop l.number l.kinds) ≡ spec.holders l.classes l.kinds
