use Rattle.std.proofs.Common.{◌≡◌, take}
use Rattle.plain_java.proofs.run.arguments.Given as goal

-- the values so far
abbrev pub invariant-loop-value : goal.invariant-loop-value
invariant-loop-value l = l.arguments.items ≡ take l.value-index l.values
