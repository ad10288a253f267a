use Rattle.std.proofs.Common.{◌≡◌, take, map}
use Rattle.access_blocks.specs.Resolving as spec
use Rattle.access_blocks.proofs.calls.all_wanted.Given as goal

abbrev pub invariant-loop-argument : goal.invariant-loop-argument
invariant-loop-argument l = l.all ≡ map spec.wanted_by (take l.argument-index l.arguments)
