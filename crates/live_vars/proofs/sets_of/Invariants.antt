use Rattle.std.proofs.Common.{take}
use Rattle.live_vars.specs.Sets.{AreLiveSets}
use Rattle.live_vars.proofs.sets_of.Given as goal

abbrev pub invariant-loop-method : goal.invariant-loop-method
invariant-loop-method l = AreLiveSets (take l.method-index l.methods) l.sets
