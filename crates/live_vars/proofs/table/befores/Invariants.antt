use Rattle.live_vars.specs.Steps.{AreBefore}
use Rattle.live_vars.proofs.table.befores.Given as goal

abbrev pub invariant-loop-at : goal.invariant-loop-at
invariant-loop-at l = AreBefore l.code l.at l.table.items
