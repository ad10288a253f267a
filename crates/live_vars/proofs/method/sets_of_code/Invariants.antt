use Rattle.live_vars.specs.Walks.{AreSets}
use Rattle.live_vars.proofs.method.sets_of_code.Given as goal

abbrev pub invariant-loop-variable : goal.invariant-loop-variable
invariant-loop-variable l = AreSets l.code l.variable l.variable l.sets.items
