use Rattle.std.proofs.Common.{take}
use Rattle.early_cutter.specs.Scopes.{Numbers}
use Rattle.early_cutter.proofs.point.scope_of.Given as goal

abbrev pub invariant-loop-parameter : goal.invariant-loop-parameter
invariant-loop-parameter l = Numbers l.scope (take l.parameter-index l.parameters)
