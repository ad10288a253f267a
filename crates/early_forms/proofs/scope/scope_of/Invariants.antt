use Rattle.std.proofs.Common.{take}
use Rattle.early_forms.specs.Scope.{Holds}
use Rattle.early_forms.proofs.scope.scope_of.Given as goal

abbrev pub invariant-loop-parameter : goal.invariant-loop-parameter
invariant-loop-parameter l = Holds l.scope.keys (take l.parameter-index l.parameters)
