use Rattle.std.proofs.Common.{All, take}
use Rattle.early_forms.specs.Names.{MethodIsProper}
use Rattle.early_forms.proofs.names.methods_are_proper.Given as goal

abbrev pub invariant-loop-method : goal.invariant-loop-method
invariant-loop-method l = All (MethodIsProper l.fields) (take l.method-index l.methods)
