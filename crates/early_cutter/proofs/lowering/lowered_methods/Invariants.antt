use Rattle.std.proofs.Common.{◌≡◌, ◌++◌, drop}
use Rattle.early_cutter.specs.Lowering.{lowered_methods}
use Rattle.early_cutter.proofs.lowering.lowered_methods.Given as goal

abbrev pub invariant-loop-method : goal.invariant-loop-method
invariant-loop-method l = l.flat ++ lowered_methods l.fields l.start (drop l.method-index l.methods) ≡ lowered_methods l.fields 0 l.methods
