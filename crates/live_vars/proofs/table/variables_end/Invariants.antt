use Rattle.std.proofs.Common.{◌≤◌, ◌^◌}
use Rattle.live_vars.specs.Steps.{AreReadBelow}
use Rattle.live_vars.proofs.table.variables_end.Given as goal

abbrev pub invariant-loop-instr : goal.invariant-loop-instr
invariant-loop-instr l = record { above : AreReadBelow l.code l.instr-index l.end; few : l.end ≤ 2 ^ 32 }
