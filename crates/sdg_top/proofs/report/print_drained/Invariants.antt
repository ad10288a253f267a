use Rattle.std.proofs.Common.{◌≡◌, ◌++◌, take}
use Rattle.std.specs.List.{flat_map}
use Rattle.sdg_top.specs.Report.{drain_line}
use Rattle.sdg_top.proofs.report.print_drained.Given as goal

abbrev pub invariant-loop-failure : goal.invariant-loop-failure
invariant-loop-failure l = l.out.items ≡ l.initial.out.items ++ flat_map drain_line (take l.failure-index l.drained)
