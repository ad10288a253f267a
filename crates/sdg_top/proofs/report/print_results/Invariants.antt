use Rattle.std.proofs.Common.{◌≡◌, ◌++◌, take}
use Rattle.std.specs.List.{flat_map}
use Rattle.sdg_top.specs.Report.{result_line}
use Rattle.sdg_top.proofs.report.print_results.Given as goal

abbrev pub invariant-loop-call : goal.invariant-loop-call
invariant-loop-call l = l.out.items ≡ l.initial.out.items ++ flat_map result_line (take l.call-index l.results)
