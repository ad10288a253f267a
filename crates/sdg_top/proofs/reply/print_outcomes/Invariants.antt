use Rattle.std.proofs.Common.{◌≡◌, ◌+◌, ◌++◌, drop}
use Rattle.std.specs.List.{flat_map, enumerate_from}
use Rattle.sdg_top.specs.Report.{result_line}
use Rattle.sdg_top.proofs.reply.print_outcomes.Given as goal

abbrev pub invariant-loop-index : goal.invariant-loop-index
invariant-loop-index l =
    l.out.items ++ flat_map result_line (enumerate_from (l.index + 1) (drop l.index l.outcomes))
    ≡ l.initial.out.items ++ flat_map result_line (enumerate_from 1 l.outcomes)
