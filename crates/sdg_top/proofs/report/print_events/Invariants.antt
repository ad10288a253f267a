use Rattle.std.proofs.Common.{◌≡◌, ◌+◌, ◌++◌, drop}
use Rattle.std.specs.List.{flat_map, enumerate_from}
use Rattle.sdg_top.specs.Report.{event_line}
use Rattle.sdg_top.proofs.report.print_events.Given as goal

abbrev pub invariant-loop-index : goal.invariant-loop-index
invariant-loop-index l =
    l.out.items ++ flat_map event_line (enumerate_from (l.index + 1) (drop l.index l.words))
    ≡ l.initial.out.items ++ flat_map event_line (enumerate_from 1 l.words)
