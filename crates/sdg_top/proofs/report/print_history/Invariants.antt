use Rattle.std.proofs.Common.{◌≡◌, ◌++◌, take}
use Rattle.std.specs.List.{flat_map}
use Rattle.sdg_top.specs.Report.{step_line}
use Rattle.sdg_top.proofs.report.print_history.Given as goal

abbrev pub invariant-loop-step : goal.invariant-loop-step
invariant-loop-step l = l.out.items ≡ l.initial.out.items ++ flat_map (step_line l.fields) (take l.step-index l.history)
