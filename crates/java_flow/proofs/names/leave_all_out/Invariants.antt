use Rattle.std.proofs.Common.{◌≡◌, drop}
use Rattle.java_flow.specs.Assigned.{all_but, both}
use Rattle.java_flow.proofs.names.leave_all_out.Given as goal

abbrev pub invariant-loop-name : goal.invariant-loop-name
invariant-loop-name l = both (all_but l.names.items) (all_but (drop l.name-index l.others)) ≡ both (all_but l.initial.names.items) (all_but l.others)
