use Rattle.java_flow.proofs.NameSets.{one_more, at_end}
use Rattle.java_flow.proofs.names.leave_all_out.Goals as goal

pub loop-name-preserved : goal.loop-name-preserved
loop-name-preserved c = one_more _ _ _ _ _ _ c.in_ok-leave_out.ensures c.loop-name-test.true c.name-item.is c.loop-name.invariant

pub returns : goal.returns
returns c = at_end _ _ _ _ c.loop-name-test.false c.loop-name.invariant
