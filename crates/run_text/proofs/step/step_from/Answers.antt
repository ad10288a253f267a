use Rattle.std.proofs.Common.{[]}
use Rattle.std.specs.Prelude.{codes}
use Rattle.run_text.proofs.Steps.{begin_no_growth, block_no_growth, visit_no_growth, join_no_growth, no_such_call, misplaced}
use Rattle.run_text.proofs.step.step_from.Goals as goal

pub returns-in-None-clause-bad : goal.returns-in-None-clause-bad
returns-in-None-clause-bad c = rw c.in-Begin.is (no_such_call c.args.fields.now c.args.calls (codes "begin") c.in-Begin.call.now [] begin_no_growth c.in-None.ensures)

pub returns-in-None-number_upto-clause-bad : goal.returns-in-None-number_upto-clause-bad
returns-in-None-number_upto-clause-bad c = rw c.in-Block.is (no_such_call c.args.fields.now c.args.calls (codes "block") c.in-Block.call.now [] block_no_growth c.in-None-number_upto.ensures)

pub returns-in-Err-clause-bad : goal.returns-in-Err-clause-bad
returns-in-Err-clause-bad c = rw c.in-BlockAt.is (misplaced c.args.fields.now c.args.calls c.args.room.now (codes "block") c.in-BlockAt.call.now c.in-BlockAt.instance.now c.in-Err.rule c.requires.room block_no_growth c.in-Err.ensures.bad)

pub returns-in-Err-placed-clause-bad : goal.returns-in-Err-placed-clause-bad
returns-in-Err-placed-clause-bad c = rw c.in-Visit.is (misplaced c.args.fields.now c.args.calls c.args.room.now (codes "visit") c.in-Visit.call.now c.in-Visit.instance.now c.in-Err-placed.rule c.requires.room visit_no_growth c.in-Err-placed.ensures.bad)

pub returns-in-None-number_upto-2-clause-bad : goal.returns-in-None-number_upto-2-clause-bad
returns-in-None-number_upto-2-clause-bad c = rw c.in-Join.is (no_such_call c.args.fields.now c.args.calls (codes "join") c.in-Join.call.now [] join_no_growth c.in-None-number_upto-2.ensures)

pub returns-in-Grow-clause-bad : goal.returns-in-Grow-clause-bad
returns-in-Grow-clause-bad c = rw c.in-Grow.is (c.growth.ensures.bad c.args.calls)
