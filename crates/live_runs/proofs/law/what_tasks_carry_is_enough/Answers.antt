use Rattle.live_runs.proofs.Items as items
use Rattle.live_runs.proofs.Small as small
use Rattle.live_runs.proofs.Tasks as tasks
use Rattle.live_runs.proofs.law.what_tasks_carry_is_enough.Goals as goal

pub returns-clause-cut : goal.returns-clause-cut
returns-clause-cut c = tasks.cut_graphs_carry_live

pub returns-clause-frames : goal.returns-clause-frames
returns-clause-frames c = tasks.frames_have_what_is_carried

pub returns-clause-runs : goal.returns-clause-runs
returns-clause-runs c = items.carried_is_enough

pub returns-clause-items : goal.returns-clause-items
returns-clause-items c = items.items_do_as_whole_frames

pub returns-clause-small : goal.returns-clause-small
returns-clause-small c = small.small_runs
