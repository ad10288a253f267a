use Rattle.std.proofs.Common.{◌≡◌, ◌-◌, length, drop}
use Rattle.early_task_code.specs.Machine.{run}
use Rattle.early_task_code.proofs.run.run.Given as goal

-- what is left to run from here gives the whole answer
abbrev pub invariant-loop-at : goal.invariant-loop-at
invariant-loop-at g l =
    run l.context (drop l.at l.code) l.frame.stack l.frame.vars l.frame.turns (g.A.Access.held l.state)
    ≡ run l.context (drop l.start l.code) l.fn.frame.stack l.fn.frame.vars l.fn.frame.turns (g.A.Access.held l.fn.state)

abbrev pub decreases-loop-at : goal.decreases-loop-at
decreases-loop-at g l = length l.code - l.at
