use Rattle.std.proofs.Common.{◌≡◌}
use Rattle.flat_code.specs.Machine.{most_steps, run_within}
use Rattle.task_code.specs.Seen.{frame_of, setting_of}
use Rattle.task_code.proofs.Fuel.{left}
use Rattle.task_code.proofs.Partway.{Rests}
use Rattle.task_code.proofs.run.run.Given as goal

-- what is left to run gives what all gives, and leaves what all leaves
abbrev pub invariant-loop-frame : goal.invariant-loop-frame
invariant-loop-frame g l =
    (run_within (most_steps l.code l.fn.frame.turns) (setting_of l.engine) l.code (frame_of l.frame) (g.A.Access.held l.state)
    ≡ run_within (most_steps l.code l.fn.frame.turns) (setting_of l.engine) l.code (frame_of l.fn.frame) (g.A.Access.held l.fn.state))
    × Rests (setting_of l.engine) l.code (frame_of l.fn.frame) (g.A.Access.held l.fn.state) (frame_of l.frame) (g.A.Access.held l.state)

abbrev pub decreases-loop-frame : goal.decreases-loop-frame
decreases-loop-frame g l = left (most_steps l.code l.fn.frame.turns) (setting_of l.engine) l.code (frame_of l.frame) (g.A.Access.held l.state)
