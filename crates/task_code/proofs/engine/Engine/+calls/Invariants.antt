use Rattle.std.proofs.Common.{◌≡◌, ◌+◌, ◌*◌}
use Rattle.flat_code.specs.Machine.{most_steps, no_state, run_within}
use Rattle.task_code.specs.Seen.{frame_of, setting_of}
use Rattle.task_code.proofs.Fuel.{left}
use Rattle.task_code.proofs.engine.Engine.+calls.Given as goal

abbrev pub decreases-call_method : goal.decreases-call_method
decreases-call_method l = 4 * l.self.now.depth

abbrev pub decreases-step : goal.decreases-step
decreases-step l = 4 * l.self.now.depth + 1

abbrev pub decreases-run_method : goal.decreases-run_method
decreases-run_method l = 4 * l.self.now.depth + 2

abbrev pub decreases-method_called : goal.decreases-method_called
decreases-method_called l = 4 * l.self.now.depth + 3

-- what is left to run gives what all gives
abbrev pub invariant-run_method-loop-frame : goal.invariant-run_method-loop-frame
invariant-run_method-loop-frame l =
    run_within (most_steps l.code l.fn.frame.turns) (setting_of l.self) l.code (frame_of l.frame) no_state
    ≡ run_within (most_steps l.code l.fn.frame.turns) (setting_of l.self) l.code (frame_of l.fn.frame) no_state

abbrev pub decreases-run_method-loop-frame : goal.decreases-run_method-loop-frame
decreases-run_method-loop-frame l = left (most_steps l.code l.fn.frame.turns) (setting_of l.self) l.code (frame_of l.frame) no_state
