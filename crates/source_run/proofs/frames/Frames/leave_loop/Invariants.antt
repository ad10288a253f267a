use Rattle.std.proofs.Common.{◌≡◌, vec_len}
use Rattle.access_blocks.specs.Source.{left_loop}
use Rattle.source_run.specs.Seen.{frames_of}
use Rattle.source_run.proofs.frames.Frames.leave_loop.Given as goal

abbrev pub invariant-loop-frame : goal.invariant-loop-frame
invariant-loop-frame l = left_loop (frames_of l.self) ≡ left_loop (frames_of l.initial.self)

abbrev pub decreases-loop-frame : goal.decreases-loop-frame
decreases-loop-frame l = vec_len l.self.frames
