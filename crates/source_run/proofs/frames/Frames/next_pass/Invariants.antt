use Rattle.std.proofs.Common.{◌≡◌, vec_len}
use Rattle.access_blocks.specs.Source.{next_pass}
use Rattle.source_run.specs.Seen.{frames_of}
use Rattle.source_run.proofs.frames.Frames.next_pass.Given as goal

abbrev pub invariant-loop-frame : goal.invariant-loop-frame
invariant-loop-frame l = next_pass (frames_of l.self) ≡ next_pass (frames_of l.initial.self)

abbrev pub decreases-loop-frame : goal.decreases-loop-frame
decreases-loop-frame l = vec_len l.self.frames
