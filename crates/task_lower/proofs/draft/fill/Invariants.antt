use Rattle.std.proofs.Common.{◌≡◌, length}
use Rattle.task_lower.specs.Drafting.{filled}
use Rattle.task_lower.proofs.draft.fill.Given as goal

abbrev pub invariant-loop-hole : goal.invariant-loop-hole
invariant-loop-hole l =
    filled l.code l.holes (record { break_to = l.break_to; continue_to = l.continue_to }) ≡ filled l.initial.code l.initial.holes (record { break_to = l.break_to; continue_to = l.continue_to })

abbrev pub decreases-loop-hole : goal.decreases-loop-hole
decreases-loop-hole l = length l.holes
