use Rattle.body_run.proofs.calls.+call_within.Given as goal

abbrev pub decreases-call_within : goal.decreases-call_within
decreases-call_within l = l.depth
