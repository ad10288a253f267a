use Rattle.history_run.proofs.Stepped.{SoFar}
use Rattle.history_run.proofs.steps.stepped.Given as goal

abbrev pub invariant-loop-place : goal.invariant-loop-place
invariant-loop-place l = SoFar l.program l.calls l.history l.place l.results l.source
