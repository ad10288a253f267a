use Rattle.early_plain.proofs.WholeCalls.{CallsFrom}
use Rattle.early_plain.proofs.run.plain.Given as goal

abbrev pub invariant-loop-call : goal.invariant-loop-call
invariant-loop-call l = CallsFrom l.class l.calls l.call-index l.tables l.outcomes
