use Rattle.std.proofs.Common.{◌≡◌, replicate, None}
use Rattle.source_run.proofs.runs.unmade.Given as goal

abbrev pub invariant-loop-part : goal.invariant-loop-part
invariant-loop-part l = l.parts.items ≡ replicate l._part None
