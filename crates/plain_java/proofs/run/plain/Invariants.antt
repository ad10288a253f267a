use Rattle.std.proofs.Common.{◌≡◌, ◌++◌, drop}
use Rattle.plain_java.specs.Plain as spec
use Rattle.plain_java.proofs.run.plain.Given as goal

-- the outcomes so far, and those of the calls to come from the fields as they are, are those of all calls
abbrev pub invariant-loop-call : goal.invariant-loop-call
invariant-loop-call l = l.outcomes ++ spec.plain_from l.program (drop l.call-index l.call-items) l.fields.items ≡ spec.plain l.program l.calls
