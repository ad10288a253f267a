use Rattle.std.proofs.Common.{◌≡◌, ◌+◌, length}
use Rattle.java_lexer.specs.Reading.{closed_from}
use Rattle.java_lexer.proofs.space.closed_len.Given as goal

abbrev pub invariant-loop-rest : goal.invariant-loop-rest
invariant-loop-rest l = (closed_from l.len l.rest ≡ closed_from 0 l.text) × (l.len + length l.rest ≡ length l.text)

abbrev pub decreases-loop-rest : goal.decreases-loop-rest
decreases-loop-rest l = length l.rest
