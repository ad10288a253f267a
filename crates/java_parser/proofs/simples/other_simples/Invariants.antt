use Rattle.std.proofs.Common.{◌≡◌, ◌-◌, length}
use Rattle.java_parser.specs.Words.{kinds, many_at, begins}
use Rattle.java_parser.specs.Members.{comma}
use Rattle.java_parser.specs.Simples.{other_simple_at, other_simples_at}
use Rattle.java_parser.proofs.Many.{with_front}
use Rattle.java_parser.proofs.simples.other_simples.Given as goal

abbrev pub invariant-loop : goal.invariant-loop
invariant-loop l = with_front l.simples (many_at (begins comma) (other_simple_at l.levels) (length l.tokens - l.counter) (kinds l.rest)) ≡ other_simples_at l.levels (kinds l.tokens)
