use Rattle.std.proofs.Common.{◌≡◌, ◌-◌, ◌+◌, length}
use Rattle.java_parser.specs.Words.{kinds, begins, many_at}
use Rattle.java_parser.specs.Members.{comma}
use Rattle.java_parser.specs.Expressions.{read_at, other_value_in, other_values_in}
use Rattle.java_parser.specs.Deeper.{values_height}
use Rattle.java_parser.proofs.Many.{with_front}
use Rattle.java_parser.proofs.expressions.Rules.other_values.Given as goal

abbrev pub invariant-loop : goal.invariant-loop
invariant-loop g l = record {
  read : with_front l.values (many_at (begins comma) (other_value_in (read_at l.self.levels)) (length l.tokens - l.counter) (kinds l.rest)) ≡ other_values_in (read_at l.self.levels) (kinds l.tokens);
  spare : l.least + values_height l.values ≡ l.self.levels;
}
