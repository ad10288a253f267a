use Rattle.std.proofs.Common.{◌≡◌, ◌-◌, length}
use Rattle.java_parser.specs.Words.{kinds, many_at}
use Rattle.java_parser.specs.Statements.{has_more, item_at, items_at, statement_at}
use Rattle.java_parser.proofs.Many.{with_front}
use Rattle.java_parser.proofs.statements.Statements.items.Given as goal

abbrev pub invariant-loop : goal.invariant-loop
invariant-loop g l = with_front l.items (many_at has_more (item_at l.self.levels (statement_at l.self.levels)) (length l.tokens - l.counter) (kinds l.rest)) ≡ items_at l.self.levels (statement_at l.self.levels) (kinds l.tokens)
