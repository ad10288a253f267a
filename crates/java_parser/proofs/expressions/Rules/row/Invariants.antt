use Rattle.std.proofs.Common.{◌≡◌, ◌-◌, ◌+◌, length}
use Rattle.java_tree.specs.Heights.{expr_height}
use Rattle.java_parser.specs.Words.{kinds}
use Rattle.java_parser.specs.Expressions.{read_at, row_from, row_in}
use Rattle.java_parser.proofs.expressions.Rules.row.Given as goal

abbrev pub invariant-loop : goal.invariant-loop
invariant-loop g l = record {
  read : row_from (read_at l.self.levels) l.self.levels l.looseness (length l.tokens - l.counter) l.left (kinds l.rest) ≡ row_in (read_at l.self.levels) l.self.levels l.looseness l.fn.first (kinds l.tokens);
  spare : l.spare + expr_height l.left ≡ l.self.levels + 1;
}
