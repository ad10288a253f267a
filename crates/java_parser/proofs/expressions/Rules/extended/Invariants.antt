use Rattle.std.proofs.Common.{◌≡◌, ◌+◌, Ok}
use Rattle.java_tree.specs.Heights.{expr_height}
use Rattle.java_parser.specs.Words.{kinds}
use Rattle.java_parser.specs.Expressions.{read_at, extended_in}
use Rattle.java_parser.proofs.expressions.Rules.extended.Given as goal

abbrev pub invariant-loop-tighter : goal.invariant-loop-tighter
invariant-loop-tighter g l = record {
  read : extended_in (read_at l.self.levels) l.self.levels l.tighter l.fn.operand (kinds l.tokens) ≡ Ok (l.x, kinds l.rest);
  spare : l.spare + expr_height l.x ≡ l.self.levels + 1;
}
