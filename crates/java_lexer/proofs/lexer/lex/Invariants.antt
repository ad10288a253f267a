use Rattle.std.proofs.Common.{◌+◌, ◌≤◌, length}
use Rattle.java_lexer.specs.Places.{first_place}
use Rattle.java_lexer.specs.Spelling.{Reads}
use Rattle.java_lexer.proofs.lexer.lex.Given as goal

abbrev pub invariant-loop-rest : goal.invariant-loop-rest
invariant-loop-rest l = record {
  reads : Reads first_place l.bytes l.list l.place l.rest;
  line : l.place.line + length l.rest ≤ 1 + length l.bytes;
  column : l.place.column + length l.rest ≤ 1 + length l.bytes;
}

abbrev pub decreases-loop-rest : goal.decreases-loop-rest
decreases-loop-rest l = length l.rest
