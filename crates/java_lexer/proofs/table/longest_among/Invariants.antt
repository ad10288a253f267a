use Rattle.std.proofs.Common.{◌≡◌, drop, None}
use Rattle.java_lexer.specs.Reading.{longest_from}
use Rattle.java_lexer.proofs.table.longest_among.Given as goal

abbrev pub invariant-loop-symbol : goal.invariant-loop-symbol
invariant-loop-symbol l = longest_from l.longest l.text (drop l.symbol-index l.table) ≡ longest_from None l.text l.table
