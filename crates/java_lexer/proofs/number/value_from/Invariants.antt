use Rattle.std.proofs.Common.{◌≡◌, drop}
use Rattle.java_lexer.specs.Reading.{value_from}
use Rattle.java_lexer.proofs.number.value_from.Given as goal

abbrev pub invariant-loop-byte : goal.invariant-loop-byte
invariant-loop-byte l = value_from l.radix l.value (drop l.byte-index l.text) ≡ value_from l.radix 0 l.text
