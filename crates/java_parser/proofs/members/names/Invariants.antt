use Rattle.std.proofs.Common.{◌≡◌, ◌-◌, length}
use Rattle.java_parser.specs.Words.{kinds, many_at}
use Rattle.java_parser.specs.Members.{has_dotted, dotted_at, names_at}
use Rattle.java_parser.proofs.Many.{with_front}
use Rattle.java_parser.proofs.members.names.Given as goal

abbrev pub invariant-loop : goal.invariant-loop
invariant-loop l = with_front l.names (many_at (has_dotted l.is_import) dotted_at (length l.tokens - l.counter) (kinds l.rest)) ≡ names_at l.is_import (kinds l.tokens)
