use Rattle.std.proofs.Common.{◌≡◌, ◌-◌, length}
use Rattle.java_parser.specs.Words.{kinds, many_at}
use Rattle.java_parser.specs.Statements.{has_more}
use Rattle.java_parser.specs.Classes.{member_at, members_at}
use Rattle.java_parser.proofs.Many.{with_front}
use Rattle.java_parser.proofs.classes.members.Given as goal

abbrev pub invariant-loop : goal.invariant-loop
invariant-loop l = with_front l.members (many_at has_more (member_at l.levels) (length l.tokens - l.counter) (kinds l.rest)) ≡ members_at l.levels (kinds l.tokens)
