use Rattle.std.proofs.Common.{◌≡◌, ◌-◌, length}
use Rattle.java_parser.specs.Words.{kinds, many_at}
use Rattle.java_parser.specs.Members.{has_modifier, modifier_at, modifiers_at}
use Rattle.java_parser.proofs.Many.{with_front}
use Rattle.java_parser.proofs.members.modifiers.Given as goal

abbrev pub invariant-loop : goal.invariant-loop
invariant-loop l = with_front l.modifiers (many_at has_modifier modifier_at (length l.tokens - l.counter) (kinds l.rest)) ≡ modifiers_at (kinds l.tokens)
