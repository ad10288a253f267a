use Rattle.std.proofs.Common.{◌≡◌, ◌-◌, length}
use Rattle.java_parser.specs.Words.{kinds, many_at}
use Rattle.java_parser.specs.Members.{has_field_modifier, field_modifier_at, field_modifiers_at}
use Rattle.java_parser.proofs.Many.{with_front}
use Rattle.java_parser.proofs.members.field_modifiers.Given as goal

abbrev pub invariant-loop : goal.invariant-loop
invariant-loop l = with_front l.modifiers (many_at has_field_modifier field_modifier_at (length l.tokens - l.counter) (kinds l.rest)) ≡ field_modifiers_at (kinds l.tokens)
