use Rattle.std.proofs.Common.{◌≡◌, ◌-◌, length}
use Rattle.java_parser.specs.Words.{kinds, many_at, begins}
use Rattle.java_parser.specs.Members.{comma, other_param_at, other_params_at}
use Rattle.java_parser.proofs.Many.{with_front}
use Rattle.java_parser.proofs.members.other_params.Given as goal

abbrev pub invariant-loop : goal.invariant-loop
invariant-loop l = with_front l.params (many_at (begins comma) other_param_at (length l.tokens - l.counter) (kinds l.rest)) ≡ other_params_at (kinds l.tokens)
