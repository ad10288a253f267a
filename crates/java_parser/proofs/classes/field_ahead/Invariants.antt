use Rattle.std.proofs.Common.{◌≡◌, length}
use Rattle.java_parser.specs.Words.{kinds}
use Rattle.java_parser.specs.Classes.{field_ahead}
use Rattle.java_parser.proofs.classes.field_ahead.Given as goal

abbrev pub invariant-loop-rest : goal.invariant-loop-rest
invariant-loop-rest l = field_ahead (kinds l.rest) ≡ field_ahead (kinds l.tokens)

abbrev pub decreases-loop-rest : goal.decreases-loop-rest
decreases-loop-rest l = length l.rest
