-- The errors that callers see.
use Rattle.java_tree.specs.declared.token.Place.{Place}
use Rattle.java_parser.specs.declared.error.ParseError.{ParseError}
use Rattle.java_parser.specs.declared.error.ParseError.TheVariants as errors
use Rattle.java_parser.specs.declared.error.Refusal.{Refusal}
use Rattle.java_parser.specs.declared.error.Refusal.TheVariants as refusal

-- the first place of a text
abbrev pub start : Place
start = record { line = 1; column = 1 }

abbrev pub error_of : Refusal → ParseError
error_of (refusal.NoClass left) = errors.NoClass start
error_of (refusal.TooDeep left) = errors.NoClass start
error_of refusal.Memory = errors.Memory
