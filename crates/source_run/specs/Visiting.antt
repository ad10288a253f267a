-- What a visit leaves of the parts of an access.
use Rattle.std.specs.Prelude.{ℕ, List, slice_set, Option, Some, None}
use Rattle.sdg_base.specs.declared.val.Outcome.{Outcome}

abbrev pub with_answer : List (Option Outcome) → ℕ → Option Outcome → List (Option Outcome)
with_answer parts i None = parts
with_answer parts i (Some answer) = slice_set parts i (Some answer)
