-- What the private functions answer of a call.
use Rattle.std.specs.Prelude.{◌≡◌, List}
use Rattle.sdg_base.specs.declared.val.Outcome.{Outcome}
use Rattle.access_blocks.specs.Statements.{Field, Completed}
use Rattle.access_blocks.specs.Calls.{outcome_by}

-- A body that completes so ends its call with this outcome, and leaves these fields.
pub record Completes (c : Completed) (o : Outcome) (left : List Field) : Type 0 where
  pub outcome : o ≡ outcome_by c.completion
  pub fields : left ≡ c.machine.fields
