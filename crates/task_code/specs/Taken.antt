-- What a join task takes.
use Rattle.std.specs.Prelude.{ℕ, Bool, true, false, ◌&&◌, List, Option, Some, None}
use Rattle.sdg_base.specs.declared.val.Outcome.{Outcome}
use Rattle.sdg_base.specs.declared.val.Val.{Val}
use Rattle.flat_code.specs.declared.graph.Graph.{Graph}
use Rattle.flat_code.specs.declared.graph.GraphMethod.{GraphMethod}
use Rattle.flat_code.specs.declared.graph.Task.{Task}
use Rattle.flat_code.specs.declared.graph.TaskKind.TheVariants as kind
use Rattle.flat_code.specs.Types.{type_of_variable}
use Rattle.flat_code.specs.Fits.{takes, brings, is_type}

-- a task takes a part with so many turns, these values and this outcome
abbrev pub takes_part : Graph → Option Task → ℕ → List Val → Outcome → Bool
takes_part graph t turns vs how = takes graph kind.Join t turns vs && brings graph t how

-- a value is there, and of the type of a variable
abbrev pub has_type_at : GraphMethod → ℕ → Option Val → Bool
has_type_at m n None = false
has_type_at m n (Some v) = is_type (type_of_variable m n) v

abbrev pub is_absent : Option Val → Bool
is_absent None = true
is_absent (Some v) = false
