-- What an object of a class that holds state holds, and what a call of a method answers and leaves.
use Rattle.std.specs.Prelude.{ℕ, ℤ, pos, List, [], Option, Some, None, unwrap_or}
use Rattle.std.specs.Ordering.{int_cmp}
use Rattle.sdg_base.specs.declared.store.ClassName.{ClassName}
use Rattle.sdg_base.specs.declared.store.ClassName.TheVariants as class_name
use Rattle.sdg_base.specs.declared.val.Outcome.{Outcome}
use Rattle.sdg_base.specs.declared.val.Val.{Val}
use Rattle.state_classes.specs.declared.method.Method.{Method}
use Rattle.state_classes.specs.declared.plan.Plan.{Plan}
use Rattle.state_classes.specs.Entries.{Entries, MatrixKey, by_row_and_column, changed}
use Rattle.state_classes.specs.Plans.{planned_on_table, planned_on_matrix, planned_on_counter}

-- the entries of a table or of a matrix, or the number of a counter
pub data State : Type 0 where
  OfTable : Entries ℤ → State
  OfMatrix : Entries MatrixKey → State
  OfCounter : ℤ → State

-- a new object's: no entries, or 0
abbrev pub empty_state : ClassName → State
empty_state class_name.Table = OfTable []
empty_state class_name.Matrix = OfMatrix []
empty_state class_name.Counter = OfCounter (pos 0)

abbrev pub class_of : State → ClassName
class_of (OfTable entries) = class_name.Table
class_of (OfMatrix entries) = class_name.Matrix
class_of (OfCounter value) = class_name.Counter

-- A counter always has its one entry.
abbrev pub set_to : Option (ℕ × Option ℤ) → ℤ → ℤ
set_to None value = value
set_to (Some change) value = unwrap_or change.1 value

-- the outcome of a call, and the state after it: the plan's, and the plan's change made
abbrev pub called_on_table : Plan ℤ ℤ → Entries ℤ → Outcome × State
called_on_table plan entries = (plan.outcome, OfTable (changed int_cmp plan.change entries))

abbrev pub called_on_matrix : Plan MatrixKey ℤ → Entries MatrixKey → Outcome × State
called_on_matrix plan entries = (plan.outcome, OfMatrix (changed by_row_and_column plan.change entries))

abbrev pub called_on_counter : Plan ℕ ℤ → ℤ → Outcome × State
called_on_counter plan value = (plan.outcome, OfCounter (set_to plan.change value))

unfoldable pub called : Method → List Val → State → Outcome × State
called m args (OfTable entries) = called_on_table (planned_on_table m args entries) entries
called m args (OfMatrix entries) = called_on_matrix (planned_on_matrix m args entries) entries
called m args (OfCounter value) = called_on_counter (planned_on_counter m args value) value
