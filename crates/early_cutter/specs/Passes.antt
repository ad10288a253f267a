-- What the pass over a method's code from its end knows behind a place.
use Rattle.std.specs.Prelude.{◌≡◌, ℕ, List, reverse}
use Rattle.early_task_code.specs.declared.graph.Instr.{Instr}
use Rattle.early_cutter.specs.declared.cutting.Behind.{Behind}
use Rattle.early_cutter.specs.Liveness.{live_variables}
use Rattle.early_cutter.specs.Cutting.{first_field, cut_tasks}

pub record IsBehind (method count at : ℕ) (code : List Instr) (behind : Behind) : Type 0 where
  pub live : behind.live.keys ≡ live_variables count code
  pub field : behind.field ≡ first_field code
  pub tasks : reverse behind.tasks.items ≡ cut_tasks method count at code
