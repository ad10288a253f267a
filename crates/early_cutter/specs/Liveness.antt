-- Which variables are live before code that runs straight through: those that it reads before it stores into them.
use Rattle.std.specs.Prelude.{ℕ, Bool, false, not, ◌==◌, ◌&&◌, ◌||◌, List, [], ◌∷◌, filter}
use Rattle.std.specs.List.{range_with_len}
use Rattle.early_task_code.specs.declared.graph.Instr.{Instr}
use Rattle.early_task_code.specs.declared.graph.Instr.TheVariants as instr

-- whether a variable that is live behind an instruction, or not, is live before it
abbrev pub is_live_before : Instr → Bool → ℕ → Bool
is_live_before (instr.Load v) behind x = (v == x) || behind
is_live_before (instr.Store v) behind x = not (v == x) && behind
is_live_before instr.Return behind x = false
is_live_before instr.ReturnVoid behind x = false
is_live_before _ behind x = behind

abbrev pub is_live : List Instr → ℕ → Bool
is_live [] x = false
is_live (i ∷ is) x = is_live_before i (is_live is x) x

-- of so many variables those that are live, in rising order
abbrev pub live_variables : ℕ → List Instr → List ℕ
live_variables count code = filter (is_live code) (range_with_len 0 count)
