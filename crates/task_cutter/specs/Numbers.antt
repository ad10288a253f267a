-- The numbers of tasks: over the entry methods in their order, first the start, and then in code order one for each cut and part.
use Rattle.std.specs.Prelude.{◌≡◌, ℕ, zero, suc, ◌+◌, List, [], ◌∷◌, length, take, drop, Option, Some, None, slice_get}
use Rattle.flat_code.specs.declared.graph.Flat.{Flat}
use Rattle.flat_code.specs.declared.graph.Graph.{Graph}
use Rattle.flat_code.specs.declared.graph.GraphMethod.{GraphMethod}
use Rattle.flat_code.specs.declared.graph.Instr.{Instr}
use Rattle.flat_code.specs.declared.graph.Instr.TheVariants as instr
use Rattle.flat_code.specs.declared.graph.MethodKind.{MethodKind}
use Rattle.flat_code.specs.declared.graph.MethodKind.TheVariants as method_kind
use Rattle.flat_code.specs.declared.graph.Task.{Task}
use Rattle.flat_code.specs.declared.graph.TaskKind.{TaskKind}
use Rattle.flat_code.specs.declared.graph.TaskKind.TheVariants as kind
use Rattle.flat_code.specs.Fits.{parameters}
use Rattle.flat_code.specs.Verified.{IsTask}
use Rattle.live_vars.specs.Sets.{AreLive}
use Rattle.task_cutter.specs.Tasks.{first_field, is_visit, cut_kind}

-- how many cuts and parts there are
abbrev pub ends : List Instr → ℕ
ends [] = 0
ends (instr.Cut t ∷ code) = suc (ends code)
ends (instr.Part t ∷ code) = suc (ends code)
ends (i ∷ code) = ends code

-- how many tasks a method has
abbrev pub task_count : GraphMethod → MethodKind → ℕ
task_count m method_kind.Entry = suc (ends m.code)
task_count m _ = 0

-- the number of the start of a method
abbrev pub start_number : List GraphMethod → ℕ → ℕ
start_number [] method = 0
start_number (m ∷ ms) zero = 0
start_number (m ∷ ms) (suc method) = task_count m m.kind + start_number ms method

-- the number of the task behind a cut or a part of a method
abbrev pub number_behind : List GraphMethod → ℕ → GraphMethod → ℕ → ℕ
number_behind methods method m at = start_number methods method + suc (ends (take at m.code))

-- an instruction of an entry method
pub record HasEntryCode (methods : List GraphMethod) (method : ℕ) (m : GraphMethod) (at : ℕ) (i : Instr) : Type 0 where
  pub is_method : slice_get methods method ≡ Some m
  pub is_entry : m.kind ≡ method_kind.Entry
  pub is_code : slice_get m.code at ≡ Some i

-- the start of a method: its first instruction, with the parameters
pub record IsStart (graph : Graph) (method : ℕ) (m : GraphMethod) (number : ℕ) : Type 0 where
  pub of : Task
  pub is_task : IsTask graph number of
  pub in_method : of.method ≡ method
  pub at_first : of.at ≡ 0
  pub starts : of.kind ≡ kind.Start
  pub no_field : of.field ≡ None
  pub variables : of.vars ≡ parameters m

-- the task behind an instruction, with the variables that are live there
pub record IsBehind (graph : Graph) (method : ℕ) (m : GraphMethod) (at number : ℕ) (of_kind : TaskKind) (of_field : Option (List ℕ)) : Type 0 where
  pub of : Task
  pub is_task : IsTask graph number of
  pub in_method : of.method ≡ method
  pub right_behind : of.at ≡ suc at
  pub has_kind : of.kind ≡ of_kind
  pub has_field : of.field ≡ of_field
  pub variables : AreLive m.code (suc at) of.vars

-- Each entry method has its start, each cut the task of the first access behind it, and each part its join; and there is no other task.
pub record AreCutBehind (flat : Flat) (graph : Graph) : Type 0 where
  pub starts : (n : ℕ) (m : GraphMethod) → slice_get flat.methods n ≡ Some m → m.kind ≡ method_kind.Entry → IsStart graph n m (start_number flat.methods n)
  pub cuts : (n at t : ℕ) (m : GraphMethod) → HasEntryCode flat.methods n m at (instr.Cut t)
      → IsBehind graph n m at (number_behind flat.methods n m at) (cut_kind flat.fields (first_field (drop (suc at) m.code)) (is_visit (drop (suc at) m.code))) (first_field (drop (suc at) m.code))
  pub parts : (n at t : ℕ) (m : GraphMethod) → HasEntryCode flat.methods n m at (instr.Part t)
      → IsBehind graph n m at (number_behind flat.methods n m at) kind.Join None
  pub as_many : length graph.tasks ≡ start_number flat.methods (length flat.methods)
