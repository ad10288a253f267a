-- Ways through the code of a method: which variables are live, which instructions are reached, and which ways spend no turn.
use Rattle.std.specs.Prelude.{◌≡◌, ◌≢◌, ℕ, suc, List, [], ◌∷◌, Option, Some, None, slice_get}
use Rattle.flat_code.specs.declared.graph.Instr.{Instr}
use Rattle.flat_code.specs.declared.graph.Instr.TheVariants as instr
use Rattle.flat_code.specs.declared.graph.Task.{Task}

pub data IsIn (x : ℕ) : List ℕ → Type 0 where
  IsFirst : (xs : List ℕ) → IsIn x (x ∷ xs)
  IsLater : (y : ℕ) (xs : List ℕ) → IsIn x xs → IsIn x (y ∷ xs)

-- the instructions that may come next; a cut and a part go on behind them
abbrev pub next_of : ℕ → Instr → List ℕ
next_of at (instr.Jump to) = to ∷ []
next_of at (instr.IfFalse to) = suc at ∷ to ∷ []
next_of at instr.Return = []
next_of at instr.ReturnVoid = []
next_of at _ = suc at ∷ []

-- the variables that an instruction reads
abbrev pub reads : Instr → List ℕ
reads (instr.Load v) = v ∷ []
reads (instr.VectorSize v) = v ∷ []
reads (instr.VectorGet v) = v ∷ []
reads (instr.VectorSet v) = v ∷ []
reads (instr.CollectionLength v) = v ∷ []
reads (instr.CollectionItem v) = v ∷ []
reads (instr.CollectionSize v) = v ∷ []
reads (instr.CollectionCheck v) = v ∷ []
reads (instr.CollectionGet v) = v ∷ []
reads _ = []

-- the variable that it writes without reading it
abbrev pub writes : Instr → Option ℕ
writes (instr.Store v) = Some v
writes _ = None

-- Some way from an instruction on reads the variable before it writes it.
pub data IsLive (code : List Instr) (v : ℕ) : ℕ → Type 0 where
  IsRead : (at : ℕ) (i : Instr) → slice_get code at ≡ Some i → IsIn v (reads i) → IsLive code v at
  IsReadLater : (at next : ℕ) (i : Instr) → slice_get code at ≡ Some i → writes i ≢ Some v → IsIn next (next_of at i) → IsLive code v next → IsLive code v at

-- ---- within a task

abbrev pub next_in_task : ℕ → Instr → List ℕ
next_in_task at (instr.Cut t) = []
next_in_task at (instr.Part t) = []
next_in_task at i = next_of at i

-- Some way from `start` on passes an instruction, without a cut or a part before it.
pub data Reaches (code : List Instr) (start : ℕ) : ℕ → Type 0 where
  ReachesStart : Reaches code start start
  ReachesNext : (at next : ℕ) (i : Instr) → Reaches code start at → slice_get code at ≡ Some i → IsIn next (next_in_task at i) → Reaches code start next

-- Some way from one instruction on leads to another one, and the instructions on it before that spend no turn.
pub data IsFree (code : List Instr) : ℕ → ℕ → Type 0 where
  One : (at next : ℕ) (i : Instr) → slice_get code at ≡ Some i → i ≢ instr.Turn → IsIn next (next_of at i) → IsFree code at next
  More : (at next to : ℕ) (i : Instr) → slice_get code at ≡ Some i → i ≢ instr.Turn → IsIn next (next_of at i) → IsFree code next to → IsFree code at to

abbrev pub variables_of : Option Task → List ℕ
variables_of None = []
variables_of (Some t) = t.vars

-- the variables that an instruction needs: those that it reads, and at a cut those that the task carries
abbrev pub needs : List Task → Instr → List ℕ
needs tasks (instr.Cut t) = variables_of (slice_get tasks t)
needs tasks i = reads i

-- Some way from an instruction on, within the task, needs the variable before it writes it.
pub data IsNeeded (tasks : List Task) (code : List Instr) (v : ℕ) : ℕ → Type 0 where
  NeededHere : (at : ℕ) (i : Instr) → slice_get code at ≡ Some i → IsIn v (needs tasks i) → IsNeeded tasks code v at
  NeededLater : (at next : ℕ) (i : Instr) → slice_get code at ≡ Some i → writes i ≢ Some v → IsIn next (next_in_task at i) → IsNeeded tasks code v next → IsNeeded tasks code v at
