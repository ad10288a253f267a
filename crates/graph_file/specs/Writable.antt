-- The graphs that a file can hold: their names are UTF-8, their numbers fit their types, their operators are those of flat code, and exactly the tasks that work on a field name one.
use Rattle.std.specs.Prelude.{◌≡◌, ℕ, ◌<◌, ◌^◌, List, All, FitsSigned, Option, Some, None, is_some}
use Rattle.std.specs.Int.{w32, w64}
use Rattle.std.specs.Str.{IsUtf8}
use Rattle.sdg_base.specs.declared.operator.BinOp.{BinOp}
use Rattle.sdg_base.specs.declared.operator.BinOp.TheVariants as bin
use Rattle.sdg_base.specs.declared.operator.UnOp.{UnOp}
use Rattle.sdg_base.specs.declared.operator.UnOp.TheVariants as un
use Rattle.flat_code.specs.declared.graph.Instr.{Instr}
use Rattle.flat_code.specs.declared.graph.Instr.TheVariants as instr
use Rattle.flat_code.specs.declared.graph.GraphMethod.{GraphMethod}
use Rattle.flat_code.specs.declared.graph.Task.{Task}
use Rattle.flat_code.specs.declared.graph.Graph.{Graph}
use Rattle.graph_file.specs.Forms.{has_field}

abbrev pub FitsBits : ℕ → ℕ → Type 0
FitsBits bits n = n < 2 ^ bits

-- `&&` and `||` are jumps in flat code, and a unary plus adds nothing.
abbrev pub IsFlatBin : BinOp → Type 0
IsFlatBin bin.AndAlso = ⊥
IsFlatBin bin.OrElse = ⊥
IsFlatBin _ = Unit {0}

abbrev pub IsFlatUn : UnOp → Type 0
IsFlatUn un.Plus = ⊥
IsFlatUn _ = Unit {0}

abbrev pub IsWritableInstr : Instr → Type 0
IsWritableInstr (instr.Int n) = FitsSigned w32 n
IsWritableInstr (instr.Long n) = FitsSigned w64 n
IsWritableInstr (instr.Load v) = FitsBits 32 v
IsWritableInstr (instr.Store v) = FitsBits 32 v
IsWritableInstr (instr.Bin op t) = IsFlatBin op
IsWritableInstr (instr.Un op) = IsFlatUn op
IsWritableInstr (instr.Jump i) = FitsBits 32 i
IsWritableInstr (instr.IfFalse i) = FitsBits 32 i
IsWritableInstr (instr.VectorSize v) = FitsBits 32 v
IsWritableInstr (instr.VectorGet v) = FitsBits 32 v
IsWritableInstr (instr.VectorSet v) = FitsBits 32 v
IsWritableInstr (instr.CollectionLength v) = FitsBits 32 v
IsWritableInstr (instr.CollectionItem v) = FitsBits 32 v
IsWritableInstr (instr.CollectionSize v) = FitsBits 32 v
IsWritableInstr (instr.CollectionCheck v) = FitsBits 32 v
IsWritableInstr (instr.CollectionGet v) = FitsBits 32 v
IsWritableInstr (instr.Call m) = FitsBits 16 m
IsWritableInstr (instr.Access f m) = IsUtf8 f
IsWritableInstr (instr.Cut t) = FitsBits 32 t
IsWritableInstr (instr.Part t) = FitsBits 32 t
IsWritableInstr (instr.Merge m) = FitsBits 16 m
IsWritableInstr _ = Unit {0}

pub record IsWritableMethod (m : GraphMethod) : Type 0 where
  pub code : All IsWritableInstr m.code
  pub name : IsUtf8 m.name
  pub params : FitsBits 32 m.params

abbrev pub IsNamed : Option (List ℕ) → Type 0
IsNamed None = Unit {0}
IsNamed (Some name) = IsUtf8 name

pub record IsWritableTask (t : Task) : Type 0 where
  pub at : FitsBits 32 t.at
  pub named : IsNamed t.field
  pub suits : is_some t.field ≡ has_field t.kind
  pub method : FitsBits 16 t.method
  pub vars : All (FitsBits 32) t.vars

pub record IsWritable (g : Graph) : Type 0 where
  pub class : IsUtf8 g.class
  pub fields : All (λ f. IsUtf8 f.name) g.fields
  pub methods : All IsWritableMethod g.methods
  pub tasks : All IsWritableTask g.tasks
