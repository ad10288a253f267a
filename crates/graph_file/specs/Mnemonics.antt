-- The words that instructions begin with.
use Rattle.std.specs.Prelude.{ℕ, List, [], ◌∷◌, codes}
use Rattle.flat_code.specs.declared.graph.Instr.{Instr}
use Rattle.flat_code.specs.declared.graph.Instr.TheVariants as instr
use Rattle.graph_file.specs.declared.mnemonic.Alone.{Alone}
use Rattle.graph_file.specs.declared.mnemonic.Alone.TheVariants as alone
use Rattle.graph_file.specs.declared.mnemonic.Numbered.{Numbered}
use Rattle.graph_file.specs.declared.mnemonic.Numbered.TheVariants as numbered
use Rattle.graph_file.specs.declared.mnemonic.Mnemonic.{Mnemonic}
use Rattle.graph_file.specs.declared.mnemonic.Mnemonic.TheVariants as mnemonic

abbrev pub mnemonic_word : Mnemonic → List ℕ
mnemonic_word mnemonic.Int = codes "int"
mnemonic_word mnemonic.Long = codes "long"
mnemonic_word mnemonic.Bool = codes "bool"
mnemonic_word mnemonic.Bin = codes "bin"
mnemonic_word mnemonic.Un = codes "un"
mnemonic_word mnemonic.Cast = codes "cast"
mnemonic_word mnemonic.Call = codes "call"
mnemonic_word mnemonic.Access = codes "access"
mnemonic_word mnemonic.Merge = codes "merge"
mnemonic_word (mnemonic.Alone alone.Pop) = codes "pop"
mnemonic_word (mnemonic.Alone alone.Turn) = codes "turn"
mnemonic_word (mnemonic.Alone alone.NewVector) = codes "newvector"
mnemonic_word (mnemonic.Alone alone.Key) = codes "key"
mnemonic_word (mnemonic.Alone alone.Return) = codes "return"
mnemonic_word (mnemonic.Alone alone.ReturnVoid) = codes "returnvoid"
mnemonic_word (mnemonic.Numbered numbered.Load) = codes "load"
mnemonic_word (mnemonic.Numbered numbered.Store) = codes "store"
mnemonic_word (mnemonic.Numbered numbered.Jump) = codes "jump"
mnemonic_word (mnemonic.Numbered numbered.IfFalse) = codes "iffalse"
mnemonic_word (mnemonic.Numbered numbered.VectorSize) = codes "vsize"
mnemonic_word (mnemonic.Numbered numbered.VectorGet) = codes "vget"
mnemonic_word (mnemonic.Numbered numbered.VectorSet) = codes "vset"
mnemonic_word (mnemonic.Numbered numbered.CollectionLength) = codes "clen"
mnemonic_word (mnemonic.Numbered numbered.CollectionItem) = codes "citem"
mnemonic_word (mnemonic.Numbered numbered.CollectionSize) = codes "csize"
mnemonic_word (mnemonic.Numbered numbered.CollectionCheck) = codes "ccheck"
mnemonic_word (mnemonic.Numbered numbered.CollectionGet) = codes "cget"
mnemonic_word (mnemonic.Numbered numbered.Cut) = codes "cut"
mnemonic_word (mnemonic.Numbered numbered.Part) = codes "part"

abbrev pub mnemonics : List Mnemonic
mnemonics =
    mnemonic.Int ∷ mnemonic.Long ∷ mnemonic.Bool ∷ mnemonic.Bin ∷ mnemonic.Un ∷ mnemonic.Cast ∷ mnemonic.Call ∷ mnemonic.Access ∷ mnemonic.Merge
    ∷ mnemonic.Alone alone.Pop ∷ mnemonic.Alone alone.Turn ∷ mnemonic.Alone alone.NewVector ∷ mnemonic.Alone alone.Key ∷ mnemonic.Alone alone.Return ∷ mnemonic.Alone alone.ReturnVoid
    ∷ mnemonic.Numbered numbered.Load ∷ mnemonic.Numbered numbered.Store ∷ mnemonic.Numbered numbered.Jump ∷ mnemonic.Numbered numbered.IfFalse ∷ mnemonic.Numbered numbered.VectorSize ∷ mnemonic.Numbered numbered.VectorGet ∷ mnemonic.Numbered numbered.VectorSet ∷ mnemonic.Numbered numbered.CollectionLength ∷ mnemonic.Numbered numbered.CollectionItem ∷ mnemonic.Numbered numbered.CollectionSize ∷ mnemonic.Numbered numbered.CollectionCheck ∷ mnemonic.Numbered numbered.CollectionGet ∷ mnemonic.Numbered numbered.Cut ∷ mnemonic.Numbered numbered.Part ∷ []

-- the instruction of a word
abbrev pub instr_alone : Alone → Instr
instr_alone alone.Pop = instr.Pop
instr_alone alone.Turn = instr.Turn
instr_alone alone.NewVector = instr.NewVector
instr_alone alone.Key = instr.Key
instr_alone alone.Return = instr.Return
instr_alone alone.ReturnVoid = instr.ReturnVoid

-- the instruction of a word with a number
abbrev pub instr_with : Numbered → ℕ → Instr
instr_with numbered.Load n = instr.Load n
instr_with numbered.Store n = instr.Store n
instr_with numbered.Jump n = instr.Jump n
instr_with numbered.IfFalse n = instr.IfFalse n
instr_with numbered.VectorSize n = instr.VectorSize n
instr_with numbered.VectorGet n = instr.VectorGet n
instr_with numbered.VectorSet n = instr.VectorSet n
instr_with numbered.CollectionLength n = instr.CollectionLength n
instr_with numbered.CollectionItem n = instr.CollectionItem n
instr_with numbered.CollectionSize n = instr.CollectionSize n
instr_with numbered.CollectionCheck n = instr.CollectionCheck n
instr_with numbered.CollectionGet n = instr.CollectionGet n
instr_with numbered.Cut n = instr.Cut n
instr_with numbered.Part n = instr.Part n
