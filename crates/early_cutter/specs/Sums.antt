-- The code of a sum (JLS 15.18.2): from left to right, with binary numeric promotion (JLS 5.6).
use Rattle.std.specs.Prelude.{ℕ, pos, List, [], ◌∷◌, ◌++◌}
use Rattle.sdg_base.specs.declared.val.Num.{Num}
use Rattle.sdg_base.specs.declared.val.Num.TheVariants as num
use Rattle.sdg_base.specs.declared.operator.BinOp.TheVariants as bin
use Rattle.early_task_code.specs.declared.graph.Instr.{Instr}
use Rattle.early_task_code.specs.declared.graph.Instr.TheVariants as instr
use Rattle.early_forms.specs.declared.straight.Atom.{Atom}
use Rattle.early_forms.specs.declared.straight.Atom.TheVariants.{Literal, Variable}
use Rattle.early_forms.specs.declared.straight.Sum.{Sum}
use Rattle.early_cutter.specs.Points.{number_in}

-- a literal without suffix is an int (JLS 3.10.1), and each variable a long
abbrev pub type_of : Atom → Num
type_of (Literal n) = num.Int
type_of (Variable name) = num.Long

abbrev pub promoted : Num → Num → Num
promoted num.Int num.Int = num.Int
promoted _ _ = num.Long

abbrev pub atom_code : List (List ℕ) → Atom → Instr
atom_code scope (Literal n) = instr.Int (pos n)
atom_code scope (Variable name) = instr.Load (number_in scope name)

-- from a value's type to the wanted one
abbrev pub cast_code : Num → Num → List Instr
cast_code num.Int num.Long = instr.Cast num.Long ∷ []
cast_code _ _ = []

-- one more atom on a value of this type
abbrev pub plus_code : List (List ℕ) → Num → Atom → List Instr
plus_code scope type a =
    let sum_type = promoted type (type_of a) in
    cast_code type sum_type ++ atom_code scope a ∷ cast_code (type_of a) sum_type ++ instr.Bin bin.Add sum_type ∷ []

-- the other atoms on a value of this type, and then the cast to a long
abbrev pub others_code : List (List ℕ) → Num → List Atom → List Instr
others_code scope type [] = cast_code type num.Long
others_code scope type (a ∷ others) = plus_code scope type a ++ others_code scope (promoted type (type_of a)) others

-- a sum as a long
abbrev pub long_code : List (List ℕ) → Sum → List Instr
long_code scope s = atom_code scope s.first ∷ others_code scope (type_of s.first) s.others
