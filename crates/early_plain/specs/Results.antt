-- The values of atoms.
use Rattle.std.specs.Prelude.{pos, unwrap_or}
use Rattle.sdg_base.specs.declared.val.Val.{Val}
use Rattle.sdg_base.specs.declared.val.Val.TheVariants as val
use Rattle.early_forms.specs.declared.straight.Atom.{Atom}
use Rattle.early_forms.specs.declared.straight.Atom.TheVariants.{Literal, Variable}
use Rattle.early_source.specs.Variables.{Variables, named}

-- A literal is an int.
abbrev pub atom_value : Variables → Atom → Val
atom_value variables (Literal n) = val.Int (pos n)
atom_value variables (Variable name) = unwrap_or (named name variables) val.Unit
