-- The key of an access, as its sum is written.
use Rattle.std.specs.Prelude.{ℕ, List, [], ◌∷◌}
use Rattle.early_forms.specs.declared.straight.Atom.{Atom}
use Rattle.early_forms.specs.declared.straight.Atom.TheVariants.{Literal, Variable}
use Rattle.early_forms.specs.declared.straight.Sum.{Sum}
use Rattle.early_source.specs.Sites.{Key, LiteralKey, VariableKey, Compound, Site}

abbrev pub atom_key : Atom → Key
atom_key (Literal n) = LiteralKey n
atom_key (Variable name) = VariableKey name

abbrev pub chain_key : Atom → List Atom → Key
chain_key first [] = atom_key first
chain_key first (atom ∷ atoms) = Compound

abbrev pub written_key : Sum → Key
written_key s = chain_key s.first s.others

abbrev pub written_site : List ℕ → Sum → Site
written_site field key = record { field = field; key = written_key key }
