-- The values of sums, from left to right.
use Rattle.std.specs.Prelude.{◌≡◌, ℕ, ℤ, pos, List, [], ◌∷◌, Some, Contains}
use Rattle.sdg_base.specs.declared.val.Val.{Val}
use Rattle.sdg_base.specs.declared.val.Val.TheVariants as val
use Rattle.sdg_base.specs.declared.val.Num.{Num}
use Rattle.sdg_base.specs.declared.val.Num.TheVariants as num
use Rattle.sdg_base.specs.Operators.{sum_of}
use Rattle.early_forms.specs.declared.straight.Atom.{Atom}
use Rattle.early_forms.specs.declared.straight.Sum.{Sum}
use Rattle.early_plain.specs.Results.{atom_value}
use Rattle.early_source.specs.Variables.{Variables, named}

abbrev pub sum_from : Variables → Val → List Atom → Val
sum_from variables so_far [] = so_far
sum_from variables so_far (atom ∷ atoms) = sum_from variables (sum_of so_far (atom_value variables atom)) atoms

abbrev pub sum_value : Variables → Sum → Val
sum_value variables v = sum_from variables (atom_value variables v.first) v.others

-- the whole number that an int or a long is
abbrev pub whole_of : Val → ℤ
whole_of (val.Int n) = n
whole_of (val.Long n) = n
whole_of _ = pos 0

-- the value of a sum where a long is wanted
abbrev pub long_value : Variables → Sum → ℤ
long_value variables v = whole_of (sum_value variables v)

-- the value of a type that is this whole number
abbrev pub of_type : Num → ℤ → Val
of_type num.Int n = val.Int n
of_type num.Long n = val.Long n

abbrev pub HasType : Num → Val → Type 0
HasType type v = (n : ℤ) × (v ≡ of_type type n)

-- each of the names has a long
abbrev pub AreLongs : List (List ℕ) → Variables → Type 0
AreLongs names variables = (name : List ℕ) → Contains names name → (n : ℤ) × (named name variables ≡ Some (val.Long n))
