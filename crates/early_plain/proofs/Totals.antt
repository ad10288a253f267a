-- Sums of numbers, and the atoms of a sum.
use Rattle.std.proofs.Common.{◌≡◌, ℕ, suc, ◌<◌, List, ◌∷◌, length, get_or, All, sym, ◌∙◌, ap, subst, arith}
use Rattle.sdg_base.specs.declared.val.Val.{Val}
use Rattle.sdg_base.specs.declared.val.Val.TheVariants as val
use Rattle.sdg_base.specs.Operators.{IsNumber, sum_of}
use Rattle.early_forms.specs.declared.straight.Atom.{Atom}
use Rattle.early_forms.specs.Names.{AtomIsKnown}

pub sum_of_numbers : (a b : Val) → IsNumber a → IsNumber b → IsNumber (sum_of a b)
sum_of_numbers (val.Int a) (val.Int b) p q = tt
sum_of_numbers (val.Int a) (val.Long b) p q = tt
sum_of_numbers (val.Long a) (val.Int b) p q = tt
sum_of_numbers (val.Long a) (val.Long b) p q = tt
sum_of_numbers (val.Int a) (val.Bool b) p q = absurd q
sum_of_numbers (val.Int a) (val.Vector b) p q = absurd q
sum_of_numbers (val.Int a) val.Unit p q = absurd q
sum_of_numbers (val.Long a) (val.Bool b) p q = absurd q
sum_of_numbers (val.Long a) (val.Vector b) p q = absurd q
sum_of_numbers (val.Long a) val.Unit p q = absurd q
sum_of_numbers (val.Bool a) b p q = absurd p
sum_of_numbers (val.Vector a) b p q = absurd p
sum_of_numbers val.Unit b p q = absurd p

-- an atom after the first
pub known_at_place : (names : List (List ℕ)) (first : Atom) (others items : List Atom) (i : ℕ) (atom : Atom) → All (AtomIsKnown names) (first ∷ others)
    → items ≡ others → i < length items → atom ≡ get_or items i atom → AtomIsKnown names atom
known_at_place names first others items i atom known same l is =
    let m : i < length others = rw same at l in
    let here : atom ≡ get_or others i atom = is ∙ ap (λ xs. get_or xs i atom) same in
    subst (AtomIsKnown names) (sym here) (known (suc i) atom (omega arith))
