-- The value of a sum as it is written is the sum from left to right.
use Rattle.std.proofs.Common.{◌≡◌, ℕ, ◌+◌, ◌<◌, ◌≤◌, ℤ, pos, Bool, true, false, List, [], ◌∷◌, length, drop, get_or, Option, Some, None, ◌^◌, nat_lt, if◌then◌else◌, unwrap_or, add-one, sym, ◌∙◌, ap, subst, refl}
use Rattle.std.proofs.Math.Seq.{drop-cons}
use Rattle.std.proofs.lemmas.Bool.{lt-ltb}
use Rattle.std.proofs.lemmas.List.{drop_all}
use Rattle.sdg_base.specs.declared.val.Val.{Val}
use Rattle.sdg_base.specs.declared.val.Val.TheVariants as val
use Rattle.sdg_base.specs.Operators.{IsNumber, widened, sum_of}
use Rattle.early_forms.specs.declared.straight.Atom.{Atom}
use Rattle.early_forms.specs.declared.straight.Atom.TheVariants.{Literal, Variable}
use Rattle.early_forms.specs.declared.straight.Sum.{Sum}
use Rattle.early_forms.specs.Names.{AtomIsKnown}
use Rattle.early_forms.specs.Trees.{atom_tree, chain, sum_tree, plain}
use Rattle.early_source.specs.Variables.{Variables, named}
use Rattle.early_source.specs.Expressions.{value_of, sum, is_number, as_long, long_from, long_of}
use Rattle.early_plain.specs.Results.{atom_value}
use Rattle.early_plain.proofs.Expressions.{added, value_of-Number, value_of-Name, value_of-chain}

number_passes : (v : Val) → IsNumber v → is_number v ≡ true
number_passes (val.Int n) h = refl
number_passes (val.Long n) h = refl
number_passes (val.Bool b) h = absurd h
number_passes (val.Vector xs) h = absurd h
number_passes val.Unit h = absurd h

number_as_long : (v : Val) → IsNumber v → as_long v ≡ Some (widened v)
number_as_long (val.Int n) h = refl
number_as_long (val.Long n) h = refl
number_as_long (val.Bool b) h = absurd h
number_as_long (val.Vector xs) h = absurd h
number_as_long val.Unit h = absurd h

-- A variable whose value is a number is there.
number_is_there : (o : Option Val) → IsNumber (unwrap_or o val.Unit) → o ≡ Some (unwrap_or o val.Unit)
number_is_there None h = absurd h
number_is_there (Some v) h = refl

-- the value of an atom as it is written
pub atom_is : (names : List (List ℕ)) (variables : Variables) (atom : Atom) (v : Val) → AtomIsKnown names atom → v ≡ atom_value variables atom → IsNumber v → value_of (atom_tree atom) variables ≡ Some v
atom_is names variables (Literal n) v known is number =
    let small : nat_lt n (2 ^ 31) ≡ true = lt-ltb n (2 ^ 31) known in
    value_of-Number n true false variables ∙ ap (λ (b : Bool). if b then Some (val.Int (pos n)) else None) small ∙ ap Some (sym is)
atom_is names variables (Variable name) v known is number =
    value_of-Name name variables ∙ number_is_there (named name variables) (subst IsNumber is number) ∙ ap Some (sym is)

two_give : (a b : Val) → IsNumber a → IsNumber b → sum (Some a) (Some b) ≡ Some (sum_of a b)
two_give a b p q = rw (number_passes a p, number_passes b q)

-- Before the first addition the total is the first atom.
pub added-first : (variables : Variables) (first : Atom) (others : List Atom) (v : Val) → value_of (atom_tree first) variables ≡ Some v
    → added variables (Some v) others ≡ value_of (chain (atom_tree first) others) variables
added-first variables first others v is = sym (value_of-chain (atom_tree first) others variables ∙ ap (λ o. added variables o others) is)

-- and one more is added
pub added-later : (variables : Variables) (total v : Val) (atoms : List Atom) (i : ℕ) (atom : Atom) → IsNumber total → IsNumber v → value_of (atom_tree atom) variables ≡ Some v
    → i < length atoms → atom ≡ get_or atoms i atom → added variables (Some (sum_of total v)) (drop (i + 1) atoms) ≡ added variables (Some total) (drop i atoms)
added-later variables total v atoms i atom p q is l at =
    let here : drop i atoms ≡ atom ∷ drop (i + 1) atoms = rw (add-one, drop-cons atoms i atom, ← at) in
    let step : sum (Some total) (value_of (atom_tree atom) variables) ≡ Some (sum_of total v) = ap (sum (Some total)) is ∙ two_give total v p q in
    sym (ap (added variables (Some total)) here ∙ ap (λ o. added variables o (drop (i + 1) atoms)) step)

-- once no atom is left, where a long is wanted
pub added-all : (variables : Variables) (s : Sum) (total : Val) (atoms : List Atom) (i : ℕ) (r : ℤ) → length atoms ≤ i → IsNumber total
    → added variables (Some total) (drop i atoms) ≡ value_of (sum_tree s) variables → val.Long r ≡ widened total → long_of (plain (sum_tree s)) variables ≡ Some (val.Long r)
added-all variables s total atoms i r l number is wide =
    let whole : Some total ≡ value_of (sum_tree s) variables = sym (ap (added variables (Some total)) (drop_all i atoms l)) ∙ is in
    ap long_from (sym whole) ∙ number_as_long total number ∙ ap Some (sym wide)
