-- The value of a sum as it is written is the sum from left to right.
use Rattle.std.proofs.Common.{◌≡◌, refl, ℕ, pos, Bool, true, false, List, [], ◌∷◌, Some, None, All, ◌^◌, nat_lt, if◌then◌else◌, unwrap_or, sym, ap, ◌∙◌}
use Rattle.std.proofs.lemmas.Bool.{lt-ltb}
use Rattle.std.proofs.lemmas.List.Elements.{All-head, All-tail}
use Rattle.sdg_base.specs.declared.val.Val.{Val}
use Rattle.sdg_base.specs.declared.val.Val.TheVariants as val
use Rattle.sdg_base.specs.declared.val.Num.{Num}
use Rattle.sdg_base.specs.declared.val.Num.TheVariants as num
use Rattle.sdg_base.specs.Operators.{sum_of}
use Rattle.early_forms.specs.declared.straight.Atom.{Atom}
use Rattle.early_forms.specs.declared.straight.Atom.TheVariants.{Literal, Variable}
use Rattle.early_forms.specs.declared.straight.Sum.{Sum}
use Rattle.early_forms.specs.Names.{AtomIsKnown, SumIsKnown}
use Rattle.early_forms.specs.Trees.{atom_tree, sum_tree, plain}
use Rattle.early_source.specs.Variables.{Variables}
use Rattle.early_source.specs.Expressions.{value_of, sum, as_long, long_from, long_of}
use Rattle.early_cutter.specs.Sums.{type_of, promoted}
use Rattle.early_plain.specs.Results.{atom_value}
use Rattle.early_plain.proofs.Expressions.{added, value_of-Number, value_of-Name, value_of-chain}
use Rattle.early_cutter.specs.Values.{sum_from, sum_value, whole_of, long_value, HasType, AreLongs}
use Rattle.early_cutter.proofs.SumCode.{sum_typed, type_from}

record AtomGives (variables : Variables) (atom : Atom) : Type 0 where
  pub typed : HasType (type_of atom) (atom_value variables atom)
  pub value : value_of (atom_tree atom) variables ≡ Some (atom_value variables atom)

atom_gives : (scope : List (List ℕ)) (variables : Variables) (atom : Atom) → AreLongs scope variables → AtomIsKnown scope atom → AtomGives variables atom
atom_gives scope variables (Literal n) longs known =
    let small : nat_lt n (2 ^ 31) ≡ true = lt-ltb n (2 ^ 31) known in
    record { typed = (pos n, refl); value = value_of-Number n true false variables ∙ ap (λ (b : Bool). if b then Some (val.Int (pos n)) else None) small }
atom_gives scope variables (Variable name) longs known =
    let is = longs name known in
    let at : atom_value variables (Variable name) ≡ val.Long is.0 = ap (λ o. unwrap_or o val.Unit) is.1 in
    record { typed = (is.0, at); value = value_of-Name name variables ∙ is.1 ∙ ap Some (sym at) }

two_give : (t u : Num) (a b : Val) → HasType t a → HasType u b → sum (Some a) (Some b) ≡ Some (sum_of a b)
two_give num.Int num.Int a b (n, h) (m, k) = rw (h, k) refl
two_give num.Int num.Long a b (n, h) (m, k) = rw (h, k) refl
two_give num.Long num.Int a b (n, h) (m, k) = rw (h, k) refl
two_give num.Long num.Long a b (n, h) (m, k) = rw (h, k) refl

record TotalIs (variables : Variables) (type : Num) (so_far : Val) (atoms : List Atom) : Type 0 where
  pub typed : HasType (type_from type atoms) (sum_from variables so_far atoms)
  pub value : added variables (Some so_far) atoms ≡ Some (sum_from variables so_far atoms)

total_is : (scope : List (List ℕ)) (variables : Variables) (type : Num) (so_far : Val) (atoms : List Atom) → AreLongs scope variables → HasType type so_far → All (AtomIsKnown scope) atoms
    → TotalIs variables type so_far atoms
total_is scope variables type so_far [] longs typed known = record { typed = typed; value = refl }
total_is scope variables type so_far (atom ∷ atoms) longs typed known =
    let here = atom_gives scope variables atom longs (All-head (AtomIsKnown scope) atom atoms known) in
    let w = atom_value variables atom in
    let later = total_is scope variables (promoted type (type_of atom)) (sum_of so_far w) atoms longs (sum_typed type (type_of atom) so_far w typed here.typed)
    (All-tail (AtomIsKnown scope) atom atoms known) in
    let step : sum (Some so_far) (value_of (atom_tree atom) variables) ≡ Some (sum_of so_far w) =
    ap (sum (Some so_far)) here.value ∙ two_give type (type_of atom) so_far w typed here.typed in
    record { typed = later.typed; value = ap (λ o. added variables o atoms) step ∙ later.value }

record SumGives (variables : Variables) (v : Sum) : Type 0 where
  pub typed : HasType (type_from (type_of v.first) v.others) (sum_value variables v)
  pub value : value_of (sum_tree v) variables ≡ Some (sum_value variables v)

chain_gives : (scope : List (List ℕ)) (variables : Variables) (first : Atom) (others : List Atom) → AreLongs scope variables → All (AtomIsKnown scope) (first ∷ others)
    → SumGives variables (record { first = first; others = others })
chain_gives scope variables first others longs known =
    let here = atom_gives scope variables first longs (All-head (AtomIsKnown scope) first others known) in
    let all = total_is scope variables (type_of first) (atom_value variables first) others longs here.typed (All-tail (AtomIsKnown scope) first others known) in
    record { typed = all.typed; value = value_of-chain (atom_tree first) others variables ∙ ap (λ o. added variables o others) here.value ∙ all.value }

number_as_long : (type : Num) (v : Val) → HasType type v → as_long v ≡ Some (val.Long (whole_of v))
number_as_long num.Int v (n, h) = rw h refl
number_as_long num.Long v (n, h) = rw h refl

-- where a long is wanted, the sum's value as a long
pub long_of-sum : (scope : List (List ℕ)) (variables : Variables) (v : Sum) → AreLongs scope variables → SumIsKnown scope v
    → long_of (plain (sum_tree v)) variables ≡ Some (val.Long (long_value variables v))
long_of-sum scope variables v longs known =
    let is = chain_gives scope variables v.first v.others longs known in
    ap long_from is.value ∙ number_as_long (type_from (type_of v.first) v.others) (sum_value variables v) is.typed
