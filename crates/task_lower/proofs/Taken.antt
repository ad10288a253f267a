-- The types of so many first variables.
use Rattle.std.proofs.Common.{◌≡◌, ℕ, zero, suc, ◌≤◌, List, [], ◌∷◌, length, map, take, min, refl, ap, arith}
use Rattle.sdg_base.specs.declared.value_type.ValueType.{ValueType}
use Rattle.java_tree.specs.declared.types.ValueType.{ValueType as VariableType}
use Rattle.body_code.specs.Typing.{type_by}
use Rattle.body_code.specs.ClassCode.{taken_types}

none_taken : (m : ℕ) (vs : List VariableType) → m ≡ 0 → map type_by (take m vs) ≡ []
none_taken m vs e = ap (λ k. map type_by (take k vs)) e

taken_of_none : (m : ℕ) → map type_by (take m []) ≡ []
taken_of_none zero = refl
taken_of_none (suc m) = refl

pub taken_is : (n m : ℕ) (vs : List VariableType) → m ≡ min n (length vs) → map type_by (take m vs) ≡ taken_types n vs
taken_is zero m vs e = none_taken m vs (omega (arith, e))
taken_is (suc n) m [] e = taken_of_none m
taken_is (suc n) zero (v ∷ vs) e = absurd (omega (arith, e))
taken_is (suc n) (suc m) (v ∷ vs) e = ap (λ (ts : List ValueType). type_by v ∷ ts) (taken_is n m vs (omega (arith, e)))

pub take_past : {A : Type 0} (xs : List A) (n : ℕ) → length xs ≤ n → take n xs ≡ xs
take_past [] zero h = refl
take_past [] (suc n) h = refl
take_past (x ∷ xs) zero h = absurd (omega (arith, h))
take_past (x ∷ xs) (suc n) h = ap (λ rest. x ∷ rest) (take_past xs n (omega (arith, h)))
