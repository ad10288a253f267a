-- Numbers in lists and in sets.
use Rattle.std.proofs.Common.{◌≡◌, ◌≤◌, ◌<◌, ◌+◌, zero, suc, length, drop, get_or, ℕ, Bool, true, false, ◌||◌, nat_eq, nat_lt, cond, if◌then◌else◌, List, [], ◌∷◌, ◌++◌, map, refl, sym, ap, ◌∙◌, append_assoc, arith}
use Rattle.std.proofs.lemmas.List.Folds.{list_any-append}
use Rattle.std.specs.List.{range_with_len}
use Rattle.std.proofs.Math.Seq.{drop-cons}
use Rattle.std.proofs.lemmas.Bool.Decides.{nat_tests}
use Rattle.std.specs.HashSet.{HashSet, contains}
use Rattle.body_code.specs.Early.{is_in}
use Rattle.body_code.specs.Early as spec
use Rattle.task_lower.specs.declared.early.Assigned.{Assigned}
use Rattle.task_lower.specs.Early.{noted, with_key, also, early_by, AreAlso, Notes}

pub is_in_both : (v : ℕ) (xs ys : List ℕ) → is_in v (xs ++ ys) ≡ (is_in v xs || is_in v ys)
is_in_both v xs ys = list_any-append (nat_eq v) xs ys

or_false : (a : Bool) → (a || false) ≡ a
or_false true = refl
or_false false = refl

or_assoc : (a b c : Bool) → ((a || b) || c) ≡ (a || (b || c))
or_assoc true b c = refl
or_assoc false b c = refl

or_comm : (a b : Bool) → (a || b) ≡ (b || a)
or_comm true true = refl
or_comm true false = refl
or_comm false true = refl
or_comm false false = refl

pub is_in_one : (v w : ℕ) → is_in v (w ∷ []) ≡ nat_eq v w
is_in_one v w = or_false (nat_eq v w)

pub also_none : {S : Type 0} (set : HashSet ℕ S) → AreAlso [] set set
also_none set = record { each = λ v. refl }

pub also_both : {S : Type 0} (xs ys : List ℕ) (s0 s1 s2 : HashSet ℕ S) → AreAlso xs s0 s1 → AreAlso ys s1 s2 → AreAlso (xs ++ ys) s0 s2
also_both xs ys s0 s1 s2 p q = record {
  each = λ v.
      q.each v ∙ ap (λ b. is_in v ys || b) (p.each v) ∙ sym (or_assoc (is_in v ys) (is_in v xs) (contains nat_eq s0 v))
      ∙ ap (λ b. b || contains nat_eq s0 v) (or_comm (is_in v ys) (is_in v xs) ∙ sym (is_in_both v xs ys));
}

cond_or : (a b : Bool) → cond a true b ≡ (a || b)
cond_or true b = refl
cond_or false b = refl

same_either_way : (v w : ℕ) → nat_eq v w ≡ nat_eq w v
same_either_way v w = grind arith

pub also_inserted : {S : Type 0} (k : ℕ) (old new : HashSet ℕ S) → ((q : ℕ) → contains nat_eq new q ≡ cond (nat_eq k q) true (contains nat_eq old q)) → AreAlso (k ∷ []) old new
also_inserted k old new h = record { each = λ v. h v ∙ cond_or (nat_eq k v) (contains nat_eq old v) ∙ ap (λ b. b || contains nat_eq old v) (same_either_way k v ∙ sym (is_in_one v k)) }

-- ---- assigned variables

pub noted_behind_key : (more : List ℕ) (all : List spec.Assigned) (key : ℕ → Bool) → ((v : ℕ) → key v ≡ is_in v more) → map (with_key key) (map noted all) ≡ map noted (map (spec.with_reads more) all)
noted_behind_key more [] key same = refl
noted_behind_key more (a ∷ all) key same =
    ap (λ (b : Bool). (let x : Assigned = record { variable = a.variable; is_read = b } in x) ∷ map (with_key key) (map noted all))
    (ap (λ b. b || is_in a.variable a.reads) (same a.variable) ∙ sym (is_in_both a.variable more a.reads))
    ∙ ap (λ rest. noted (spec.with_reads more a) ∷ rest) (noted_behind_key more all key same)

-- Only which variables were assigned before matters.
pub early_same : (f g : ℕ → Bool) (all : List Assigned) → ((v : ℕ) → f v ≡ g v) → early_by f all ≡ early_by g all
early_same f g [] same = refl
early_same f g (a ∷ all) same =
    ap (λ (b : Bool). if b then early_by f all else if a.is_read then a.variable ∷ early_by (also a.variable f) all else early_by (also a.variable f) all) (same a.variable)
    ∙ ap (λ (es : List ℕ). if g a.variable then es else if a.is_read then a.variable ∷ early_by (also a.variable f) all else early_by (also a.variable f) all) (early_same f g all same)
    ∙ ap (λ (es : List ℕ). if g a.variable then early_by g all else if a.is_read then a.variable ∷ es else es)
    (early_same (also a.variable f) (also a.variable g) all (λ v. ap (λ b. nat_eq a.variable v || b) (same v)))

pub early_is : (seen : List ℕ) (all : List spec.Assigned) → early_by (λ v. is_in v seen) (map noted all) ≡ spec.early_after seen all
early_is seen [] = refl
early_is seen (a ∷ all) =
    ap (λ (es : List ℕ). if is_in a.variable seen then es else if is_in a.variable a.reads then a.variable ∷ early_by (also a.variable (λ v. is_in v seen)) (map noted all) else early_by (also a.variable (λ v. is_in v seen)) (map noted all)) (early_is seen all)
    ∙ ap (λ (es : List ℕ). if is_in a.variable seen then spec.early_after seen all else if is_in a.variable a.reads then a.variable ∷ es else es)
    (early_same (also a.variable (λ v. is_in v seen)) (λ v. is_in v (a.variable ∷ seen)) (map noted all) (λ v. ap (λ b. b || is_in v seen) (same_either_way a.variable v))
    ∙ early_is (a.variable ∷ seen) all)

with_first : (seen is_read : Bool) (v : ℕ) (early early_2 same others : List ℕ) → seen ≡ false → early_2 ≡ (if is_read then early ++ v ∷ [] else early)
    → early_2 ++ others ≡ early ++ (if seen then same else if is_read then v ∷ others else others)
with_first true is_read v early early_2 same others e f = absurd cc
with_first false true v early early_2 same others e f = ap (λ es. es ++ others) f ∙ append_assoc early (v ∷ []) others
with_first false false v early early_2 same others e f = ap (λ es. es ++ others) f

pub notes_seen : {S : Type 0} (arity : ℕ) (a : Assigned) (seen : HashSet ℕ S) (early : List ℕ) → (nat_lt a.variable arity || contains nat_eq seen a.variable) ≡ true → Notes arity a seen seen early early
notes_seen arity a seen early e =
    let f = λ (v : ℕ). nat_lt v arity || contains nat_eq seen v in
    record {
      rest = λ others.
          ap (λ (b : Bool). early ++ (if b then early_by f others else if a.is_read then a.variable ∷ early_by (also a.variable f) others else early_by (also a.variable f) others)) (sym e);
    }

or_moves : (a b c : Bool) → (a || (b || c)) ≡ (b || (a || c))
or_moves true true c = refl
or_moves true false c = refl
or_moves false b c = refl

pub notes_first : {S : Type 0} (arity : ℕ) (a : Assigned) (seen seen_2 : HashSet ℕ S) (early early_2 : List ℕ) → (nat_lt a.variable arity || contains nat_eq seen a.variable) ≡ false
    → AreAlso (a.variable ∷ []) seen seen_2 → early_2 ≡ (if a.is_read then early ++ a.variable ∷ [] else early) → Notes arity a seen seen_2 early early_2
notes_first arity a seen seen_2 early early_2 e p q =
    let f = λ (v : ℕ). nat_lt v arity || contains nat_eq seen v in
    let g = λ (v : ℕ). nat_lt v arity || contains nat_eq seen_2 v in
    record {
      rest = λ others.
          ap (λ (es : List ℕ). early_2 ++ es)
          (early_same g (also a.variable f) others
          (λ v. ap (λ b. nat_lt v arity || b) (p.each v ∙ ap (λ b. b || contains nat_eq seen v) (is_in_one v a.variable ∙ same_either_way v a.variable))
          ∙ or_moves (nat_lt v arity) (nat_eq a.variable v) (contains nat_eq seen v)))
          ∙ with_first (f a.variable) a.is_read a.variable early early_2 (early_by f others) (early_by (also a.variable f) others) e q;
    }

-- ---- variables that are assigned from the start

range_ends : (a v : ℕ) → a ≤ v → false ≡ nat_lt v (a + 0)
range_ends a v h = grind (arith, nat_tests)

range_goes_on : (a v n : ℕ) (rest : Bool) → a ≤ v → (a + 1 ≤ v → rest ≡ nat_lt v (a + 1 + n)) → (nat_eq v a || rest) ≡ nat_lt v (a + suc n)
range_goes_on a v n rest h more = grind (arith, nat_tests)

in_range : (n a v : ℕ) → a ≤ v → is_in v (range_with_len a n) ≡ nat_lt v (a + n)
in_range zero a v h = range_ends a v h
in_range (suc n) a v h = range_goes_on a v n (is_in v (range_with_len (a + 1) n)) h (λ more. in_range n (a + 1) v more)

pub early_from_start : (arity : ℕ) (all : List spec.Assigned) → early_by (λ v. nat_lt v arity) (map noted all) ≡ spec.early_after (range_with_len 0 arity) all
early_from_start arity all =
    early_same (λ v. nat_lt v arity) (λ v. is_in v (range_with_len 0 arity)) (map noted all)
    (λ v. sym (in_range arity 0 v (omega arith) ∙ ap (λ n. nat_lt v n) (let e : 0 + arity ≡ arity = omega arith in e)))
    ∙ early_is (range_with_len 0 arity) all

pub dropped : {A : Type 0} (xs : List A) (i : ℕ) (d : A) → i < length xs → drop i xs ≡ get_or xs i d ∷ drop (i + 1) xs
dropped xs i d h = drop-cons xs i d h ∙ ap (λ n. get_or xs i d ∷ drop n xs) (let e : suc i ≡ i + 1 = omega arith in e)
