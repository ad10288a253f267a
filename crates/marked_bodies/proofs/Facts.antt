-- Small facts of tests, options and lists.
use Rattle.std.proofs.Common.{◌≡◌, refl, sym, ap, ℕ, Bool, true, false, not, cond, ◌&&◌, ◌||◌, List, [], ◌∷◌, ◌++◌, Option, Some, None, inl, inr, ◌⊎◌}
use Rattle.std.specs.Prelude.{nat_eq}
use Rattle.std.specs.List.{list_all, list_any}
use Rattle.std.proofs.lemmas.Bool.{false≢true, eqb-true}
use Rattle.sdg_base.specs.declared.value_type.ValueType.{ValueType}
use Rattle.sdg_base.specs.declared.value_type.ValueType.TheVariants as type
use Rattle.flat_code.specs.Types.{same_type}
use Rattle.body_code.specs.Early.{is_in}
use Rattle.body_code.specs.Checking.{Standing, if_so, next, is_type}

pub none_some : {A : Type 0} → (x : A) → None ≡ Some x → ⊥
none_some x e = cc

pub some_is : {A : Type 0} → (x y : A) → Some x ≡ Some y → x ≡ y
some_is x y e = cc

pub both_true : (a b : Bool) → (a && b) ≡ true → (a ≡ true) × (b ≡ true)
both_true true true e = (refl, refl)
both_true true false e = absurd (false≢true e)
both_true false b e = absurd (false≢true e)

pub and_true : (a b : Bool) → a ≡ true → b ≡ true → (a && b) ≡ true
and_true true true e h = refl
and_true true false e h = h
and_true false b e h = e

pub either_true : (a b : Bool) → (a || b) ≡ true → (a ≡ true) ⊎ (b ≡ true)
either_true true b e = inl refl
either_true false b e = inr e

pub either_false : (a b : Bool) → (a || b) ≡ false → (a ≡ false) × (b ≡ false)
either_false true b e = absurd (false≢true (sym e))
either_false false b e = (refl, e)

pub not_false : (b : Bool) → not b ≡ true → b ≡ false
not_false true e = absurd (false≢true e)
not_false false e = refl

pub or_none : (b : Bool) → b ≡ (b || false)
or_none true = refl
or_none false = refl

pub or_first : (a b : Bool) → a ≡ true → (a || b) ≡ true
or_first true b is = refl
or_first false b is = absurd (false≢true is)

pub or_second : (a b : Bool) → b ≡ true → (a || b) ≡ true
or_second true b is = refl
or_second false b is = is

pub if_so_is : (b : Bool) (st end : Standing) → if_so b st ≡ Some end → (b ≡ true) × (st ≡ end)
if_so_is true st end is = (refl, some_is st end is)
if_so_is false st end is = absurd (none_some end is)

pub so : (b : Bool) (st : Standing) → b ≡ true → if_so b st ≡ Some st
so true st e = refl
so false st e = absurd (false≢true e)

pub if_then : {A : Type 0} (b : Bool) (o : Option A) (x : A) → cond b o None ≡ Some x → (b ≡ true) × (o ≡ Some x)
if_then true o x is = (refl, is)
if_then false o x is = absurd (none_some x is)

pub where_true : {A : Type 0} (b : Bool) (o p : A) → b ≡ true → cond b o p ≡ o
where_true true o p e = refl
where_true false o p e = absurd (false≢true e)

pub next_is : (f : Standing → Option Standing) (o : Option Standing) (b : Standing) → next f o ≡ Some b → (a : Standing) × (o ≡ Some a) × (f a ≡ Some b)
next_is f None b is = absurd (none_some b is)
next_is f (Some a) b is = (a, refl, is)

pub all_both : {A : Type 0} (p : A → Bool) (xs ys : List A) → list_all p (xs ++ ys) ≡ true → (list_all p xs ≡ true) × (list_all p ys ≡ true)
all_both p [] ys e = (refl, e)
all_both p (x ∷ xs) ys e =
    let k = both_true (p x) (list_all p (xs ++ ys)) e in
    let l = all_both p xs ys k.1 in
    (and_true (p x) (list_all p xs) k.0 l.0, l.1)

pub all_of_both : {A : Type 0} (p : A → Bool) (xs ys : List A) → list_all p xs ≡ true → list_all p ys ≡ true → list_all p (xs ++ ys) ≡ true
all_of_both p [] ys e h = h
all_of_both p (x ∷ xs) ys e h =
    let k = both_true (p x) (list_all p xs) e in
    and_true (p x) (list_all p (xs ++ ys)) k.0 (all_of_both p xs ys k.1 h)

pub any_of_both : {A : Type 0} (p : A → Bool) (xs ys : List A) → list_any p (xs ++ ys) ≡ (list_any p xs || list_any p ys)
any_of_both p [] ys = refl
any_of_both p (x ∷ xs) ys = by (p x) (any_of_both p xs ys)
  where
    by : (b : Bool) → list_any p (xs ++ ys) ≡ (list_any p xs || list_any p ys) → (b || list_any p (xs ++ ys)) ≡ ((b || list_any p xs) || list_any p ys)
    by true e = refl
    by false e = e

pub not_empty : {A : Type 0} (x : A) (xs : List A) → x ∷ xs ≡ [] → ⊥
not_empty x xs e = cc

pub all_so : {A : Type 0} (p q : A → Bool) → ((x : A) → p x ≡ true → q x ≡ true) → (xs : List A) → list_all p xs ≡ true → list_all q xs ≡ true
all_so p q h [] e = refl
all_so p q h (x ∷ xs) e = let k = both_true (p x) (list_all p xs) e in and_true (q x) (list_all q xs) (h x k.0) (all_so p q h xs k.1)

pub nat_is : (a b : ℕ) → nat_eq a b ≡ true → a ≡ b
nat_is a b e = eqb-true a b e

pub same_is : (s t : ValueType) → same_type s t ≡ true → s ≡ t
same_is type.Int type.Int e = refl
same_is type.Long type.Long e = refl
same_is type.Boolean type.Boolean e = refl
same_is type.Vector type.Vector e = refl
same_is type.Void type.Void e = refl
same_is _ _ e = absurd (false≢true e)

pub is_type_is : (o : Option ValueType) (t : ValueType) → is_type o t ≡ true → o ≡ Some t
is_type_is None t is = absurd (false≢true is)
is_type_is (Some u) t is = ap Some (same_is u t is)

pub in_more : (w v : ℕ) (vs : List ℕ) → is_in w (v ∷ vs) ≡ true → (w ≡ v) ⊎ (is_in w vs ≡ true)
in_more w v vs is = by (either_true (nat_eq w v) (is_in w vs) is)
  where
    by : (nat_eq w v ≡ true) ⊎ (is_in w vs ≡ true) → (w ≡ v) ⊎ (is_in w vs ≡ true)
    by (inl e) = inl (nat_is w v e)
    by (inr e) = inr e

pub in_either : (v : ℕ) (xs ys : List ℕ) → is_in v (xs ++ ys) ≡ true → (is_in v xs ≡ true) ⊎ (is_in v ys ≡ true)
in_either v [] ys e = inr e
in_either v (x ∷ xs) ys e = by (in_either v xs ys) (either_true (nat_eq v x) (is_in v (xs ++ ys)) e)
  where
    more : (is_in v xs ≡ true) ⊎ (is_in v ys ≡ true) → (is_in v (x ∷ xs) ≡ true) ⊎ (is_in v ys ≡ true)
    more (inl h) = inl (or_second (nat_eq v x) (is_in v xs) h)
    more (inr h) = inr h

    by : (is_in v (xs ++ ys) ≡ true → (is_in v xs ≡ true) ⊎ (is_in v ys ≡ true)) → (nat_eq v x ≡ true) ⊎ (is_in v (xs ++ ys) ≡ true) → (is_in v (x ∷ xs) ≡ true) ⊎ (is_in v ys ≡ true)
    by rest (inl h) = inl (or_first (nat_eq v x) (is_in v xs) h)
    by rest (inr h) = more (rest h)

pub in_first : (v : ℕ) (xs ys : List ℕ) → is_in v xs ≡ true → is_in v (xs ++ ys) ≡ true
in_first v [] ys e = absurd (false≢true e)
in_first v (x ∷ xs) ys e = by (in_first v xs ys) (either_true (nat_eq v x) (is_in v xs) e)
  where
    by : (is_in v xs ≡ true → is_in v (xs ++ ys) ≡ true) → (nat_eq v x ≡ true) ⊎ (is_in v xs ≡ true) → is_in v ((x ∷ xs) ++ ys) ≡ true
    by rest (inl h) = or_first (nat_eq v x) (is_in v (xs ++ ys)) h
    by rest (inr h) = or_second (nat_eq v x) (is_in v (xs ++ ys)) (rest h)

pub in_second : (v : ℕ) (xs ys : List ℕ) → is_in v ys ≡ true → is_in v (xs ++ ys) ≡ true
in_second v [] ys e = e
in_second v (x ∷ xs) ys e = or_second (nat_eq v x) (is_in v (xs ++ ys)) (in_second v xs ys e)
