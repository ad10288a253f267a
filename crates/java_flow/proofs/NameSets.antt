-- Sets of names, as which variables are assigned.
use Rattle.std.proofs.Common.{◌≡◌, ℕ, Bool, true, false, not, cond, ◌&&◌, ◌||◌, List, [], ◌∷◌, ◌++◌, ◌<◌, ◌≤◌, ◌+◌, length, drop, get_or, refl, sym, ap, subst, ◌∙◌, add-one, drop-cons}
use Rattle.std.specs.List.{list_any, filter}
use Rattle.std.specs.Str.{bytes_eq}
use Rattle.std.proofs.lemmas.List.{drop_all}
use Rattle.std.proofs.lemmas.Slice.Eq.{bytes_eq-Decides}
use Rattle.java_flow.specs.Assigned.{Assigned, all_but, also, both, except}

-- what is equal at each name is equal
pub equal : {a b : Assigned} → ((name : List ℕ) → a name ≡ b name) → a ≡ b
equal h = λ i name. h name i

pub same : (x y : List ℕ) → bytes_eq x y ≡ true → x ≡ y
same x y e = (bytes_eq-Decides x y).0 e

-- what is left when one name is taken out
abbrev others : List ℕ → List (List ℕ) → List (List ℕ)
others one = filter (λ name. not (bytes_eq name one))

dropped : (there more : Bool) → not more ≡ (there || not more) → not more ≡ (there || not (there || more))
dropped true more e = e
dropped false more e = refl

kept : (here there left more : Bool) → (here ≡ true → there ≡ false) → not left ≡ (there || not more) → not (here || left) ≡ (there || not (here || more))
kept true true left more apart e = absurd (cc (apart refl))
kept true false left more apart e = refl
kept false there left more apart e = e

taken_out_at : (name one other : List ℕ) (names : List (List ℕ)) (is_one : Bool) → bytes_eq other one ≡ is_one
    → not (list_any (bytes_eq name) (others one names)) ≡ (bytes_eq name one || not (list_any (bytes_eq name) names))
    → not (list_any (bytes_eq name) (cond (not is_one) (other ∷ others one names) (others one names))) ≡ (bytes_eq name one || not (bytes_eq name other || list_any (bytes_eq name) names))
taken_out_at name one other names true e ih =
    subst (λ o. not (list_any (bytes_eq name) (others one names)) ≡ (bytes_eq name one || not (bytes_eq name o || list_any (bytes_eq name) names))) (sym (same other one e))
    (split (bytes_eq name one) _ (list_any (bytes_eq name) names) ih)
  where
    split : (there left more : Bool) → not left ≡ (there || not more) → not left ≡ (there || not (there || more))
    split true left more e = e
    split false left more e = e
taken_out_at name one other names false e ih =
    kept (bytes_eq name other) (bytes_eq name one) _ (list_any (bytes_eq name) names)
    (λ here. subst (λ n. bytes_eq n one ≡ false) (sym (same name other here)) e)
    ih

taken_out : (one : List ℕ) (names : List (List ℕ)) (name : List ℕ) → all_but (others one names) name ≡ also one (all_but names) name
taken_out one [] name = ends (bytes_eq name one)
  where
    ends : (there : Bool) → true ≡ (there || true)
    ends true = refl
    ends false = refl
taken_out one (other ∷ names) name = taken_out_at name one other names (bytes_eq other one) refl (taken_out one names name)

pub assigned : (one : List ℕ) (names : List (List ℕ)) → all_but (others one names) ≡ also one (all_but names)
assigned one names = equal (taken_out one names)

-- ---- where two ways meet

moved_at : (here a more : Bool) → ((not here && a) && not more) ≡ (a && not (here || more))
moved_at true true more = refl
moved_at true false more = refl
moved_at false a more = refl

-- one that is left is taken over
moved : (a : Assigned) (one : List ℕ) (more : List (List ℕ)) → both (except one a) (all_but more) ≡ both a (all_but (one ∷ more))
moved a one more = equal (λ name. moved_at (bytes_eq name one) (a name) (list_any (bytes_eq name) more))

there_at : (here a : Bool) → (here ≡ true → a ≡ false) → a ≡ (not here && a)
there_at true a there = there refl
there_at false a there = refl

-- one that is left out already
pub left_out : (names : List (List ℕ)) (one : List ℕ) → true ≡ list_any (bytes_eq one) names → all_but names ≡ except one (all_but names)
left_out names one e =
    equal (λ name. there_at (bytes_eq name one) (all_but names name)
    (λ here. subst (λ n. not (list_any (bytes_eq n) names) ≡ false) (sym (same name one here)) (ap not (sym e))))

put_in_at : (name one : List ℕ) (names : List (List ℕ)) → not (list_any (bytes_eq name) (names ++ one ∷ [])) ≡ (not (bytes_eq name one) && not (list_any (bytes_eq name) names))
put_in_at name one [] = alone (bytes_eq name one)
  where
    alone : (here : Bool) → not (here || false) ≡ (not here && true)
    alone true = refl
    alone false = refl
put_in_at name one (other ∷ names) = further (bytes_eq name other) (bytes_eq name one) _ (list_any (bytes_eq name) names) (put_in_at name one names)
  where
    further : (there here more old : Bool) → not more ≡ (not here && not old) → not (there || more) ≡ (not here && not (there || old))
    further true true more old e = refl
    further true false more old e = refl
    further false here more old e = e

pub put_in : (names : List (List ℕ)) (one : List ℕ) → all_but (names ++ one ∷ []) ≡ except one (all_but names)
put_in names one = equal (λ name. put_in_at name one names)

both_all : (a : Bool) → (a && true) ≡ a
both_all true = refl
both_all false = refl

pub none_left : (a : Assigned) → both a (all_but []) ≡ a
none_left a = equal (λ name. both_all (a name))

rest_is : (all : List (List ℕ)) (i : ℕ) (one : List ℕ) → i < length all → one ≡ get_or all i one → drop i all ≡ one ∷ drop (i + 1) all
rest_is all i one within is = rw (add-one, drop-cons all i one, ← is) refl

-- one name further
pub one_more : (a b : Assigned) (all : List (List ℕ)) (i : ℕ) (one : List ℕ) (end : Assigned) → b ≡ except one a → i < length all → one ≡ get_or all i one → both a (all_but (drop i all)) ≡ end → both b (all_but (drop (i + 1) all)) ≡ end
one_more a b all i one end changed within is so_far =
    ap (λ x. both x (all_but (drop (i + 1) all))) changed
    ∙ (moved a one (drop (i + 1) all) ∙ (ap (λ rest. both a (all_but rest)) (sym (rest_is all i one within is)) ∙ so_far))

pub at_end : (a : Assigned) (all : List (List ℕ)) (i : ℕ) (end : Assigned) → length all ≤ i → both a (all_but (drop i all)) ≡ end → a ≡ end
at_end a all i end past so_far = sym (none_left a) ∙ (ap (λ rest. both a (all_but rest)) (sym (drop_all i all past)) ∙ so_far)
