-- What is read before it is assigned, in one part of a text and in the next.
use Rattle.std.proofs.Common.{◌≡◌, ℕ, ◌<◌, Bool, true, false, ◌||◌, nat_eq, List, [], ◌∷◌, ◌++◌, if◌then◌else◌, refl, subst, arith}
use Rattle.std.proofs.lemmas.Bool.Decides.{nat_tests}
use Rattle.body_code.specs.Early.{Assigned, early_after, if_early, is_in}
use Rattle.marked_bodies.proofs.Facts.{or_second}
use Rattle.typed_statements.specs.Checks.{AssignBelow}

abbrev pub seen_with : ℕ → List ℕ → List ℕ
seen_with v seen = if is_in v seen then seen else v ∷ seen

-- what is assigned behind a part
abbrev pub seen_after : List ℕ → List Assigned → List ℕ
seen_after seen [] = seen
seen_after seen (a ∷ others) = seen_after (seen_with a.variable seen) others

or_keeps : (b c d : Bool) → (c ≡ true → d ≡ true) → (b || c) ≡ true → (b || d) ≡ true
or_keeps true c d h e = refl
or_keeps false c d h e = h e

abbrev Within : List ℕ → List ℕ → Type 0
Within xs ys = (v : ℕ) → is_in v xs ≡ true → is_in v ys ≡ true

if_early_within : (a : Assigned) (xs ys : List ℕ) → Within xs ys → Within (if_early a xs) (if_early a ys)
if_early_within a xs ys h v = by (is_in a.variable a.reads)
  where
    by : (b : Bool) → is_in v (if b then a.variable ∷ xs else xs) ≡ true → is_in v (if b then a.variable ∷ ys else ys) ≡ true
    by true e = or_keeps (nat_eq v a.variable) (is_in v xs) (is_in v ys) (h v) e
    by false e = h v e

if_early_more : (a : Assigned) (xs : List ℕ) → Within xs (if_early a xs)
if_early_more a xs v e = by (is_in a.variable a.reads)
  where
    by : (b : Bool) → is_in v (if b then a.variable ∷ xs else xs) ≡ true
    by true = or_second (nat_eq v a.variable) (is_in v xs) e
    by false = e

pub early_first : (seen : List ℕ) (xs ys : List Assigned) → Within (early_after seen xs) (early_after seen (xs ++ ys))
early_first seen [] ys v = λ e. absurd (cc)
early_first seen (a ∷ xs) ys v = by (is_in a.variable seen) (early_first seen xs ys v) (if_early_within a _ _ (early_first (a.variable ∷ seen) xs ys) v)
  where
    by : (b : Bool) → (is_in v (early_after seen xs) ≡ true → is_in v (early_after seen (xs ++ ys)) ≡ true)
        → (is_in v (if_early a (early_after (a.variable ∷ seen) xs)) ≡ true → is_in v (if_early a (early_after (a.variable ∷ seen) (xs ++ ys))) ≡ true)
        → is_in v (if b then early_after seen xs else if_early a (early_after (a.variable ∷ seen) xs)) ≡ true
        → is_in v (if b then early_after seen (xs ++ ys) else if_early a (early_after (a.variable ∷ seen) (xs ++ ys))) ≡ true
    by true h k e = h e
    by false h k e = k e

pub early_second : (seen : List ℕ) (xs ys : List Assigned) → Within (early_after (seen_after seen xs) ys) (early_after seen (xs ++ ys))
early_second seen [] ys v = λ e. e
early_second seen (a ∷ xs) ys v = by (is_in a.variable seen) (early_second seen xs ys v) (λ e. if_early_more a _ v (early_second (a.variable ∷ seen) xs ys v e))
  where
    by : (b : Bool) → (is_in v (early_after (seen_after seen xs) ys) ≡ true → is_in v (early_after seen (xs ++ ys)) ≡ true)
        → (is_in v (early_after (seen_after (a.variable ∷ seen) xs) ys) ≡ true → is_in v (if_early a (early_after (a.variable ∷ seen) (xs ++ ys))) ≡ true)
        → is_in v (early_after (seen_after (if b then seen else a.variable ∷ seen) xs) ys) ≡ true
        → is_in v (if b then early_after seen (xs ++ ys) else if_early a (early_after (a.variable ∷ seen) (xs ++ ys))) ≡ true
    by true h k e = h e
    by false h k e = k e

-- ---- all that is seen is below a bound

abbrev pub AllBelow : ℕ → List ℕ → Type 0
AllBelow bound vs = (v : ℕ) → is_in v vs ≡ true → v < bound

below_one : (bound w : ℕ) (seen : List ℕ) → w < bound → AllBelow bound seen → AllBelow bound (w ∷ seen)
below_one bound w seen less all v = by (nat_eq v w) refl
  where
    is_same : (n m : ℕ) → nat_eq n m ≡ true → m ≡ n
    is_same n m e = grind (arith, nat_tests)

    by : (b : Bool) → nat_eq v w ≡ b → (b || is_in v seen) ≡ true → v < bound
    by true is e = subst (λ n. n < bound) (is_same v w is) less
    by false is e = all v e

below_with : (bound w : ℕ) (seen : List ℕ) → w < bound → AllBelow bound seen → AllBelow bound (seen_with w seen)
below_with bound w seen less all = by (is_in w seen)
  where
    by : (b : Bool) → AllBelow bound (if b then seen else w ∷ seen)
    by true = all
    by false = below_one bound w seen less all

pub seen_below : (bound : ℕ) (seen : List ℕ) (xs : List Assigned) → AllBelow bound seen → AssignBelow bound xs → AllBelow bound (seen_after seen xs)
seen_below bound seen [] all h = all
seen_below bound seen (a ∷ xs) all h = seen_below bound (seen_with a.variable seen) xs (below_with bound a.variable seen h.0 all) h.1
