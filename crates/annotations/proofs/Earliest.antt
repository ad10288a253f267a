-- The first of what is refused is the least of it.
use Rattle.std.proofs.Common.{◌≡◌, ℕ, ◌<◌, Bool, true, false, nat_eq, nat_lt, if◌then◌else◌, List, [], ◌∷◌, length, fold, Option, None, Some, Contains, ◌⊎◌, inl, inr, refl, sym, ap, subst, ◌∙◌, arith}
use Rattle.std.proofs.lemmas.Bool.Decides.{nat_tests}
use Rattle.std.proofs.lemmas.List.Elements.{All-nil, All-cons, All-head, All-tail, Contains-get_or, Contains-append_left, Contains-append_right, Contains-append_cases}
use Rattle.annotations.specs.declared.checking.Refused.{Refused}
use Rattle.annotations.specs.Check.{is_before, earlier, first_of, IsLeast}
use Rattle.annotations.proofs.Firsts.{none_left}

-- ---- one number after another decides

abbrev level : ℕ → ℕ → Bool → Bool
level a b next = if nat_eq a b then next else nat_lt a b

level_yes : (a b : ℕ) (next : Bool) → level a b next ≡ true → (a < b) ⊎ ((a ≡ b) × (next ≡ true))
level_yes a b next h = grind (arith, nat_tests)

level_no : (a b : ℕ) (next : Bool) → level a b next ≡ false → (b < a) ⊎ ((a ≡ b) × (next ≡ false))
level_no a b next h = grind (arith, nat_tests)

above : (a b : ℕ) (next : Bool) → b < a → level a b next ≡ false
above a b next h = grind (arith, nat_tests)

equal : (a b : ℕ) (next : Bool) → a ≡ b → next ≡ false → level a b next ≡ false
equal a b next same h = grind (arith, nat_tests)

-- what a is not before, and that is not before c
level_joins : (a b c : ℕ) (x y z : Bool) → (x ≡ false → y ≡ false → z ≡ false) → level a b x ≡ false → level b c y ≡ false → level a c z ≡ false
level_joins a b c x y z next first second = cases (level_no a b x first) (level_no b c y second)
  where
    cases : (b < a) ⊎ ((a ≡ b) × (x ≡ false)) → (c < b) ⊎ ((b ≡ c) × (y ≡ false)) → level a c z ≡ false
    cases (inl p) (inl q) = above a c z (omega arith)
    cases (inl p) (inr q) = above a c z (omega arith)
    cases (inr p) (inl q) = above a c z (omega arith)
    cases (inr p) (inr q) = equal a c z (p.0 ∙ q.0) (next p.1 q.1)

level_turns : (a b : ℕ) (x y : Bool) → (x ≡ true → y ≡ false) → level a b x ≡ true → level b a y ≡ false
level_turns a b x y next h = cases (level_yes a b x h)
  where
    cases : (a < b) ⊎ ((a ≡ b) × (x ≡ true)) → level b a y ≡ false
    cases (inl p) = above b a y p
    cases (inr p) = equal b a y (sym p.0) (next p.1)

level_same : (a b : ℕ) (x y : Bool) → level a b x ≡ false → level b a y ≡ false → (a ≡ b) × (x ≡ false) × (y ≡ false)
level_same a b x y first second = cases (level_no a b x first) (level_no b a y second)
  where
    cases : (b < a) ⊎ ((a ≡ b) × (x ≡ false)) → (a < b) ⊎ ((b ≡ a) × (y ≡ false)) → (a ≡ b) × (x ≡ false) × (y ≡ false)
    cases (inl p) (inl q) = absurd (omega arith)
    cases (inl p) (inr q) = absurd (omega arith)
    cases (inr p) (inl q) = absurd (omega arith)
    cases (inr p) (inr q) = (p.0, p.1, q.1)

-- ---- what is refused, by line, column and rule

rule_joins : (a b c : ℕ) → nat_lt a b ≡ false → nat_lt b c ≡ false → nat_lt a c ≡ false
rule_joins a b c first second = grind (arith, nat_tests)

rule_turns : (a b : ℕ) → nat_lt a b ≡ true → nat_lt b a ≡ false
rule_turns a b h = grind (arith, nat_tests)

rule_same : (a b : ℕ) → nat_lt a b ≡ false → nat_lt b a ≡ false → a ≡ b
rule_same a b first second = grind (arith, nat_tests)

joins : (f g h : Refused) → is_before f g ≡ false → is_before g h ≡ false → is_before f h ≡ false
joins f g h =
    level_joins f.place.line g.place.line h.place.line _ _ _
    (level_joins f.place.column g.place.column h.place.column _ _ _ (rule_joins f.rule g.rule h.rule))

turns : (f g : Refused) → is_before f g ≡ true → is_before g f ≡ false
turns f g = level_turns f.place.line g.place.line _ _ (level_turns f.place.column g.place.column _ _ (rule_turns f.rule g.rule))

not_itself : (f : Refused) → is_before f f ≡ false
not_itself f = equal f.place.line f.place.line _ refl (equal f.place.column f.place.column _ refl (grind (arith, nat_tests)))

same : (f g : Refused) → is_before f g ≡ false → is_before g f ≡ false → f ≡ g
same f g first second =
    let lines = level_same f.place.line g.place.line _ _ first second in
    let columns = level_same f.place.column g.place.column _ _ lines.1 lines.2 in
    let rules = rule_same f.rule g.rule columns.1 columns.2 in
    λ i. record { place = record { line = lines.0 i; column = columns.0 i }; rule = rules i }

-- ---- the first of a list

least_alone : (f : Refused) → IsLeast (f ∷ []) f
least_alone f = record {
  is_one = Contains-get_or (f ∷ []) 0 f (omega arith);
  is_first = All-cons (λ g. is_before g f ≡ false) f [] (not_itself f) (All-nil (λ g. is_before g f ≡ false));
}

one_of_rest : (f g : Refused) (all : List Refused) (l : Refused) → Contains (f ∷ all) l → Contains (f ∷ g ∷ all) l
one_of_rest f g all l h = cases (Contains-append_cases (f ∷ []) all l h)
  where
    cases : Contains (f ∷ []) l ⊎ Contains all l → Contains (f ∷ g ∷ all) l
    cases (inl p) = Contains-append_left (f ∷ []) (g ∷ all) l p
    cases (inr p) = Contains-append_right (f ∷ g ∷ []) all l p

least_more : (f g : Refused) (all : List Refused) (l : Refused) (b : Bool) → is_before g f ≡ b → IsLeast ((if b then g else f) ∷ all) l → IsLeast (f ∷ g ∷ all) l
least_more f g all l true before h =
    let first = All-head (λ x. is_before x l ≡ false) g all h.is_first in
    record {
      is_one = Contains-append_right (f ∷ []) (g ∷ all) l h.is_one;
      is_first = All-cons (λ x. is_before x l ≡ false) f (g ∷ all) (joins f g l (turns g f before) first) h.is_first;
    }
least_more f g all l false before h =
    let first = All-head (λ x. is_before x l ≡ false) f all h.is_first in
    let rest = All-tail (λ x. is_before x l ≡ false) f all h.is_first in
    record {
      is_one = one_of_rest f g all l h.is_one;
      is_first = All-cons (λ x. is_before x l ≡ false) f (g ∷ all) first (All-cons (λ x. is_before x l ≡ false) g all (joins g f l before first) rest);
    }

some_is : (b : Bool) (f g : Refused) → (if b then Some g else Some f) ≡ Some (if b then g else f)
some_is true f g = refl
some_is false f g = refl

least_from : (all : List Refused) (f l : Refused) → fold earlier (Some f) all ≡ Some l → IsLeast (f ∷ all) l
least_from [] f l h = let is : f ≡ l = cc in subst (λ x. IsLeast (f ∷ []) x) is (least_alone f)
least_from (g ∷ all) f l h =
    least_more f g all l (is_before g f) refl
    (least_from all (if is_before g f then g else f) l (ap (λ o. fold earlier o all) (sym (some_is (is_before g f) f g)) ∙ h))

none_before : (all : List Refused) (f l : Refused) → Contains all f → IsLeast all l → is_before f l ≡ false
none_before all f l one least = subst (λ x. is_before x l ≡ false) one.2 (least.is_first one.0 f one.1)

pub least : (all : List Refused) (f : Refused) → first_of all ≡ Some f → IsLeast all f
least [] f h = absurd (cc)
least (g ∷ all) f h = least_from all g f h

only : (all : List Refused) (f : Refused) (o : Option Refused) → first_of all ≡ o → IsLeast all f → first_of all ≡ Some f
only all f None h one = absurd (let e = ap length (none_left all h) in let lt = one.is_one.1 in omega arith)
only all f (Some g) h one =
    let other = least all g h in
    h ∙ ap Some (same g f (none_before all g f other.is_one one) (none_before all f g one.is_one other))
