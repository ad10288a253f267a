-- Findings by their places: the earliest so far is the earliest of all in the end.
use Rattle.std.proofs.Common.{◌≡◌, ℕ, ◌+◌, ◌<◌, ◌≤◌, Bool, true, false, nat_lt, if◌then◌else◌, List, length, get_or, ◌⊎◌, inl, inr, refl, sym, subst, ◌∙◌, arith, below_more, Contains}
use Rattle.std.proofs.lemmas.Bool.{ltb-true, ltb-false, lt-ltb, le-ltb}
use Rattle.std.proofs.lemmas.List.{get_or_default}
use Rattle.java_flow.specs.declared.finding.Finding.{Finding}
use Rattle.java_flow.specs.Findings.{number, is_less, is_earlier, earlier_of, IsLeast}

less_cases : (a b : ℕ) (o p q : Bool) → nat_lt a b ≡ p → nat_lt b a ≡ q → (if p then true else (if q then false else o)) ≡ true → (a < b) ⊎ ((a ≡ b) × (o ≡ true))
less_cases a b o true q below above e = inl (ltb-true a b below)
less_cases a b o false true below above e = absurd (cc)
less_cases a b o false false below above e = inr ((let x : b ≤ a = ltb-false a b below in let y : a ≤ b = ltb-false b a above in omega arith), e)

less_is : (a b : ℕ) (o : Bool) → is_less a b o ≡ true → (a < b) ⊎ ((a ≡ b) × (o ≡ true))
less_is a b o e = less_cases a b o (nat_lt a b) (nat_lt b a) refl refl e

no_less_cases : (a b : ℕ) (o p q : Bool) → nat_lt a b ≡ p → nat_lt b a ≡ q → (if p then true else (if q then false else o)) ≡ false → (b < a) ⊎ ((a ≡ b) × (o ≡ false))
no_less_cases a b o true q below above e = absurd (cc)
no_less_cases a b o false true below above e = inl (ltb-true b a above)
no_less_cases a b o false false below above e = inr ((let x : b ≤ a = ltb-false a b below in let y : a ≤ b = ltb-false b a above in omega arith), e)

no_less_is : (a b : ℕ) (o : Bool) → is_less a b o ≡ false → (b < a) ⊎ ((a ≡ b) × (o ≡ false))
no_less_is a b o e = no_less_cases a b o (nat_lt a b) (nat_lt b a) refl refl e

above : (a b : ℕ) (o : Bool) → b < a → is_less a b o ≡ false
above a b o h = let x : b ≤ a = omega arith in rw (le-ltb a b x, lt-ltb b a h) refl

equal : (a b : ℕ) (o : Bool) → a ≡ b → o ≡ false → is_less a b o ≡ false
equal a b o same e = let x : b ≤ a = omega arith in let y : a ≤ b = omega arith in rw (le-ltb a b x, le-ltb b a y) e

-- what isn't before l isn't before what is before l, by one number
one_level : (g l f : ℕ) (x y z : Bool) → (x ≡ false → y ≡ true → z ≡ false) → is_less g l x ≡ false → is_less f l y ≡ true → is_less g f z ≡ false
one_level g l f x y z next before after = cases (no_less_is g l x before) (less_is f l y after)
  where
    cases : (l < g) ⊎ ((g ≡ l) × (x ≡ false)) → (f < l) ⊎ ((f ≡ l) × (y ≡ true)) → is_less g f z ≡ false
    cases (inl p) (inl q) = above g f z (omega arith)
    cases (inl p) (inr q) = above g f z (omega arith)
    cases (inr p) (inl q) = above g f z (omega arith)
    cases (inr p) (inr q) = equal g f z (p.0 ∙ sym q.0) (next p.1 q.1)

by_rule : (g l f : ℕ) → nat_lt g l ≡ false → nat_lt f l ≡ true → nat_lt g f ≡ false
by_rule g l f before after = le-ltb g f (let x : l ≤ g = ltb-false g l before in let y : f < l = ltb-true f l after in omega arith)

later_stays : (g l f : Finding) → is_earlier g l ≡ false → is_earlier f l ≡ true → is_earlier g f ≡ false
later_stays g l f before after =
    one_level g.place.line l.place.line f.place.line _ _ _
    (one_level g.place.column l.place.column f.place.column _ _ _ (by_rule (number g.rule) (number l.rule) (number f.rule)))
    before after

not_itself : (f : Finding) → is_earlier f f ≡ false
not_itself f = equal f.place.line f.place.line _ refl (equal f.place.column f.place.column _ refl (le-ltb (number f.rule) (number f.rule) (omega arith)))

-- none of the first i is before l, which is one of them all
pub record IsFirstOf (all : List Finding) (i : ℕ) (l : Finding) : Type 0 where
  pub is_one : Contains all l
  pub is_first : (k : ℕ) → k < i → (d : Finding) → is_earlier (get_or all k d) l ≡ false

chosen : (all : List Finding) (i : ℕ) (l f : Finding) (is_before : Bool) → is_earlier f l ≡ is_before → i < length all → f ≡ get_or all i f → IsFirstOf all i l → IsFirstOf all (i + 1) (if is_before then f else l)
chosen all i l f true before within is so_far = record {
  is_one = (i, within, sym is);
  is_first =
      below_more _ _
      (λ k below d. later_stays (get_or all k d) l f (so_far.is_first k below d) before)
      (λ d. subst (λ (x : Finding). is_earlier x f ≡ false) (is ∙ get_or_default all i f d within) (not_itself f));
}
chosen all i l f false before within is so_far = record {
  is_one = so_far.is_one;
  is_first = below_more _ _ so_far.is_first (λ d. subst (λ (x : Finding). is_earlier x l ≡ false) (is ∙ get_or_default all i f d within) before);
}

pub one_more : (all : List Finding) (i : ℕ) (l d : Finding) → i < length all → IsFirstOf all i l → IsFirstOf all (i + 1) (earlier_of (get_or all i d) l)
one_more all i l d within so_far = chosen all i l (get_or all i d) (is_earlier (get_or all i d) l) refl within (get_or_default all i d (get_or all i d) within) so_far

pub in_the_end : (all : List Finding) (i : ℕ) (l : Finding) → length all ≤ i → IsFirstOf all i l → IsLeast all l
in_the_end all i l past so_far = record {
  is_one = so_far.is_one;
  is_first = λ k d below. so_far.is_first k (omega (arith, below)) d;
}
