-- What an expression needs, its parts need.
use Rattle.std.proofs.Common.{◌≡◌, refl, subst, ℕ, Bool, true, false, not, ◌&&◌, ◌||◌, List, [], ◌∷◌, ◌++◌}
use Rattle.std.specs.List.{list_all}
use Rattle.body_code.specs.Early.{is_in}
use Rattle.body_code.specs.Typing.{Needs, both}
use Rattle.body_code.specs.Checking.{Surroundings, Standing, are_known, takes_gathered, has_key, are_met}
use Rattle.verified_code.proofs.Typed.{and_left, and_right}

pub and_both : (a b : Bool) → a ≡ true → b ≡ true → (a && b) ≡ true
and_both true b e h = h
and_both false b e h = e

pub all_left : {A : Type 0} (p : A → Bool) (xs ys : List A) → list_all p (xs ++ ys) ≡ true → list_all p xs ≡ true
all_left p [] ys e = refl
all_left p (x ∷ xs) ys e = and_both (p x) (list_all p xs) (and_left (p x) (list_all p (xs ++ ys)) e) (all_left p xs ys (and_right (p x) (list_all p (xs ++ ys)) e))

pub all_right : {A : Type 0} (p : A → Bool) (xs ys : List A) → list_all p (xs ++ ys) ≡ true → list_all p ys ≡ true
all_right p [] ys e = e
all_right p (x ∷ xs) ys e = all_right p xs ys (and_right (p x) (list_all p (xs ++ ys)) e)

key_left : (a b has : Bool) → (not (a || b) || has) ≡ true → (not a || has) ≡ true
key_left true b has e = e
key_left false b has e = refl

key_right : (a b has : Bool) → (not (a || b) || has) ≡ true → (not b || has) ≡ true
key_right true true has e = e
key_right true false has e = refl
key_right false b has e = e

pub record IsMet (around : Surroundings) (st : Standing) (n : Needs) : Type 0 where
  pub known : are_known st n.variables ≡ true
  pub merges : list_all (takes_gathered around st.gathered) n.merges ≡ true
  pub key : (not n.key || has_key around st.field) ≡ true

pub is_met : (around : Surroundings) (st : Standing) (n : Needs) → are_met around st n ≡ true → IsMet around st n
is_met around st n e =
    let known = are_known st n.variables in
    let merges = list_all (takes_gathered around st.gathered) n.merges in
    let key = not n.key || has_key around st.field in
    let rest = and_right known (merges && key) e in
    record { known = and_left known (merges && key) e; merges = and_left merges key rest; key = and_right merges key rest }

pub met_left : (around : Surroundings) (st : Standing) (a b : Needs) → IsMet around st (both a b) → IsMet around st a
met_left around st a b h = record {
  known = all_left (λ v. is_in v st.known) a.variables b.variables h.known;
  merges = all_left (takes_gathered around st.gathered) a.merges b.merges h.merges;
  key = key_left a.key b.key (has_key around st.field) h.key;
}

pub met_right : (around : Surroundings) (st : Standing) (a b : Needs) → IsMet around st (both a b) → IsMet around st b
met_right around st a b h = record {
  known = all_right (λ v. is_in v st.known) a.variables b.variables h.known;
  merges = all_right (takes_gathered around st.gathered) a.merges b.merges h.merges;
  key = key_right a.key b.key (has_key around st.field) h.key;
}

pub one_known : (around : Surroundings) (st : Standing) (v : ℕ) (n : Needs) → IsMet around st n → n.variables ≡ v ∷ [] → is_in v st.known ≡ true
one_known around st v n h e = and_left (is_in v st.known) true (subst (λ (vs : List ℕ). are_known st vs ≡ true) e h.known)
