-- Sets of locals, as bits and as names.
use Rattle.std.proofs.Common.{◌≡◌, ℕ, ◌+◌, Bool, true, false, not, ◌&&◌, ◌||◌, cond, nat_eq, nat_lt, List, [], ◌∷◌, map, length, get_or, Option, Some, None, refl, sym, ap, ◌∙◌}
use Rattle.std.specs.List.{position, position_or_len}
use Rattle.std.specs.Str.{bytes_eq}
use Rattle.std.proofs.lemmas.Bool.{eqb-true, eq-eqb}
use Rattle.std.proofs.lemmas.List.{length-map}
use Rattle.std.proofs.lemmas.List.Quantifiers.{position-Some}
use Rattle.std.proofs.lemmas.Slice.Eq.{bytes_eq-Decides}
use Rattle.java_flow.specs.Assigned.{all_assigned, all_but, both}
use Rattle.java_flow.specs.Sets.{number_of, bit, is_out, stands}
use Rattle.java_flow.specs.declared.names.Unassigned.{Unassigned}
use Rattle.java_flow.proofs.NameSets.{equal, same}
use Rattle.java_flow.proofs.Words.{no_number}

-- ---- numbers

module _ {K : Type 0} (text : K → List ℕ) (test : List ℕ → Bool) where
  place-map : (keys : List K) → position_or_len (λ k. test (text k)) keys ≡ position_or_len test (map text keys)
  place-map [] = refl
  place-map (k ∷ keys) = ap (λ n. cond (not (test (text k))) (1 + n) 0) (place-map keys)

  -- the names as their bytes
  pub position-map : (keys : List K) → position (λ k. test (text k)) keys ≡ position test (map text keys)
  position-map keys =
      ap (λ n. cond (nat_lt n (length keys)) (Some n) None) (place-map keys)
      ∙ ap (λ len. cond (nat_lt (position_or_len test (map text keys)) len) (Some (position_or_len test (map text keys))) None) (sym (length-map keys text))

-- two names with one number are the same name
one_name : (numbers : List (List ℕ)) (a b : List ℕ) (number : ℕ) → number_of a numbers ≡ Some number → number_of b numbers ≡ Some number → a ≡ b
one_name numbers a b number e f =
    same a (get_or numbers number []) (position-Some (bytes_eq a) numbers number [] e).1
    ∙ sym (same b (get_or numbers number []) (position-Some (bytes_eq b) numbers number [] f).1)

module _ (numbers : List (List ℕ)) (other name : List ℕ) where
  other_name : (p q : Option ℕ) → number_of other numbers ≡ p → number_of name numbers ≡ q → (p ≡ q → ⊥) → bytes_eq other name ≡ false
  other_name p q e f ne = by (bytes_eq other name) refl
    where
      by : (b : Bool) → bytes_eq other name ≡ b → b ≡ false
      by true is = absurd (ne (sym e ∙ (ap (λ n. number_of n numbers) (same other name is) ∙ f)))
      by false is = refl

  by_numbers : (i j : ℕ) → number_of other numbers ≡ Some j → number_of name numbers ≡ Some i → nat_eq j i ≡ bytes_eq other name
  by_numbers i j e f = by (nat_eq j i) refl
    where
      by : (b : Bool) → nat_eq j i ≡ b → b ≡ bytes_eq other name
      by true is = sym ((bytes_eq-Decides other name).1 (one_name numbers other name i (e ∙ ap Some (eqb-true j i is)) f))
      by false is = sym (other_name (Some j) (Some i) e f (λ p. let q : j ≡ i = cc in absurd (cc (is, eq-eqb j i q))))

-- ---- a set in which one name changes

module _ (change : Bool → Bool → Bool) (keeps : (b : Bool) → change false b ≡ b) (numbers : List (List ℕ)) (name : List ℕ) (old new : Unassigned) where
  kept : (other : List ℕ) (b : Bool) → bytes_eq other name ≡ false → b ≡ change (bytes_eq other name) b
  kept other b e = sym (ap (λ here. change here b) e ∙ keeps b)

  -- one that has a number
  pub numbered : (number : ℕ) → number_of name numbers ≡ Some number
      → ((k : ℕ) → not (bit new.numbered.items k) ≡ change (nat_eq k number) (not (bit old.numbered.items k)))
      → new.others.items ≡ old.others.items
      → stands numbers new ≡ (λ other. change (bytes_eq other name) (stands numbers old other))
  unfolding stands
  numbered number is changed stays = equal (λ other. at other (number_of other numbers) refl)
    where
      at : (other : List ℕ) (p : Option ℕ) → number_of other numbers ≡ p → is_out p new other ≡ change (bytes_eq other name) (is_out p old other)
      at other None e = ap (λ names. all_but names other) stays ∙ kept other (all_but old.others.items other) (other_name numbers other name None (Some number) e is (λ p. cc))
      at other (Some k) e = changed k ∙ ap (λ here. change here (not (bit old.numbered.items k))) (by_numbers numbers other name number k e is)

  -- one that has none
  pub named : number_of name numbers ≡ None → all_but new.others.items ≡ (λ other. change (bytes_eq other name) (all_but old.others.items other))
      → new.numbered.items ≡ old.numbered.items
      → stands numbers new ≡ (λ other. change (bytes_eq other name) (stands numbers old other))
  unfolding stands
  named is changed stays = equal (λ other. at other (number_of other numbers) refl)
    where
      at : (other : List ℕ) (p : Option ℕ) → number_of other numbers ≡ p → is_out p new other ≡ change (bytes_eq other name) (is_out p old other)
      at other None e = ap (λ a. a other) changed
      at other (Some k) e = ap (λ words. not (bit words k)) stays ∙ kept other (not (bit old.numbered.items k)) (other_name numbers other name (Some k) None e is (λ p. cc))

pub neither : (a b : Bool) → not (a || b) ≡ (not a && not b)
neither true b = refl
neither false b = refl

pub not_out : (a b : Bool) → not (not a && b) ≡ (a || not b)
not_out true b = refl
not_out false b = refl

-- ---- whole sets

pub none : (numbers : List (List ℕ)) (set : Unassigned) → set.numbered.items ≡ [] → set.others.items ≡ [] → stands numbers set ≡ all_assigned
unfolding stands
none numbers set e f = equal (λ name. at name (number_of name numbers))
  where
    at : (name : List ℕ) (p : Option ℕ) → is_out p set name ≡ true
    at name None = ap (λ names. all_but names name) f
    at name (Some k) = ap (λ words. not (bit words k)) e ∙ ap not (no_number k)

pub joined : (numbers : List (List ℕ)) (old set new : Unassigned) → ((k : ℕ) → bit new.numbered.items k ≡ (bit old.numbered.items k || bit set.numbered.items k))
    → all_but new.others.items ≡ both (all_but old.others.items) (all_but set.others.items)
    → stands numbers new ≡ both (stands numbers old) (stands numbers set)
unfolding stands
joined numbers old set new bits names = equal (λ name. at name (number_of name numbers))
  where
    at : (name : List ℕ) (p : Option ℕ) → is_out p new name ≡ (is_out p old name && is_out p set name)
    at name None = ap (λ a. a name) names
    at name (Some k) = ap not (bits k) ∙ neither (bit old.numbered.items k) (bit set.numbered.items k)

pub copied : (numbers : List (List ℕ)) (set new : Unassigned) → new.numbered.items ≡ set.numbered.items → all_but new.others.items ≡ all_but set.others.items → stands numbers new ≡ stands numbers set
unfolding stands
copied numbers set new bits names = equal (λ name. at name (number_of name numbers))
  where
    at : (name : List ℕ) (p : Option ℕ) → is_out p new name ≡ is_out p set name
    at name None = ap (λ a. a name) names
    at name (Some k) = ap (λ words. not (bit words k)) bits

-- ---- one name

module _ (numbers : List (List ℕ)) (set : Unassigned) (name : List ℕ) where
  pub by_number : (number : ℕ) → number_of name numbers ≡ Some number → not (bit set.numbered.items number) ≡ stands numbers set name
  unfolding stands
  by_number number e = sym (ap (λ p. is_out p set name) e)

  pub by_name : number_of name numbers ≡ None → all_but set.others.items name ≡ stands numbers set name
  unfolding stands
  by_name e = sym (ap (λ p. is_out p set name) e)
