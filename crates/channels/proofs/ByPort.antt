-- The first entry of a port in a list of entries, where one entry is written or joined at the end.
use Rattle.std.proofs.Common.{◌≡◌, ◌≢◌, ℕ, Bool, true, false, cond, ltb, List, [], ◌∷◌, ◌++◌, length, get_or, Option, Some, None, refl, sym, ap, ◌∙◌}
use Rattle.std.proofs.Math.ListN.{set}
use Rattle.std.specs.List.{find, position, position_or_len, slice_get}
use Rattle.std.specs.Option.{option_or}
use Rattle.std.proofs.lemmas.Bool.{ltb-false}
use Rattle.std.proofs.lemmas.Option.{slice_get-get_or, slice_get_past}
use Rattle.std.proofs.lemmas.List.Folds.{find_at, find-set, find_past, find-append}
use Rattle.std.proofs.lemmas.List.Quantifiers.{position-Some}
use Rattle.sdg_base.specs.declared.port.Port.{Port}
use Rattle.sdg_base.specs.Ports.{same_port}
use Rattle.sdg_base.proofs.Ports.{same_port-equal, same_port-true, same_port-other}

some_of_cond : (b : Bool) (n i : ℕ) → cond b (Some n) None ≡ Some i → n ≡ i
some_of_cond true n i e = cc
some_of_cond false n i e = cc

none_of_cond : (b : Bool) (n : ℕ) → cond b (Some n) None ≡ None → b ≡ false
none_of_cond true n e = cc
none_of_cond false n e = refl

option_or-None : {A : Type 0} (o : Option A) → option_or o None ≡ o
option_or-None None = refl
option_or-None (Some x) = refl

-- where position answers
pub place : {A : Type 0} (test : A → Bool) (xs : List A) (i : ℕ) → position test xs ≡ Some i → i ≡ position_or_len test xs
place test xs i e = sym (some_of_cond (ltb (position_or_len test xs) (length xs)) (position_or_len test xs) i e)

pub found : {A : Type 0} (test : A → Bool) (xs : List A) (i : ℕ) (d : A) → position test xs ≡ Some i → find test xs ≡ Some (get_or xs i d)
found test xs i d e =
    find_at test xs ∙ ap (slice_get xs) (sym (place test xs i e)) ∙ slice_get-get_or xs i d (position-Some test xs i d e).0

pub missing : {A : Type 0} (test : A → Bool) (xs : List A) → position test xs ≡ None → find test xs ≡ None
missing test xs e =
    find_at test xs ∙ slice_get_past xs (position_or_len test xs) (ltb-false (position_or_len test xs) (length xs) (none_of_cond (ltb (position_or_len test xs) (length xs)) (position_or_len test xs) e))

-- ---- entries by port

module _ {A : Type 0} (port_of : A → Port) where
  abbrev pub is_of : Port → A → Bool
  is_of p x = same_port (port_of x) p

  pub port_there : (xs : List A) (p : Port) (i : ℕ) (d : A) → position (is_of p) xs ≡ Some i → port_of (get_or xs i d) ≡ p
  port_there xs p i d e = same_port-true (port_of (get_or xs i d)) p (position-Some (is_of p) xs i d e).1

  pub find-written : (xs : List A) (p : Port) (i : ℕ) (y : A) → position (is_of p) xs ≡ Some i → port_of y ≡ p → find (is_of p) (set xs i y) ≡ Some y
  find-written xs p i y e same =
      find-set (is_of p) xs i y (place (is_of p) xs i e) (position-Some (is_of p) xs i y e).0 (same_port-equal (port_of y) p same)

  pub find-written_other : (xs : List A) (p q : Port) (i : ℕ) (y : A) → position (is_of p) xs ≡ Some i → port_of y ≡ p → q ≢ p → find (is_of q) (set xs i y) ≡ find (is_of q) xs
  find-written_other xs p q i y e same other =
      find_past (is_of q) xs i y y
      (same_port-other (port_of (get_or xs i y)) q (λ h. other (sym h ∙ port_there xs p i y e)))
      (same_port-other (port_of y) q (λ h. other (sym h ∙ same)))

  pub find-pushed : (xs : List A) (p : Port) (y : A) → position (is_of p) xs ≡ None → port_of y ≡ p → find (is_of p) (xs ++ y ∷ []) ≡ Some y
  find-pushed xs p y e same =
      find-append (is_of p) xs (y ∷ [])
      ∙ ap (λ (o : Option A). option_or o (find (is_of p) (y ∷ []))) (missing (is_of p) xs e)
      ∙ ap (λ (b : Bool). cond b (Some y) None) (same_port-equal (port_of y) p same)

  pub find-pushed_other : (xs : List A) (p q : Port) (y : A) → port_of y ≡ p → q ≢ p → find (is_of q) (xs ++ y ∷ []) ≡ find (is_of q) xs
  find-pushed_other xs p q y same other =
      find-append (is_of q) xs (y ∷ [])
      ∙ ap (λ (b : Bool). option_or (find (is_of q) xs) (cond b (Some y) None)) (same_port-other (port_of y) q (λ h. other (sym h ∙ same)))
      ∙ option_or-None (find (is_of q) xs)
