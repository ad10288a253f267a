-- The partial fields and their names.
use Rattle.std.proofs.Common.{◌≡◌, ◌≢◌, ℕ, suc, zero, ◌<◌, true, false, List, [], ◌∷◌, length, take, get_or, Some, None, refl, ap, subst, arith}
use Rattle.std.specs.Prelude.{slice_get, IsSomeAnd}
use Rattle.std.specs.List.{AllByRecursion}
use Rattle.std.proofs.lemmas.List.Elements.{recursion_from_All}
use Rattle.run_text.specs.declared.field.Field.{Field}
use Rattle.run_text.specs.Index.{IsFirstNamed}
use Rattle.run_text.specs.Histories.{field_name, IsPartial, IsNamedPartial}

pub partial_within : (fields : List Field) (f : ℕ) → IsPartial fields f → f < length fields
partial_within [] f h = absurd h
partial_within (d ∷ fields) zero h = omega arith
partial_within (d ∷ fields) (suc f) h = let lt = partial_within fields f h in omega arith

abbrev Other : List ℕ → Field → Type 0
Other name d = d.name ≢ name

no_name : (fields : List Field) (name : List ℕ) (f : ℕ) → AllByRecursion (Other name) fields → f < length fields → field_name fields f ≢ name
no_name [] name f none lt same = omega arith
no_name (d ∷ fields) name zero none lt same = none.0 same
no_name (d ∷ fields) name (suc f) none lt same = no_name fields name f none.1 (omega arith) same

one_place : (fields : List Field) (name : List ℕ) (i j : ℕ) → i < length fields → j < length fields → field_name fields i ≡ name → field_name fields j ≡ name → AllByRecursion (Other name) (take i fields) → AllByRecursion (Other name) (take j fields) → i ≡ j
one_place [] name i j a b p q f g = absurd (omega arith)
one_place (d ∷ fields) name zero zero a b p q f g = refl
one_place (d ∷ fields) name zero (suc j) a b p q f g = absurd (g.0 p)
one_place (d ∷ fields) name (suc i) zero a b p q f g = absurd (f.0 q)
one_place (d ∷ fields) name (suc i) (suc j) a b p q f g = ap suc (one_place fields name i j (omega arith) (omega arith) p q f.1 g.1)

pub one_partial : (fields : List Field) (name : List ℕ) (i j : ℕ) → IsNamedPartial fields name i → IsNamedPartial fields name j → i ≡ j
one_partial fields name i j p q =
    one_place fields name i j (partial_within fields i p.partial) (partial_within fields j q.partial) p.named q.named (recursion_from_All (Other name) (take i fields) p.first) (recursion_from_All (Other name) (take j fields) q.first)

named_at : (fields : List Field) (name : List ℕ) (n : ℕ) → IsSomeAnd (slice_get fields n) (λ d. d.name ≡ name) → (n < length fields) × (field_name fields n ≡ name)
named_at [] name n h = absurd h
named_at (d ∷ fields) name zero h = (omega arith, h)
named_at (d ∷ fields) name (suc n) h = let p = named_at fields name n h in (omega (arith, p.0), p.1)

pub first_within : (fields : List Field) (name : List ℕ) (n : ℕ) → IsFirstNamed (λ d. d.name) fields name (Some n) → n < length fields
first_within fields name n h = (named_at fields name n h.0).0

pub no_partial : (fields : List Field) (name : List ℕ) → IsFirstNamed (λ d. d.name) fields name None → (f : ℕ) → ¬ IsNamedPartial fields name f
no_partial fields name none f p = no_name fields name f (recursion_from_All (Other name) fields none) (partial_within fields f p.partial) p.named

is_partial : (fields : List Field) (n : ℕ) (d : Field) → n < length fields → IsPartial fields n → (get_or fields n d).partial ≡ true
is_partial [] n d lt h = absurd h
is_partial (x ∷ fields) zero d lt h = grind arith
is_partial (x ∷ fields) (suc n) d lt h = is_partial fields n d (omega arith) h

partial_at : (fields : List Field) (n : ℕ) (d : Field) → n < length fields → (get_or fields n d).partial ≡ true → IsPartial fields n
partial_at [] n d lt h = absurd (omega arith)
partial_at (x ∷ fields) zero d lt h = grind arith
partial_at (x ∷ fields) (suc n) d lt h = partial_at fields n d (omega arith) h

pub not_partial : (fields : List Field) (name : List ℕ) (n : ℕ) (d : Field) → IsFirstNamed (λ e. e.name) fields name (Some n) → (get_or fields n d).partial ≡ false → (f : ℕ) → ¬ IsNamedPartial fields name f
not_partial fields name n d first differs f p =
    let at = named_at fields name n first.0 in
    let same : f ≡ n = one_place fields name f n (partial_within fields f p.partial) at.0 p.named at.1 (recursion_from_All (Other name) (take f fields) p.first) (recursion_from_All (Other name) (take n fields) first.1) in
    let is = is_partial fields n d at.0 (subst (IsPartial fields) same p.partial) in cc

pub found_partial : (fields : List Field) (name : List ℕ) (n : ℕ) (d : Field) → IsFirstNamed (λ e. e.name) fields name (Some n) → (get_or fields n d).partial ≡ true → IsNamedPartial fields name n
found_partial fields name n d first is =
    let at = named_at fields name n first.0 in
    record { partial = partial_at fields n d at.0 is; named = at.1; first = first.1 }
