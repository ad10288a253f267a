-- What is said of each element, or of one, of a list that is the map of another.
use Rattle.std.proofs.Common.{◌≡◌, ◌↔◌, refl, ℕ, zero, suc, ◌<◌, List, [], ◌∷◌, map, length, get_or, take, ◌+◌, sym, ap, subst, ◌∙◌, arith, All, Contains, Bool, true, false, not, IsTrue}
use Rattle.std.specs.List.{Any}
use Rattle.std.proofs.lemmas.List.{length-map, get_or_default}
use Rattle.std.proofs.lemmas.List.Elements.{All-map, All-cons, All-head, All-tail, All-more}

pub get_or-map : {X Y : Type 0} (f : Y → X) (ys : List Y) (i : ℕ) (d : Y) → get_or (map f ys) i (f d) ≡ f (get_or ys i d)
get_or-map f [] i d = refl
get_or-map f (y ∷ ys) zero d = refl
get_or-map f (y ∷ ys) (suc i) d = get_or-map f ys i d

All-from_map : {X Y : Type 0} (P : X → Type 0) (f : Y → X) (ys : List Y) → All P (map f ys) → All (λ y. P (f y)) ys
All-from_map P f ys all i d within =
    let within' : i < length (map f ys) = omega (arith, length-map ys f) in
    rw (← (get_or-map f ys i d)) (all i (f d) within')

pub all_map : {X Y : Type 0} (P : X → Type 0) (f : Y → X) (ys : List Y) → All (λ y. P (f y)) ys ↔ All P (map f ys)
all_map P f ys = (All-map P f ys, All-from_map P f ys)

pub all_cons : {X : Type 0} (P : X → Type 0) (x : X) (xs : List X) → All P (x ∷ xs) ↔ (P x × All P xs)
all_cons P x xs = (λ all. (All-head P x xs all, All-tail P x xs all), λ both. All-cons P x xs both.0 both.1)

-- the element behind an element of the map
at_map : {X Y : Type 0} (f : Y → X) (ys : List Y) (i : ℕ) → i < length ys → (y : Y) × (get_or ys i y ≡ y) × ((d : X) → get_or (map f ys) i d ≡ f y)
at_map f [] i within = absurd (omega arith)
at_map f (y ∷ ys) zero within = (y, refl, λ d. refl)
at_map f (y ∷ ys) (suc i) within = at_map f ys i (omega arith)

contains_from_any : {X Y : Type 0} (f : Y → X) (ys : List Y) (x : X) → Any (λ y. f y ≡ x) ys → Contains (map f ys) x
contains_from_any f ys x (i, y, within, read, here) =
    let within' : i < length (map f ys) = omega (arith, length-map ys f) in
    let at : get_or (map f ys) i (f y) ≡ x = get_or-map f ys i y ∙ ap f read ∙ here in
    (i, within', get_or_default (map f ys) i x (f y) within' ∙ at)

any_from_contains : {X Y : Type 0} (f : Y → X) (ys : List Y) (x : X) → Contains (map f ys) x → Any (λ y. f y ≡ x) ys
any_from_contains f ys x contains =
    let within : contains.0 < length ys = let h = contains.1 in omega (arith, length-map ys f) in
    let found = at_map f ys contains.0 within in
    (contains.0, found.0, within, found.1, (let a = found.2 x in let b = contains.2 in cc))

pub any_map : {X Y : Type 0} (f : Y → X) (ys : List Y) (x : X) → Any (λ y. f y ≡ x) ys ↔ Contains (map f ys) x
any_map f ys x = (contains_from_any f ys x, any_from_contains f ys x)

-- no element at all
pub none_map : {X Y : Type 0} (P : X → Type 0) (f : Y → X) (ys : List Y) → (Any (λ y. P (f y)) ys → ⊥) ↔ All (λ x. P x → ⊥) (map f ys)
none_map P f ys = (
  λ none. All-map (λ x. P x → ⊥) f ys (λ i d within holds. none (i, get_or ys i d, within, get_or_default ys i (get_or ys i d) d within, holds)),
  λ all any. All-from_map (λ x. P x → ⊥) f ys all any.0 any.1 any.2 (let P' : _ → Type 0 = λ y. P (f y) in subst P' (sym any.3) any.4),
)

pub iff_not : {P Q : Type 0} (b : Bool) → (IsTrue b ↔ P) → ((P → ⊥) ↔ Q) → IsTrue (not b) ↔ Q
iff_not true says both = (λ no. absurd (cc), λ q. absurd (both.1 q (says.0 refl)))
iff_not false says both = (λ yes. both.0 (λ p. (let h = says.1 p in cc)), λ q. refl)

pub not_true : (b held : Bool) → b ≡ false → b ≡ not held → held ≡ true
not_true b true was is = refl
not_true b false was is = cc

pub not_false : (b held : Bool) → b ≡ true → b ≡ not held → held ≡ false
not_false b true was is = cc
not_false b false was is = refl

pub all_more :
    {X : Type 0} (P : X → Type 0) (xs : List X) (i : ℕ) (x : X) →
    i < length xs → x ≡ get_or xs i x → All P (take i xs) → P x → All P (take (i + 1) xs)
all_more P xs i x within read front here = All-more P xs i x within front (subst P read here)
