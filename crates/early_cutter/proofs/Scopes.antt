-- The variables of the source by name, and those of the machine by number.
use Rattle.std.proofs.Common.{◌≡◌, ◌≢◌, ◌⊎◌, inl, inr, refl, ℕ, zero, suc, ℤ, ◌+◌, ◌<◌, Bool, true, false, if◌then◌else◌, List, [], ◌∷◌, ◌++◌, length, get_or, Some, slice_get, slice_set, sym, ap, subst, ◌∙◌, arith, Contains, append_assoc}
use Rattle.std.specs.Str.{bytes_eq}
use Rattle.std.proofs.lemmas.List.{length-append, get_or_append_left, get_or-append-add}
use Rattle.std.proofs.lemmas.List.Elements.{Contains-push_cases}
use Rattle.std.proofs.lemmas.Slice.Eq.{bytes_eq-Decides}
use Rattle.sdg_base.specs.declared.val.Val.{Val}
use Rattle.sdg_base.specs.declared.val.Val.TheVariants as val
use Rattle.early_forms.specs.declared.straight.Statement.{Statement}
use Rattle.early_forms.specs.Names.{AreDistinct, declared_names, locals}
use Rattle.early_source.specs.Variables.{Variables, named}
use Rattle.early_cutter.specs.Points.{number_in}
use Rattle.early_cutter.specs.Values.{AreLongs}
use Rattle.early_cutter.specs.Agrees.{Matches, AreNew, LocalsAreNew}
use Rattle.early_cutter.proofs.Lists.{get-set_same, get-set_other}
use Rattle.early_cutter.proofs.Moves.{number_within}

front_here : (name x : List ℕ) (xs ys : List (List ℕ)) (b : Bool) → (b ≡ false → number_in (xs ++ ys) name ≡ number_in xs name)
    → (if b then zero else suc (number_in (xs ++ ys) name)) ≡ (if b then zero else suc (number_in xs name))
front_here name x xs ys true later = refl
front_here name x xs ys false later = ap suc (later refl)

after_other : (n m : ℕ) (b : Bool) → b ≡ false → (if b then zero else suc n) < suc m → n < m
after_other n m true is h = absurd (cc)
after_other n m false is h = omega arith

-- a name in scope keeps its number
pub number_in-front : (name : List ℕ) (xs ys : List (List ℕ)) → number_in xs name < length xs → number_in (xs ++ ys) name ≡ number_in xs name
number_in-front name [] ys within = absurd (omega arith)
number_in-front name (x ∷ xs) ys within =
    front_here name x xs ys (bytes_eq x name) (λ (other : bytes_eq x name ≡ false). number_in-front name xs ys (after_other (number_in xs name) (length xs) (bytes_eq x name) other within))

last_here : (name x : List ℕ) (xs : List (List ℕ)) (b : Bool) → bytes_eq x name ≡ b → (Contains (x ∷ xs) name → ⊥)
    → ((Contains xs name → ⊥) → number_in (xs ++ name ∷ []) name ≡ length xs)
    → (if b then zero else suc (number_in (xs ++ name ∷ []) name)) ≡ suc (length xs)
last_here name x xs true at new later = (let e = (bytes_eq-Decides x name).0 at in absurd (new (0, omega arith, e)))
last_here name x xs false at new later = ap suc (later (λ h. new (suc h.0, (let w = h.1 in omega arith), h.2)))

-- a new name has the next number
pub number_in-last : (name : List ℕ) (xs : List (List ℕ)) → (Contains xs name → ⊥) → number_in (xs ++ name ∷ []) name ≡ length xs
number_in-last name [] new = (let e = (bytes_eq-Decides name name).1 refl in ap (λ (b : Bool). if b then 0 else 1) e)
number_in-last name (x ∷ xs) new = last_here name x xs (bytes_eq x name) refl new (λ later. number_in-last name xs later)

-- ---- one more local

itself : (name : List ℕ) → bytes_eq name name ≡ true
itself name = (bytes_eq-Decides name name).1 refl

apart : (scope : List (List ℕ)) (local name : List ℕ) → (Contains scope local → ⊥) → Contains scope name → (b : Bool) → bytes_eq local name ≡ b → b ≡ false
apart scope local name new known true at =
    (let e = (bytes_eq-Decides local name).0 at in let P : List ℕ → Type 0 = λ x. Contains scope x in absurd (new (subst P (sym e) known)))
apart scope local name new known false at = refl

named-other : (scope : List (List ℕ)) (local name : List ℕ) (v : Val) (variables : Variables) → (Contains scope local → ⊥) → Contains scope name
    → named name ((local, v) ∷ variables) ≡ named name variables
named-other scope local name v variables new known =
    ap (λ (b : Bool). if b then Some v else named name variables) (apart scope local name new known (bytes_eq local name) refl)

named-local : (local : List ℕ) (v : Val) (variables : Variables) → named local ((local, v) ∷ variables) ≡ Some v
named-local local v variables = ap (λ (b : Bool). if b then Some v else named local variables) (itself local)

longs_local : (scope : List (List ℕ)) (variables : Variables) (local : List ℕ) (n : ℤ) → AreLongs scope variables → (Contains scope local → ⊥)
    → (name : List ℕ) → Contains scope name ⊎ (local ≡ name) → (k : ℤ) × (named name ((local, val.Long n) ∷ variables) ≡ Some (val.Long k))
longs_local scope variables local n longs new name (inl known) = let is = longs name known in (is.0, named-other scope local name (val.Long n) variables new known ∙ is.1)
longs_local scope variables local n longs new name (inr e) =
    (n, ap (λ x. named x ((local, val.Long n) ∷ variables)) (sym e) ∙ named-local local (val.Long n) variables)

at_local : (scope : List (List ℕ)) (variables : Variables) (env : List Val) (local : List ℕ) (v : Val) → Matches scope variables env → (Contains scope local → ⊥) → length scope < length env
    → (name : List ℕ) → Contains scope name ⊎ (local ≡ name) → slice_get (slice_set env (length scope) v) (number_in (scope ++ local ∷ []) name) ≡ named name ((local, v) ∷ variables)
at_local scope variables env local v matches new room name (inl known) =
    let within = number_within name scope known in
    let differ : length scope ≢ number_in scope name = omega arith in
    ap (slice_get (slice_set env (length scope) v)) (number_in-front name scope (local ∷ []) within)
    ∙ get-set_other env (length scope) (number_in scope name) v differ
    ∙ matches.at name known ∙ sym (named-other scope local name v variables new known)
at_local scope variables env local v matches new room name (inr e) =
    let last : number_in (scope ++ local ∷ []) local ≡ length scope = number_in-last local scope new in
    let P : List ℕ → Type 0 = λ x. slice_get (slice_set env (length scope) v) (number_in (scope ++ local ∷ []) x) ≡ named x ((local, v) ∷ variables) in
    subst P e (ap (slice_get (slice_set env (length scope) v)) last ∙ get-set_same env (length scope) v room ∙ sym (named-local local v variables))

pub Matches-local : (scope : List (List ℕ)) (variables : Variables) (env : List Val) (local : List ℕ) (n : ℤ) → Matches scope variables env → (Contains scope local → ⊥) → length scope < length env
    → Matches (scope ++ local ∷ []) ((local, val.Long n) ∷ variables) (slice_set env (length scope) (val.Long n))
Matches-local scope variables env local n matches new room = record {
  longs = λ name known. longs_local scope variables local n matches.longs new name (Contains-push_cases scope local name known);
  at = λ name known. at_local scope variables env local (val.Long n) matches new room name (Contains-push_cases scope local name known);
}

-- ---- new names

distinct_new : (xs ys zs : List (List ℕ)) → AreDistinct (xs ++ (ys ++ zs)) → AreNew xs ys
distinct_new xs ys zs distinct name (j, j_within, at_j) (i, i_within, at_i) =
    let whole = xs ++ (ys ++ zs) in
    let first : get_or whole i name ≡ name = get_or_append_left xs (ys ++ zs) name i i_within ∙ at_i in
    let second : get_or whole (length xs + j) name ≡ name = get_or-append-add xs (ys ++ zs) j name ∙ get_or_append_left ys zs name j j_within ∙ at_j in
    let past : length xs + j < length whole = omega (arith, length-append xs (ys ++ zs), length-append ys zs) in
    distinct i (length xs + j) name (omega arith) past (first ∙ sym second)

pub new_from_distinct : (scope : List (List ℕ)) (ss : List Statement) → AreDistinct (scope ++ locals ss) → LocalsAreNew scope ss
new_from_distinct scope [] distinct = tt
new_from_distinct scope (st ∷ ss) distinct = (
  distinct_new scope (declared_names st) (locals ss) distinct,
  new_from_distinct (scope ++ declared_names st) ss (subst AreDistinct (sym (append_assoc scope (declared_names st) (locals ss))) distinct),
)

-- the last of distinct names are distinct
pub distinct_behind : (xs ys : List (List ℕ)) → AreDistinct (xs ++ ys) → AreDistinct ys
distinct_behind xs ys distinct i j d before within same =
    let past : length xs + j < length (xs ++ ys) = omega (arith, length-append xs ys) in
    distinct (length xs + i) (length xs + j) d (omega arith) past (get_or-append-add xs ys i d ∙ same ∙ sym (get_or-append-add xs ys j d))
