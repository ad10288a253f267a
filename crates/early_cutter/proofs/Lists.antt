-- Elements by number, after a write and within a filter.
use Rattle.std.proofs.Common.{◌≡◌, ◌≢◌, ◌⊎◌, inl, inr, refl, ℕ, zero, suc, ◌+◌, ◌<◌, Bool, true, false, cond, List, [], ◌∷◌, ◌++◌, length, Some, slice_get, slice_set, ap, ◌∙◌, arith}
use Rattle.std.specs.List.{filter}

pub length-slice_set : {A : Type 0} (xs : List A) (n : ℕ) (x : A) → length (slice_set xs n x) ≡ length xs
length-slice_set [] n x = refl
length-slice_set (y ∷ ys) zero x = refl
length-slice_set (y ∷ ys) (suc n) x = ap suc (length-slice_set ys n x)

pub get-set_same : {A : Type 0} (xs : List A) (n : ℕ) (x : A) → n < length xs → slice_get (slice_set xs n x) n ≡ Some x
get-set_same [] n x within = absurd (omega arith)
get-set_same (y ∷ ys) zero x within = refl
get-set_same (y ∷ ys) (suc n) x within = get-set_same ys n x (omega arith)

pub get-set_other : {A : Type 0} (xs : List A) (n k : ℕ) (x : A) → n ≢ k → slice_get (slice_set xs n x) k ≡ slice_get xs k
get-set_other [] n k x other = refl
get-set_other (y ∷ ys) zero zero x other = absurd (other refl)
get-set_other (y ∷ ys) zero (suc k) x other = refl
get-set_other (y ∷ ys) (suc n) zero x other = refl
get-set_other (y ∷ ys) (suc n) (suc k) x other = get-set_other ys n k x (λ same. other (ap suc same))

pub get_within : {A : Type 0} (xs : List A) (n : ℕ) → n < length xs → (x : A) × (slice_get xs n ≡ Some x)
get_within [] n within = absurd (omega arith)
get_within (y ∷ ys) zero within = (y, refl)
get_within (y ∷ ys) (suc n) within = get_within ys n (omega arith)

pub get_front : {A : Type 0} (xs ys : List A) (n : ℕ) → n < length xs → slice_get (xs ++ ys) n ≡ slice_get xs n
get_front [] ys n within = absurd (omega arith)
get_front (x ∷ xs) ys zero within = refl
get_front (x ∷ xs) ys (suc n) within = get_front xs ys n (omega arith)

pub get_behind : {A : Type 0} (xs ys : List A) (n : ℕ) → slice_get (xs ++ ys) (length xs + n) ≡ slice_get ys n
get_behind [] ys n = let e : 0 + n ≡ n = omega arith in ap (slice_get ys) e
get_behind (x ∷ xs) ys n =
    let e : suc (length xs) + n ≡ suc (length xs + n) = omega arith in
    ap (slice_get (x ∷ (xs ++ ys))) e ∙ get_behind xs ys n

-- ---- one of a list of numbers

abbrev pub IsAmong : ℕ → List ℕ → Type 0
IsAmong v [] = ⊥
IsAmong v (n ∷ ns) = (n ≡ v) ⊎ IsAmong v ns

pub among_front : (v : ℕ) (ns ms : List ℕ) → IsAmong v ns → IsAmong v (ns ++ ms)
among_front v [] ms h = absurd h
among_front v (n ∷ ns) ms (inl e) = inl e
among_front v (n ∷ ns) ms (inr h) = inr (among_front v ns ms h)

pub among_last : (v : ℕ) (ns : List ℕ) → IsAmong v (ns ++ v ∷ [])
among_last v [] = inl refl
among_last v (n ∷ ns) = inr (among_last v ns)

-- all of the numbers pass the test
abbrev pub EachPasses : (ℕ → Bool) → List ℕ → Type 0
EachPasses p [] = Unit {0}
EachPasses p (n ∷ ns) = (p n ≡ true) × EachPasses p ns

passes_next : (p : ℕ → Bool) (n : ℕ) (ns : List ℕ) (b : Bool) → p n ≡ b → EachPasses p ns → EachPasses p (cond b (n ∷ ns) ns)
passes_next p n ns true is h = (is, h)
passes_next p n ns false is h = h

pub passes_filter : (p : ℕ → Bool) (ns : List ℕ) → EachPasses p (filter p ns)
passes_filter p [] = tt
passes_filter p (n ∷ ns) = passes_next p n (filter p ns) (p n) refl (passes_filter p ns)

among_kept : (v n : ℕ) (ns : List ℕ) (b : Bool) → (n ≡ v → b ≡ true) → (n ≡ v) ⊎ IsAmong v ns → IsAmong v (cond b (n ∷ ns) ns)
among_kept v n ns true kept h = h
among_kept v n ns false kept (inl e) = (let h = kept e in absurd (cc))
among_kept v n ns false kept (inr h) = h

among_or : (v n : ℕ) (ns ms : List ℕ) → (IsAmong v ns → IsAmong v ms) → (n ≡ v) ⊎ IsAmong v ns → (n ≡ v) ⊎ IsAmong v ms
among_or v n ns ms f (inl e) = inl e
among_or v n ns ms f (inr h) = inr (f h)

pub among_filter : (p : ℕ → Bool) (v : ℕ) (ns : List ℕ) → p v ≡ true → IsAmong v ns → IsAmong v (filter p ns)
among_filter p v [] passes h = absurd h
among_filter p v (n ∷ ns) passes h =
    among_kept v n (filter p ns) (p n) (λ e. ap p e ∙ passes) (among_or v n ns (filter p ns) (among_filter p v ns passes) h)
