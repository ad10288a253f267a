-- What stands in lists that are filtered, flattened and joined, and sums over lists.
use Rattle.std.proofs.Common.{◌≡◌, ℕ, zero, suc, ◌+◌, ◌*◌, ◌<◌, ◌≤◌, List, [], ◌∷◌, ◌++◌, map, length, Option, Some, None, ◌⊎◌, inl, inr, refl, ap, sym, ◌∙◌, subst, arith}
use Rattle.std.specs.Prelude.{sum_by}
use Rattle.std.specs.List.{flat_map, filter_map, cons_option}
use Rattle.std.proofs.lemmas.List.Sums.{sum_by-cons}
use Rattle.cluster.specs.World.{numbers_from}

abbrev pub Among : {A : Type 0} → A → List A → Type 0
Among x [] = ⊥
Among x (y ∷ ys) = (x ≡ y) ⊎ Among x ys

pub among_left : {A : Type 0} (x : A) (xs ys : List A) → Among x xs → Among x (xs ++ ys)
among_left x [] ys h = absurd h
among_left x (y ∷ xs) ys (inl e) = inl e
among_left x (y ∷ xs) ys (inr h) = inr (among_left x xs ys h)

pub among_right : {A : Type 0} (x : A) (xs ys : List A) → Among x ys → Among x (xs ++ ys)
among_right x [] ys h = h
among_right x (y ∷ xs) ys h = inr (among_right x xs ys h)

pub among_either : {A : Type 0} (x : A) (xs ys : List A) → Among x (xs ++ ys) → Among x xs ⊎ Among x ys
among_either x [] ys h = inr h
among_either x (y ∷ xs) ys (inl e) = inl (inl e)
among_either x (y ∷ xs) ys (inr h) = elim (among_either x xs ys h) [ inl g ↦ inl (inr g) | inr g ↦ inr g ]

pub among_map : {A B : Type 0} (f : A → B) (x : A) (xs : List A) → Among x xs → Among (f x) (map f xs)
among_map f x [] h = absurd h
among_map f x (y ∷ xs) (inl e) = inl (ap f e)
among_map f x (y ∷ xs) (inr h) = inr (among_map f x xs h)

pub among_flat : {A B : Type 0} (f : A → List B) (x : A) (b : B) (xs : List A) → Among x xs → Among b (f x) → Among b (flat_map f xs)
among_flat f x b [] h g = absurd h
among_flat f x b (y ∷ xs) (inl e) g = among_left b (f y) (flat_map f xs) (let P : _ → Type 0 = λ z. Among b (f z) in subst P e g)
among_flat f x b (y ∷ xs) (inr h) g = among_right b (f y) (flat_map f xs) (among_flat f x b xs h g)

pub in_flat : {A B : Type 0} (f : A → List B) (b : B) (xs : List A) → Among b (flat_map f xs) → (x : A) × Among x xs × Among b (f x)
in_flat f b [] h = absurd h
in_flat f b (y ∷ xs) h =
    elim (among_either b (f y) (flat_map f xs) h) [
      | inl g ↦ (y, inl refl, g)
      | inr g ↦ let r = in_flat f b xs g in (r.0, inr r.1, r.2)
    ]

filtered : {A B : Type 0} (f : A → Option B) (b : B) (y : A) (ys : List A) (o : Option B) → f y ≡ o → ((x : A) × Among x ys × (f x ≡ Some b) → (x : A) × Among x (y ∷ ys) × (f x ≡ Some b))
    → (Among b (filter_map f ys) → (x : A) × Among x ys × (f x ≡ Some b)) → Among b (cons_option o (filter_map f ys)) → (x : A) × Among x (y ∷ ys) × (f x ≡ Some b)
filtered f b y ys None e more rest h = more (rest h)
filtered f b y ys (Some c) e more rest (inl same) = (y, inl refl, e ∙ ap (λ z. Some z) (sym same))
filtered f b y ys (Some c) e more rest (inr h) = more (rest h)

pub in_filter : {A B : Type 0} (f : A → Option B) (b : B) (xs : List A) → Among b (filter_map f xs) → (x : A) × Among x xs × (f x ≡ Some b)
in_filter f b [] h = absurd h
in_filter f b (y ∷ xs) h = filtered f b y xs (f y) refl (λ r. (r.0, inr r.1, r.2)) (in_filter f b xs) h

kept_on : {B : Type 0} (o : Option B) (b : B) (rest : List B) → Among b rest → Among b (cons_option o rest)
kept_on None b rest h = h
kept_on (Some c) b rest h = inr h

pub among_filter : {A B : Type 0} (f : A → Option B) (x : A) (b : B) (xs : List A) → Among x xs → f x ≡ Some b → Among b (filter_map f xs)
among_filter f x b [] h e = absurd h
among_filter f x b (y ∷ xs) (inl same) e =
    let found : f y ≡ Some b = ap f (sym same) ∙ e in
    let P : Option _ → Type 0 = λ o. Among b (cons_option o (filter_map f xs)) in
    subst P (sym found) (inl refl)
among_filter f x b (y ∷ xs) (inr h) e = kept_on (f y) b (filter_map f xs) (among_filter f x b xs h e)

-- ---- numbers

pub among_numbers : (n count i : ℕ) → n ≤ i → i < n + count → Among i (numbers_from n count)
among_numbers n zero i l u = absurd (omega arith)
among_numbers n (suc count) i l u = elim (first_or_later n i l) [ inl e ↦ inl e | inr later ↦ inr (among_numbers (n + 1) count i later (upper n count i u)) ]
  where
    first_or_later : (n i : ℕ) → n ≤ i → (i ≡ n) ⊎ (n + 1 ≤ i)
    first_or_later zero zero l = inl refl
    first_or_later zero (suc i) l = inr (omega arith)
    first_or_later (suc n) zero l = absurd (omega arith)
    first_or_later (suc n) (suc i) l = elim (first_or_later n i (omega arith)) [ inl e ↦ inl (ap suc e) | inr h ↦ inr (omega arith) ]

    upper : (n count i : ℕ) → i < n + suc count → i < n + 1 + count
    upper n count i u = omega arith

pub in_numbers : (n count i : ℕ) → Among i (numbers_from n count) → (n ≤ i) × (i < n + count)
in_numbers n zero i h = absurd h
in_numbers n (suc count) i (inl e) = (at_least n i e, at_most n count i e)
  where
    at_least : (n i : ℕ) → i ≡ n → n ≤ i
    at_least n i e = omega arith

    at_most : (n count i : ℕ) → i ≡ n → i < n + suc count
    at_most n count i e = omega arith
in_numbers n (suc count) i (inr h) = let r = in_numbers (n + 1) count i h in (lower n i r.0, upper n count i r.1)
  where
    lower : (n i : ℕ) → n + 1 ≤ i → n ≤ i
    lower n i l = omega arith

    upper : (n count i : ℕ) → i < n + 1 + count → i < n + suc count
    upper n count i u = omega arith

-- ---- sums

abbrev pub Below : {A : Type 0} → (A → ℕ) → (A → ℕ) → List A → Type 0
Below f g xs = (x : _) → Among x xs → f x ≤ g x

pub sum_at_most : {A : Type 0} (f g : A → ℕ) (xs : List A) → Below f g xs → sum_by f xs ≤ sum_by g xs
sum_at_most f g [] h = omega arith
sum_at_most f g (x ∷ xs) h =
    add_at_most (sum_by f (x ∷ xs)) (sum_by g (x ∷ xs)) (f x) (g x) (sum_by f xs) (sum_by g xs) (sum_by-cons f x xs) (sum_by-cons g x xs) (h x (inl refl)) (sum_at_most f g xs (λ y m. h y (inr m)))
  where
    add_at_most : (s t a b c d : ℕ) → s ≡ a + c → t ≡ b + d → a ≤ b → c ≤ d → s ≤ t
    add_at_most s t a b c d e f l m = omega arith

pub sum_less : {A : Type 0} (f g : A → ℕ) (xs : List A) (x : A) → Below f g xs → Among x xs → f x < g x → sum_by f xs < sum_by g xs
sum_less f g [] x h m l = absurd m
sum_less f g (y ∷ xs) x h (inl e) l =
    let P : _ → Type 0 = λ z. f z < g z in
    first_less (sum_by f (y ∷ xs)) (sum_by g (y ∷ xs)) (f y) (g y) (sum_by f xs) (sum_by g xs) (sum_by-cons f y xs) (sum_by-cons g y xs) (subst P e l) (sum_at_most f g xs (λ z m. h z (inr m)))
  where
    first_less : (s t a b c d : ℕ) → s ≡ a + c → t ≡ b + d → a < b → c ≤ d → s < t
    first_less s t a b c d e f l m = omega arith
sum_less f g (y ∷ xs) x h (inr m) l =
    rest_less (sum_by f (y ∷ xs)) (sum_by g (y ∷ xs)) (f y) (g y) (sum_by f xs) (sum_by g xs) (sum_by-cons f y xs) (sum_by-cons g y xs) (h y (inl refl)) (sum_less f g xs x (λ z n. h z (inr n)) m l)
  where
    rest_less : (s t a b c d : ℕ) → s ≡ a + c → t ≡ b + d → a ≤ b → c < d → s < t
    rest_less s t a b c d e f l m = omega arith

pub sum_bound : {A : Type 0} (f : A → ℕ) (m : ℕ) (xs : List A) → ((x : A) → Among x xs → f x ≤ m) → sum_by f xs ≤ length xs * m
sum_bound f m [] h = omega arith
sum_bound f m (x ∷ xs) h = bound_of (sum_by f (x ∷ xs)) (f x) (sum_by f xs) (length xs) m (sum_by-cons f x xs) (h x (inl refl)) (sum_bound f m xs (λ y n. h y (inr n)))
  where
    bound_of : (s a c k m : ℕ) → s ≡ a + c → a ≤ m → c ≤ k * m → s ≤ suc k * m
    bound_of s a c k m e l h = omega arith

pub zero_part : {A : Type 0} (f : A → ℕ) (xs : List A) (x : A) → sum_by f xs ≤ 0 → Among x xs → f x ≡ 0
zero_part f [] x z m = absurd m
zero_part f (y ∷ xs) x z (inl e) = ap f e ∙ first_zero (sum_by f (y ∷ xs)) (f y) (sum_by f xs) (sum_by-cons f y xs) z
  where
    first_zero : (s a c : ℕ) → s ≡ a + c → s ≤ 0 → a ≡ 0
    first_zero s a c e z = omega arith
zero_part f (y ∷ xs) x z (inr m) = zero_part f xs x (rest_zero (sum_by f (y ∷ xs)) (f y) (sum_by f xs) (sum_by-cons f y xs) z) m
  where
    rest_zero : (s a c : ℕ) → s ≡ a + c → s ≤ 0 → c ≤ 0
    rest_zero s a c e z = omega arith
