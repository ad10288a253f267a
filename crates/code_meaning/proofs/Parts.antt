-- Where the parts of lists stand: in lists one behind the other, in ranges of numbers, and in what is left of a list.
use Rattle.std.proofs.Common.{◌≡◌, ◌≢◌, ◌≤◌, ◌<◌, refl, sym, ap, subst, ◌∙◌, ℕ, zero, suc, ◌+◌, ◌-◌, arith, Bool, true, false, ◌||◌, nat_eq, List, [], ◌∷◌, ◌++◌, map, length, drop, Some, slice_get, inl, inr, ◌⊎◌, length-append, append_assoc}
use Rattle.std.specs.List.{range_with_len}
use Rattle.std.proofs.lemmas.Bool.{false≢true, eq-eqb, eqb-true}
use Rattle.java_tree.specs.declared.types.ValueType.{ValueType as VariableType}
use Rattle.java_tree.specs.declared.method_kinds.MethodKind.{MethodKind}
use Rattle.java_tree.specs.declared.method_kinds.MethodKind.TheVariants.{Entry, Helper, Merge}
use Rattle.flat_code.specs.declared.graph.Instr.{Instr}
use Rattle.body_code.specs.Early.{is_in}
use Rattle.body_code.specs.ClassCode.{variables_of, one_of}
use Rattle.code_meaning.specs.Laid.{IsLaid}
use Rattle.code_meaning.proofs.Lists.{none_some, some_is}

-- ---- lists

pub append_before : {A : Type 0} (xs ys : List A) (i : ℕ) (x : A) → slice_get xs i ≡ Some x → slice_get (xs ++ ys) i ≡ Some x
append_before [] ys i x is = absurd (none_some x is)
append_before (z ∷ xs) ys zero x is = is
append_before (z ∷ xs) ys (suc i) x is = append_before xs ys i x is

pub append_behind : {A : Type 0} (xs ys : List A) (n i : ℕ) → length xs ≡ n → n ≤ i → slice_get (xs ++ ys) i ≡ slice_get ys (i - n)
append_behind [] ys n i is less = let e : i ≡ i - n = omega arith in ap (slice_get ys) e
append_behind (x ∷ xs) ys zero i is less = absurd (omega arith)
append_behind (x ∷ xs) ys (suc n) zero is less = absurd (omega arith)
append_behind (x ∷ xs) ys (suc n) (suc i) is less =
    let e : suc i - suc n ≡ i - n = omega arith in
    let h : length xs ≡ n = omega arith in
    let l : n ≤ i = omega arith in
    append_behind xs ys n i h l ∙ ap (slice_get ys) (sym e)

pub dropped_get : {A B : Type 0} (f : A → B) (xs : List A) (n i : ℕ) (x : A) → slice_get xs i ≡ Some x → n ≤ i → slice_get (map f (drop n xs)) (i - n) ≡ Some (f x)
dropped_get f [] n i x is less = absurd (none_some x is)
dropped_get f (y ∷ xs) zero zero x is less = ap Some (ap f (some_is y x is))
dropped_get f (y ∷ xs) zero (suc i) x is less = let e : suc i - zero ≡ suc i = omega arith in ap (slice_get (map f (y ∷ xs))) e ∙ mapped f xs i x is
  where
    mapped : {A B : Type 0} (f : A → B) (xs : List A) (i : ℕ) (x : A) → slice_get xs i ≡ Some x → slice_get (map f xs) i ≡ Some (f x)
    mapped f [] i x is = absurd (none_some x is)
    mapped f (y ∷ xs) zero x is = ap Some (ap f (some_is y x is))
    mapped f (y ∷ xs) (suc i) x is = mapped f xs i x is
dropped_get f (y ∷ xs) (suc n) zero x is less = absurd (omega arith)
dropped_get f (y ∷ xs) (suc n) (suc i) x is less =
    let e : suc i - suc n ≡ i - n = omega arith in
    let l : n ≤ i = omega arith in
    ap (slice_get (map f (drop n xs))) e ∙ dropped_get f xs n i x is l

pub laid_in : (before xs : List Instr) → IsLaid (before ++ xs) (length before) xs
laid_in before [] = tt
laid_in before (x ∷ xs) =
    let e : length (before ++ x ∷ []) ≡ suc (length before) = length-append before (x ∷ []) ∙ (let z : length before + 1 ≡ suc (length before) = omega arith in z) in
    let same : (before ++ x ∷ []) ++ xs ≡ before ++ x ∷ xs = append_assoc before (x ∷ []) xs in
    (middle before, subst (λ c. IsLaid c (suc (length before)) xs) same (subst (λ n. IsLaid ((before ++ x ∷ []) ++ xs) n xs) e (laid_in (before ++ x ∷ []) xs)))
  where
    middle : (ys : List Instr) → slice_get (ys ++ x ∷ xs) (length ys) ≡ Some x
    middle [] = refl
    middle (y ∷ ys) = middle ys

pub in_either : (v : ℕ) (xs ys : List ℕ) → is_in v (xs ++ ys) ≡ true → (is_in v xs ≡ true) ⊎ (is_in v ys ≡ true)
in_either v [] ys is = inr is
in_either v (x ∷ xs) ys is = by (nat_eq v x) is (in_either v xs ys)
  where
    by : (b : Bool) → (b || is_in v (xs ++ ys)) ≡ true → (is_in v (xs ++ ys) ≡ true → (is_in v xs ≡ true) ⊎ (is_in v ys ≡ true)) → ((b || is_in v xs) ≡ true) ⊎ (is_in v ys ≡ true)
    by true is more = inl refl
    by false is more = more is

pub in_range : (v a n : ℕ) → a ≤ v → v < a + n → is_in v (range_with_len a n) ≡ true
in_range v a zero l h = absurd (omega arith)
in_range v a (suc n) l h = let z : v < a + 1 + n = omega arith in by (nat_eq v a) refl (λ k. in_range v (a + 1) n k z)
  where
    more : v ≢ a → a + 1 ≤ v
    more other = omega arith

    by : (b : Bool) → nat_eq v a ≡ b → (a + 1 ≤ v → is_in v (range_with_len (a + 1) n) ≡ true) → (b || is_in v (range_with_len (a + 1) n)) ≡ true
    by true is rest = refl
    by false is rest = rest (more (λ e. false≢true (sym is ∙ eq-eqb v a e)))

pub range_in : (v a n : ℕ) → is_in v (range_with_len a n) ≡ true → v < a + n
range_in v a zero is = absurd (false≢true is)
range_in v a (suc n) is = by (nat_eq v a) refl is (range_in v (a + 1) n)
  where
    by : (b : Bool) → nat_eq v a ≡ b → (b || is_in v (range_with_len (a + 1) n)) ≡ true → (is_in v (range_with_len (a + 1) n) ≡ true → v < a + 1 + n) → v < a + suc n
    by true e is more = let z : v ≡ a = eqb-true v a e in omega arith
    by false e is more = let z = more is in omega arith

pub unseen_behind : (v n : ℕ) → is_in v (range_with_len 0 n) ≡ false → n ≤ v
unseen_behind v n is = by (le_or n v)
  where
    le_or : (a b : ℕ) → (a ≤ b) ⊎ (b < a)
    le_or a b = grind arith

    by : (n ≤ v) ⊎ (v < n) → n ≤ v
    by (inl l) = l
    by (inr l) = absurd (false≢true (sym is ∙ in_range v 0 n (omega arith) (omega arith)))

pub mapped_length : {A B : Type 0} (f : A → B) (xs : List A) → length (map f xs) ≡ length xs
mapped_length f [] = refl
mapped_length f (x ∷ xs) = ap suc (mapped_length f xs)

pub dropped_length : {A : Type 0} (n : ℕ) (xs : List A) → n ≤ length xs → n + length (drop n xs) ≡ length xs
dropped_length zero xs less = omega arith
dropped_length (suc n) [] less = absurd (omega arith)
dropped_length (suc n) (x ∷ xs) less = let l : n ≤ length xs = omega arith in let h = dropped_length n xs l in omega arith

pub variables_length : (k : MethodKind) (vs : List VariableType) → length (variables_of k vs) ≡ length vs
variables_length Entry vs = mapped_length one_of vs
variables_length Helper vs = mapped_length one_of vs
variables_length Merge [] = refl
variables_length Merge (v ∷ vs) = ap suc (mapped_length one_of vs)
